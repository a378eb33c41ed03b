-- What holds of each element of a list, and between the elements of two lists in order.
use mathlib.Core.Path.{◌≡◌, refl, ap}
use mathlib.Core.Logic.{⊎_elim}
use mathlib.Core.List.{List, [], ◌∷◌, ◌++◌, map}
use mathlib.Core.Option.{some}
use Prim.Native.Nat.{ℕ, zero, suc, ◌<◌}
use native.Mathlib.Omega.{arith}
use lib.ListN.{length, get_or, set, replicate, get_elem?}
use Rattle.meaning.specs.Lists.{each}
use Rattle.meaning.proofs.Lists.{below_suc}

pub data All {A : Type 0} (P : A → Type 0) : List A → Type 0 where
  done : All P []
  also : {a : A} {s : List A} → P a → All P s → All P (a ∷ s)

pub data Pairs {A B : Type 0} (R : A → B → Type 0) : List A → List B → Type 0 where
  done : Pairs R [] []
  also : {a : A} {b : B} {s : List A} {t : List B} → R a b → Pairs R s t → Pairs R (a ∷ s) (b ∷ t)

module _ {A : Type 0} {P : A → Type 0} where
  pub all_append : {s t : List A} → All P s → All P t → All P (s ++ t)
  all_append done q = q
  all_append (also x p) q = also x (all_append p q)

  pub all_left : (s t : List A) → All P (s ++ t) → All P s
  all_left [] t h = done
  all_left (a ∷ s) t (also x h) = also x (all_left s t h)

  pub all_right : (s t : List A) → All P (s ++ t) → All P t
  all_right [] t h = h
  all_right (a ∷ s) t (also x h) = all_right s t h

  pub all_each : (n : ℕ) (f : ℕ → A) → ((i : ℕ) → i < n → P (f i)) → All P (each n f)
  unfolding each
  all_each zero f h = done
  all_each (suc n) f h = all_append (all_each n f (λ i l. h i (omega arith))) (also (h n (omega arith)) done)

  pub all_replicate : (n : ℕ) (a : A) → P a → All P (replicate n a)
  all_replicate zero a p = done
  all_replicate (suc n) a p = also p (all_replicate n a p)

  pub all_get_d : {s : List A} → All P s → (i : ℕ) {d : A} → P d → P (get_or s i d)
  all_get_d done i p = p
  all_get_d (also x h) zero p = x
  all_get_d (also x h) (suc i) p = all_get_d h i p

  pub all_at : {s : List A} → All P s → (i : ℕ) {a : A} → get_elem? s i ≡ some a → P a
  all_at done i e = let z : ◌≡◌ {A = ℕ} 0 1 = cc in absurd (omega arith)
  all_at (also {a = b} x h) zero {a} e = let q : b ≡ a = cc in rw q at x
  all_at (also x h) (suc i) e = all_at h i e

  -- What each element of an `each` has.
  pub each_all : (n : ℕ) (f : ℕ → A) → All P (each n f) → (i : ℕ) → i < n → P (f i)
  unfolding each
  each_all zero f h i l = absurd (omega arith)
  each_all (suc n) f h i l =
      ⊎_elim (λ m. each_all n f (all_left (each n f) (f n ∷ []) h) i m)
      (λ e. rw e (only (all_right (each n f) (f n ∷ []) h)))
      (below_suc l)
    where
      only : {a : A} → All P (a ∷ []) → P a
      only (also x h) = x

pub all_mono : {A : Type 0} {P Q : A → Type 0} {s : List A} → ((a : A) → P a → Q a) → All P s → All Q s
all_mono f done = done
all_mono f (also {a} p h) = also (f a p) (all_mono f h)

pub all_map : {A B : Type 0} {P : A → Type 0} {Q : B → Type 0} (f : A → B) → ((a : A) → P a → Q (f a)) →
    {s : List A} → All P s → All Q (map f s)
all_map f g done = done
all_map f g (also {a} x h) = also (g a x) (all_map f g h)

-- A list beside itself, and what a pairing says of the first list.
pub all_pairs : {A : Type 0} {P : A → Type 0} {s : List A} → All P s → Pairs (λ a b. P a) s s
all_pairs done = done
all_pairs (also x h) = also x (all_pairs h)

pub pairs_refl : {A : Type 0} {R : A → A → Type 0} → ((a : A) → R a a) → (s : List A) → Pairs R s s
pairs_refl r [] = done
pairs_refl r (a ∷ s) = also (r a) (pairs_refl r s)

pub pairs_all : {A B : Type 0} {R : A → B → Type 0} {P : A → Type 0} {s : List A} {t : List B} →
    ((a : A) (b : B) → R a b → P a) → Pairs R s t → All P s
pairs_all f done = done
pairs_all f (also {a} {b} x h) = also (f a b x) (pairs_all f h)

module _ {A B : Type 0} {R : A → B → Type 0} where
  pub pairs_append : {s u : List A} {t v : List B} → Pairs R s t → Pairs R u v → Pairs R (s ++ u) (t ++ v)
  pairs_append done q = q
  pairs_append (also x p) q = also x (pairs_append p q)

  pub pairs_each : (n : ℕ) (f : ℕ → A) (g : ℕ → B) → ((i : ℕ) → i < n → R (f i) (g i)) → Pairs R (each n f) (each n g)
  unfolding each
  pairs_each zero f g h = done
  pairs_each (suc n) f g h = pairs_append (pairs_each n f g (λ i l. h i (omega arith))) (also (h n (omega arith)) done)

  pub pairs_get_or : {s : List A} {t : List B} → Pairs R s t → (i : ℕ) {d : A} {e : B} → R d e → R (get_or s i d) (get_or t i e)
  pairs_get_or done i r = r
  pairs_get_or (also x h) zero r = x
  pairs_get_or (also x h) (suc i) r = pairs_get_or h i r

  pub pairs_set : {s : List A} {t : List B} → Pairs R s t → (i : ℕ) {a : A} {b : B} → R a b → Pairs R (set s i a) (set t i b)
  pairs_set done i r = done
  pairs_set (also x h) zero r = also r h
  pairs_set (also x h) (suc i) r = also x (pairs_set h i r)

  pub pairs_length : {s : List A} {t : List B} → Pairs R s t → length s ≡ length t
  pairs_length done = refl
  pairs_length (also x h) = ap suc (pairs_length h)

-- Two lists of one length are paired where they are so at each place.
pub pairs_by_place : {A B : Type 0} {R : A → B → Type 0} (s : List A) (t : List B) (d : A) (e : B) →
    length s ≡ length t → ((i : ℕ) → i < length s → R (get_or s i d) (get_or t i e)) → Pairs R s t
pairs_by_place [] [] d e l h = done
pairs_by_place [] (b ∷ t) d e l h = absurd (omega arith)
pairs_by_place (a ∷ s) [] d e l h = absurd (omega arith)
pairs_by_place (a ∷ s) (b ∷ t) d e l h =
    also (h 0 (omega arith)) (pairs_by_place s t d e (omega arith) (λ i q. h (suc i) (omega arith)))
