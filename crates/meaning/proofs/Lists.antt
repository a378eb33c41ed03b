-- Laws of the lists, folds and tests over the numbers below n. Every theorem rests on these, and these come after the table of starred cases.
use mathlib.Core.Path.{◌≡◌, refl, ◌∙◌}
use mathlib.Core.Logic.{◌⊎◌, inl, inr, ⊎_elim}
use mathlib.Core.Bool.{Bool, true, false, ◌&&◌, or-true}
use mathlib.Core.List.{List, [], ◌∷◌}
use mathlib.Core.Option.{none}
use Prim.Native.Nat.{ℕ, zero, suc, ◌<◌, ◌≤◌}
use native.Mathlib.Omega.{arith}
use native.Mathlib.Numerals.{add-one}
use native.Mathlib.Decide.{ℕ_discrete}
use lib.ListN.{length, get_or, get_elem?, length-append, get_or-append}
use lib.Seq.{get_or_at}
use Rattle.meaning.specs.Lists.{each, fold, every, some_below}
use Rattle.meaning.specs.Worked.{EveryRow}
use Rattle.meaning.proofs.Starred.{every_row}

-- The table of starred cases: it stands here, so that a changed definition meets it before any theorem.
table_holds : EveryRow
table_holds = every_row

-- A conjunction that holds, in its parts and back.
pub both_left : (a b : Bool) → (a && b) ≡ true → a ≡ true
both_left true b h = refl
both_left false b h = h

pub both_right : (a b : Bool) → (a && b) ≡ true → b ≡ true
both_right true b h = h
both_right false b h = let z : ◌≡◌ {A = ℕ} 0 1 = cc in absurd (omega arith)

pub both : {a b : Bool} → a ≡ true → b ≡ true → (a && b) ≡ true
both {a} {b} p q = rw (p, q)

-- A test holds or fails.
abbrev pub Tested : Bool → Type 0
Tested t = (t ≡ true) ⊎ (t ≡ false)

pub holds_or_fails : (t : Bool) → Tested t
holds_or_fails true = inl refl
holds_or_fails false = inr refl

-- A number below suc n is below n or is n.
pub below_suc : {i n : ℕ} → i < suc n → (i < n) ⊎ (i ≡ n)
below_suc {i} {n} h = elim (ℕ_discrete i n) [ yes e ↦ inr e | no u ↦ inl (omega arith) ]

-- What holds at the start, and is kept at each number, holds of the whole fold.
pub fold_keeps : {A : Type 0} (P : ℕ → A → Type 0) (n : ℕ) (f : ℕ → A → A) (a : A) →
    P 0 a → ((i : ℕ) (s : A) → i < n → P i s → P (suc i) (f i s)) → P n (fold n f a)
unfolding fold
fold_keeps P zero f a base step = base
fold_keeps P (suc n) f a base step =
    step n (fold n f a) (omega arith) (fold_keeps P n f a base (λ i s h p. step i s (omega arith) p))

pub length_each : {A : Type 0} (n : ℕ) (f : ℕ → A) → length (each n f) ≡ n
unfolding each
length_each zero f = refl
length_each (suc n) f = rw (length-append, length_each n f, add-one)

pub get_or_each : {A : Type 0} (n : ℕ) (f : ℕ → A) (i : ℕ) (d : A) → i < n → get_or (each n f) i d ≡ f i
unfolding each
get_or_each zero f i d h = absurd (omega arith)
get_or_each (suc n) f i d h =
    ⊎_elim
    (λ l. get_or-append (each n f) (f n ∷ []) d i (rw (length_each n f) l) ∙ get_or_each n f i d l)
    (λ e. rw e (get_or_at (each n f) (f n) [] d n (length_each n f)))
    (below_suc h)

pub every_sound : (n : ℕ) (f : ℕ → Bool) → every n f ≡ true → (i : ℕ) → i < n → f i ≡ true
unfolding every
every_sound zero f e i h = absurd (omega arith)
every_sound (suc n) f e i h =
    ⊎_elim (λ l. every_sound n f (both_left _ _ e) i l) (λ q. rw q (both_right (every n f) (f n) e)) (below_suc h)

pub every_complete : (n : ℕ) (f : ℕ → Bool) → ((i : ℕ) → i < n → f i ≡ true) → every n f ≡ true
unfolding every
every_complete zero f h = refl
every_complete (suc n) f h = both (every_complete n f (λ i l. h i (omega arith))) (h n (omega arith))

pub some_sound : (n : ℕ) (f : ℕ → Bool) → some_below n f ≡ true → (i : ℕ) × (i < n) × (f i ≡ true)
unfolding some_below
some_sound zero f e = let z : ◌≡◌ {A = ℕ} 0 1 = cc in absurd (omega arith)
some_sound (suc n) f e = go (some_below n f) refl (some_sound n f)
  where
    go : (t : Bool) → some_below n f ≡ t → (some_below n f ≡ true → (i : ℕ) × (i < n) × (f i ≡ true)) →
        (i : ℕ) × (i < suc n) × (f i ≡ true)
    go true q ih = ((ih q).0, omega (arith, (ih q).1), (ih q).2)
    go false q ih = (n, omega arith, rw q at e)

pub some_complete : (n : ℕ) (f : ℕ → Bool) (i : ℕ) → i < n → f i ≡ true → some_below n f ≡ true
unfolding some_below
some_complete zero f i h e = absurd (omega arith)
some_complete (suc n) f i h e =
    ⊎_elim (λ l. rw (some_complete n f i l e)) (λ q. rw (rw q at e) (or-true (some_below n f))) (below_suc h)

-- A number at or above the length names no element.
pub none_beyond : {A : Type 0} (l : List A) (i : ℕ) → length l ≤ i → get_elem? l i ≡ none
none_beyond [] i h = refl
none_beyond (a ∷ l) zero h = absurd (omega arith)
none_beyond (a ∷ l) (suc i) h = none_beyond l i (omega arith)
