-- Sets of a part of a summary, none of which names a parameter too many.
use mathlib.Core.Path.{◌≡◌, refl}
use mathlib.Core.Bool.{Bool, true}
use mathlib.Core.List.{List, [], ◌∷◌}
use Prim.Native.Nat.{ℕ, zero, suc, ◌+◌, ◌-◌, ◌≤◌, ◌<◌}
use native.Mathlib.Omega.{arith}
use lib.ListN.{length, get_or, take, drop, length-drop}
use lib.Seq.{length-take-le}
use Rattle.std.specs.List.{list_all}
use Rattle.meaning.specs.Sets.{inside, upto}
use Rattle.meaning.proofs.Lists.{both, both_left, both_right}
use Rattle.flow.proofs.Copies.{part_at}

all_sound : (f : ℕ → Bool) (xs : List ℕ) → list_all f xs ≡ true → (k : ℕ) → k < length xs → f (get_or xs k 0) ≡ true
all_sound f [] e k h = absurd (omega arith)
all_sound f (x ∷ xs) e zero h = both_left (f x) (list_all f xs) e
all_sound f (x ∷ xs) e (suc k) h = all_sound f xs (both_right (f x) (list_all f xs) e) k (omega arith)

all_complete : (f : ℕ → Bool) (xs : List ℕ) → ((k : ℕ) → k < length xs → f (get_or xs k 0) ≡ true) → list_all f xs ≡ true
all_complete f [] h = refl
all_complete f (x ∷ xs) h = both (h 0 (omega arith)) (all_complete f xs (λ k l. h (suc k) (omega arith)))

-- Every set of the rows passes.
abbrev pub names_only : List ℕ → ℕ → Bool
names_only rows n = list_all (λ s. inside s (upto n)) rows

module _ (σ : List ℕ) (i j n : ℕ) (h : j ≤ length σ) where
  long : i ≤ j → length (take (j - i) (drop i σ)) ≡ j - i
  long l = length-take-le (j - i) (drop i σ) (simp length-drop (omega arith))

  pub names_sound : names_only (take (j - i) (drop i σ)) n ≡ true → (k : ℕ) → i ≤ k → k < j → inside (get_or σ k 0) (upto n) ≡ true
  names_sound e k f g =
      let q : i + (k - i) ≡ k = omega arith in
      let x = all_sound (λ s. inside s (upto n)) (take (j - i) (drop i σ)) e (k - i) (omega (arith, long)) in
      rw q at (rw (part_at σ i (j - i) (k - i) (omega arith)) at x)

  pub names_complete : ((k : ℕ) → i ≤ k → k < j → inside (get_or σ k 0) (upto n) ≡ true) → i ≤ j → names_only (take (j - i) (drop i σ)) n ≡ true
  names_complete f l =
      all_complete (λ s. inside s (upto n)) (take (j - i) (drop i σ))
      λ k g.
      let m : k < j - i = omega (arith, long l) in
      rw (part_at σ i (j - i) k m) (f (i + k) (omega arith) (omega arith))
