-- A test of every element, by the elements' numbers.
use mathlib.Core.Path.{◌≡◌, refl, sym, ap, ◌∙◌}
use mathlib.Core.Bool.{Bool, ◌&&◌, and-true, and_assoc}
use mathlib.Core.List.{List, [], ◌∷◌}
use Prim.Native.Nat.{ℕ, zero, suc}
use lib.ListN.{length, get_or}
use Rattle.std.specs.List.{list_all}
use Rattle.meaning.specs.Lists.{every}

-- Every number, from the first on.
first_too : (n : ℕ) (f : ℕ → Bool) → every (suc n) f ≡ (f 0 && every n λ i. f (suc i))
unfolding every
first_too zero f = sym (and-true (f 0))
first_too (suc n) f = ap (λ x. x && f (suc n)) (first_too n f) ∙ and_assoc (f 0) (every n λ i. f (suc i)) (f (suc n))

pub all_every : (f : ℕ → Bool) (xs : List ℕ) → list_all f xs ≡ every (length xs) λ i. f (get_or xs i 0)
unfolding every
all_every f [] = refl
all_every f (x ∷ xs) = ap (λ b. f x && b) (all_every f xs) ∙ sym (first_too (length xs) λ i. f (get_or (x ∷ xs) i 0))
