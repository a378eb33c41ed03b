-- Sets of parameters, for any width.
use Rattle.std.specs.Prelude.{◌≡◌, Bool, true, cond, List, ℕ, ◌^◌, ◌/◌, ◌%◌, eqb, length, get_or}
use Rattle.std.specs.Int.Bits.{bit_or}
use Rattle.meaning.specs.Lists.{fold}

infix 4 ◌⊆◌
-- The set that names no parameter.
unfoldable pub empty : ℕ
empty = 0

-- The set of one parameter.
unfoldable pub single : ℕ → ℕ
single i = 2 ^ i

-- What either set names.
unfoldable pub union : ℕ → ℕ → ℕ
union s t = bit_or s t

-- Parameter i is in the set: bit i.
unfoldable pub member : ℕ → ℕ → Bool
member i s = eqb (s / 2 ^ i % 2) 1

-- Every parameter that the first set names, the second names too.
unfoldable pub inside : ℕ → ℕ → Bool
inside s t = eqb (union s t) t

-- The same, said of each parameter.
pub record ◌⊆◌ (s t : ℕ) : Type 0 where
  pub each : (i : ℕ) → member i s ≡ true → member i t ≡ true

-- The first n parameters.
unfoldable pub upto : ℕ → ℕ
upto n = fold n (λ i s. union s (single i)) empty

-- The union of those of the sets whose position is in the set `chosen`.
unfoldable pub gather : ℕ → List ℕ → ℕ
gather chosen sets = fold (length sets) (λ i s. cond (member i chosen) (union s (get_or sets i empty)) s) empty
