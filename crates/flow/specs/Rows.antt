-- The variables' sets of a procedure, as the walk holds them: a row as wide as any procedure, its first w places in use.
use Rattle.std.specs.Prelude.{◌≡◌, List, ℕ, ◌+◌, length, take}
use Rattle.meaning.specs.Limits.{most_parameters, most_locals}
use Rattle.meaning.specs.Flow.{by_sets, row}

-- How many variables a procedure may have.
abbrev pub most_variables : ℕ
most_variables = most_parameters + most_locals

pub record Wide (bits : List ℕ) : Type 0 where
  pub long : length bits ≡ most_variables

-- The row that a summary holds at place k.
pub record Held (summary : List ℕ) (k w : ℕ) (bits : List ℕ) : Type 0 where
  pub wide : Wide bits
  pub same : take w bits ≡ row (by_sets summary w) k
