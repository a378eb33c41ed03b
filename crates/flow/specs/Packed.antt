-- Two numbers in one.
use Rattle.std.specs.Prelude.{◌≡◌, ℕ, ◌/◌, ◌%◌}

-- The set in an expression's answer, and where the next part begins.
unfoldable pub set_in : ℕ → ℕ
set_in r = r % 256

unfoldable pub next_in : ℕ → ℕ
next_in r = r / 256

-- Where the next part begins, and the place of the next row, in a command's answer.
unfoldable pub at_in : ℕ → ℕ
at_in r = r % 65536

unfoldable pub row_in : ℕ → ℕ
row_in r = r / 65536

pub record Flowed (set next r : ℕ) : Type 0 where
  pub set_is : set_in r ≡ set
  pub next_is : next_in r ≡ next

pub record Placed (at row r : ℕ) : Type 0 where
  pub at_is : at_in r ≡ at
  pub row_is : row_in r ≡ row
