-- A constant's four bytes, low byte first.
use Rattle.std.specs.Prelude.{List, ℕ, ◌+◌, ◌*◌, get_or}

abbrev pub four_of : List ℕ → ℕ → ℕ
four_of b at = get_or b at 0 + 256 * (get_or b (at + 1) 0 + 256 * (get_or b (at + 2) 0 + 256 * get_or b (at + 3) 0))
