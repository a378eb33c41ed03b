-- Hexadecimal digits, with small letters or with large ones.
use Rattle.std.specs.Prelude.{ℕ, ◌+◌, ◌-◌, ◌*◌, ◌&&◌, cond, leb}
use Rattle.input.specs.declared.hex.Letters.{Letters}
use Rattle.input.specs.declared.hex.Letters.TheVariants.{Small, Large}

-- The letter that stands for ten.
unfoldable pub ten : Letters → ℕ
ten Small = 97
ten Large = 65

-- The number that a digit says; 0 where it is none.
unfoldable pub digit : Letters → ℕ → ℕ
digit letters c =
    cond (leb 48 c && leb c 57) (c - 48)
    (cond (leb (ten letters) c && leb c (ten letters + 5)) (c - ten letters + 10) 0)

-- The byte of two digits.
unfoldable pub byte : Letters → ℕ → ℕ → ℕ
byte letters high low = 16 * digit letters high + digit letters low
