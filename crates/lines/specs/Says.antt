-- A text in an array: the array begins with it, and is 0 behind it.
use Rattle.std.specs.Prelude.{◌≡◌, List, [], ◌∷◌, ◌++◌, ℕ, ◌-◌, ◌≤◌, length, replicate}
use Rattle.meaning.specs.Answers.{decimal}

-- The bytes that a text has room for.
abbrev pub room : ℕ
room = 512

pub record Says (text bytes : List ℕ) (len : ℕ) : Type 0 where
  pub fits : len ≤ room
  pub len_is : len ≡ length text
  pub bytes_is : bytes ≡ text ++ replicate (room - len) 0

-- The line of one procedure: number, parameters, locals, result set, one space between.
abbrev pub line_of : ℕ → ℕ → ℕ → ℕ → List ℕ
line_of p parameters locals result =
    decimal p ++ (32 ∷ decimal parameters ++ (32 ∷ decimal locals ++ (32 ∷ decimal result ++ (10 ∷ []))))

-- The most bytes of such a line: four numbers of three digits, and a byte behind each.
abbrev pub line_bytes : ℕ
line_bytes = 16
