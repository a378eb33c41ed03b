-- A number in decimal, as an argument gives it: 1 to 18 digits and nothing else.
use Rattle.std.specs.Prelude.{◌≡◌, Bool, ◌&&◌, List, ℕ, ◌+◌, ◌-◌, ◌*◌, leb, length, get_or, Option, is_some, IfSome}
use Rattle.meaning.specs.Lists.{fold, every}

-- So many digits fit a number of 64 bits.
abbrev pub most_digits : ℕ
most_digits = 18

abbrev pub is_digit : ℕ → Bool
is_digit b = leb 48 b && leb b 57

-- The first n bytes are digits.
unfoldable pub digits_to : List ℕ → ℕ → Bool
digits_to s n = every n λ i. is_digit (get_or s i 0)

-- The number that the first n digits say.
unfoldable pub value_to : List ℕ → ℕ → ℕ
value_to s n = fold n (λ i v. 10 * v + (get_or s i 0 - 48)) 0

unfoldable pub is_number : List ℕ → Bool
is_number s = leb 1 (length s) && (leb (length s) most_digits && digits_to s (length s))

-- What reading a number answers: the number, where the text is one.
pub record ReadsNumber (s : List ℕ) (answer : Option ℕ) : Type 0 where
  pub known_is : is_some answer ≡ is_number s
  pub value_is : IfSome answer (λ value. value ≡ value_to s (length s))
