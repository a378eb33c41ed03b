-- What a part of the run comes to, and how one number says it: the value in the low 32 bits, the steps left in the next 29; and
-- where the highest bit is set the run has ended, as the highest three bits say (4 out of steps, 5 too deep: 2 above the ending's
-- number).
use Rattle.std.specs.Prelude.{◌≡◌, ℕ, ◌/◌, ◌%◌, ◌^◌, Bool, true, false, nat_le}

pub record Answer : Type 0 where
  pub ending : ℕ
  pub value : ℕ
  pub left : ℕ

-- How it ended, by whether it has.
unfoldable pub ended_as : Bool → ℕ → ℕ
ended_as true r = r / 2 ^ 61
ended_as false r = 0

unfoldable pub answer_of : ℕ → Answer
answer_of r =
    record {
      ending = ended_as (nat_le 0x8000000000000000 r) r;
      value = r % 2 ^ 32;
      left = r / 2 ^ 32 % 2 ^ 29;
    }

-- The run goes on with a result.
abbrev pub going : ℕ → ℕ → Answer
going v l = record { ending = 0; value = v; left = l }

-- The run has ended.
abbrev pub over : ℕ → ℕ → Answer
over e l = record { ending = e; value = 0; left = l }

-- What making an answer, and taking one apart, is held to.
pub record Yields (v l r : ℕ) : Type 0 where
  pub is : answer_of r ≡ going v l

pub record Ends (e l r : ℕ) : Type 0 where
  pub is : answer_of r ≡ over e l

pub record HasResult (r v : ℕ) : Type 0 where
  pub is : v ≡ (answer_of r).value

pub record HasLeft (r l : ℕ) : Type 0 where
  pub is : l ≡ (answer_of r).left
