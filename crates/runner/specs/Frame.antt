-- The frame of a call in one number: the cells that are its variables, and the call depths left.
use Rattle.std.specs.Prelude.{◌≡◌, ℕ, ◌+◌, ◌/◌, ◌%◌, ◌<◌, ◌≤◌, List, ◌++◌, length, take, drop, replicate}
use Rattle.meaning.specs.Reading.{procedures, entry}
use Rattle.runner.specs.Opened.{Opened}

abbrev pub cells : ℕ → ℕ
cells f = f % 32

abbrev pub depths : ℕ → ℕ
depths f = f / 32

pub record Framed (n d f : ℕ) : Type 0 where
  pub cells_are : cells f ≡ n
  pub depths_are : depths f ≡ d

-- A procedure of the book, the values of a call, and room for its variables.
pub record PreparedPre (b : List ℕ) (p : ℕ) (given w : List ℕ) : Type 0 where
  pub book : Opened b
  pub known : p < procedures b
  pub eight : length given ≡ 8
  pub room : 16 ≤ length w

-- Its n variables: parameters start as the values given, locals as 0. The cells behind them stay as they were.
pub record PreparedPost (b : List ℕ) (p : ℕ) (given w w' : List ℕ) (n : ℕ) : Type 0 where
  pub counted : n ≡ (entry b p).parameters + (entry b p).locals
  pub few : n ≤ 16
  pub begun : take n w' ≡ take (entry b p).parameters given ++ replicate (entry b p).locals 0
  pub others : drop n w' ≡ drop n w
  pub long : length w' ≡ length w
