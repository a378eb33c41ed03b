-- What is known of the contents before the bodies are read.
use Rattle.std.specs.Prelude.{◌≡◌, List, ℕ, ◌≤◌, length}
use Rattle.meaning.specs.Limits.{most_procedures}
use Rattle.meaning.specs.Reading.{procedures, contents_end}

-- The book begins with a table of contents of so many entries.
pub record Listed (b : List ℕ) (count : ℕ) : Type 0 where
  pub counted : count ≡ procedures b
  pub few : count ≤ most_procedures
  pub fits : contents_end b ≤ length b
