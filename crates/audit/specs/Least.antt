-- What is answered of a book by its least summary.
use Rattle.std.specs.Prelude.{List, ℕ, length}
use Rattle.meaning.specs.Entries.{FindsIn, Reports}

-- The summary is the one that the finder leaves in a buffer of its size, found in so many rounds; the level is the one reported by it.
pub record Least (book table : List ℕ) (p : ℕ) (ls summary : List ℕ) (rounds level : ℕ) : Type 0 where
  pub found : FindsIn book summary 0 (length summary) rounds summary
  pub reported : Reports book table p ls summary 0 level
