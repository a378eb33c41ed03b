-- A book that is known to be readable.
use Rattle.std.specs.Prelude.{◌≡◌, List, ℕ}
use Rattle.meaning.specs.Tree.{Book}
use Rattle.meaning.specs.Flow.{size}
use Rattle.meaning.specs.Reading.{readable, read}

-- The bytes are readable, as this book.
pub record BookHere (bytes : List ℕ) : Type 0 where
  pub book : Book
  pub is : read bytes ≡ readable book

-- The bytes are readable, and the book's summaries have this size.
pub record Sized (b : List ℕ) (n : ℕ) : Type 0 where
  pub book : BookHere b
  pub size_is : n ≡ size book.book
