-- The lines of a readable book, where its summary is at hand.
use Rattle.std.specs.Prelude.{◌≡◌, List, [], ◌∷◌, ◌++◌, ℕ, Result, Ok, Err}
use Rattle.meaning.specs.Answers.{lines, listing, decimal, refused_text}
use Rattle.refusals.specs.declared.Refusal.{Refusal}
use Rattle.refusals.specs.Numbers.{number}
use Rattle.book.specs.Here.{BookHere}

pub record Listed (book summary text : List ℕ) : Type 0 where
  pub lists : (g : BookHere book) → text ≡ lines 0 g.book summary

-- The book's lines, or the refusal that its listing tells.
abbrev pub ListsOrRefuses : List ℕ → Result (List ℕ) Refusal → Type 0
ListsOrRefuses book (Ok text) = text ≡ listing book
ListsOrRefuses book (Err refusal) = listing book ≡ refused_text ++ (decimal (number refusal) ++ (10 ∷ []))
