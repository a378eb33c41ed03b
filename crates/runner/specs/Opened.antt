-- A readable book, with what is known of its bytes, procedure by procedure.
use Rattle.std.specs.Prelude.{ℕ, ◌<◌, List}
use Rattle.meaning.specs.Tree.{Book}
use Rattle.meaning.specs.Reading.{Scope, entries, arities, procedures}
use Rattle.book.specs.Here.{BookHere}
use Rattle.book.proofs.Readable.{BookFacts, ProcedureView}

pub record Opened (b : List ℕ) : Type 0 where
  pub here : BookHere b
  pub facts : BookFacts b here
  pub procedure : (p : ℕ) → p < procedures b → ProcedureView b here p

abbrev pub book_of : {b : List ℕ} → Opened b → Book
book_of g = g.here.book

-- What a body may name whose procedure has n variables.
abbrev pub in_scope : List ℕ → ℕ → Scope
in_scope b n = record { variables = n; arities = arities (entries b) }
