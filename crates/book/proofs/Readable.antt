-- A readable book: what its bytes and its tree have to do with each other, procedure by procedure.
use mathlib.Core.Path.{◌≡◌}
use mathlib.Core.List.{List}
use mathlib.Core.Option.{some}
use Prim.Native.Nat.{ℕ, ◌≤◌, ◌<◌}
use lib.ListN.{length, get_or, get_elem?}
use Rattle.meaning.specs.Limits.{most_bytes, most_procedures, most_parameters, most_locals, most_loops}
use Rattle.meaning.specs.Tree.{Procedure}
use Rattle.meaning.specs.Reading.{Scope, entry, entries, arities, scope, procedures, contents_end, loops_all}
use Rattle.meaning.proofs.Places.{row_of}
use Rattle.book.specs.Here.{BookHere}
use Rattle.book.proofs.Text.{ClosingHere}

-- What the body of procedure p may name.
abbrev pub scope_of : List ℕ → ℕ → Scope
scope_of bytes p = scope (arities (entries bytes)) (entry bytes p)

pub record BookFacts (bytes : List ℕ) (g : BookHere bytes) : Type 0 where
  pub counted : length g.book ≡ procedures bytes
  pub some : 1 ≤ procedures bytes
  pub few : procedures bytes ≤ most_procedures
  pub some_bytes : 1 ≤ length bytes
  pub few_bytes : length bytes ≤ most_bytes
  pub contents : contents_end bytes ≤ length bytes
  pub arities_counted : length (arities (entries bytes)) ≡ procedures bytes
  pub arity : (p : ℕ) → p < procedures bytes → get_or (arities (entries bytes)) p 0 ≡ (entry bytes p).parameters
  pub few_parameters : (p : ℕ) → p < procedures bytes → (entry bytes p).parameters ≤ most_parameters
  pub few_locals : (p : ℕ) → p < procedures bytes → (entry bytes p).locals ≤ most_locals
  pub few_loops_lem : loops_all g.book ≤ most_loops

-- Procedure p of the book, and where its body stands.
pub record ProcedureView (bytes : List ℕ) (g : BookHere bytes) (p : ℕ) : Type 0 where
  pub procedure : Procedure
  pub found : get_elem? g.book p ≡ some procedure
  pub parameters : procedure.parameters ≡ (entry bytes p).parameters
  pub locals : procedure.locals ≡ (entry bytes p).locals
  pub body : ClosingHere bytes (scope_of bytes p) (row_of (length g.book) g.book p) (entry bytes p).offset
  pub tree : body.tree ≡ procedure.body
