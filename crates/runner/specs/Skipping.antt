-- Parts that stand in a row, and what is promised of passing over them.
use Rattle.std.specs.Prelude.{◌≡◌, ℕ, zero, suc, ◌<◌, List}
use Rattle.meaning.specs.Reading.{Scope}
use Rattle.book.proofs.Text.{ExprHere, CmdHere, RunHere, ClosingHere}
use Rattle.runner.specs.Opened.{Opened, in_scope}
use Rattle.runner.specs.declared.skip.Head.{Head}

-- An expression, a command, a run, a closing sequence from one place to another, whatever rows its loops have.
pub record SomeExpr (b : List ℕ) (v : Scope) (at next : ℕ) : Type 0 where
  pub here : ExprHere b v at
  pub ends : next ≡ here.next

pub record SomeCmd (b : List ℕ) (v : Scope) (at next : ℕ) : Type 0 where
  pub row : ℕ
  pub here : CmdHere b v row at
  pub ends : next ≡ here.next

pub record SomeRun (b : List ℕ) (v : Scope) (at next : ℕ) : Type 0 where
  pub row : ℕ
  pub here : RunHere b v row at
  pub ends : next ≡ here.next

pub record SomeClosing (b : List ℕ) (v : Scope) (at next : ℕ) : Type 0 where
  pub row : ℕ
  pub here : ClosingHere b v row at
  pub ends : next ≡ here.next

-- So many parts, one after another.
unfoldable pub InRow : (ℕ → ℕ → Type 0) → ℕ → ℕ → ℕ → Type 0
InRow P zero at next = next ≡ at
InRow P (suc k) at next = (mid : ℕ) × P at mid × InRow P k mid next

pub record RowPre (P : Scope → ℕ → ℕ → Type 0) (b : List ℕ) (at count : ℕ) : Type 0 where
  pub book : Opened b
  pub variables : ℕ
  pub next : ℕ
  pub row : InRow (P (in_scope b variables)) count at next

-- The place after the row.
pub record RowPost (P : Scope → ℕ → ℕ → Type 0) (b : List ℕ) (at count r : ℕ) : Type 0 where
  pub past : (n next : ℕ) → InRow (P (in_scope b n)) count at next → r ≡ next

pub record PartPre (P : Scope → ℕ → ℕ → Type 0) (b : List ℕ) (at : ℕ) : Type 0 where
  pub book : Opened b
  pub variables : ℕ
  pub next : ℕ
  pub part : P (in_scope b variables) at next

-- The place after the part.
pub record PartPost (P : Scope → ℕ → ℕ → Type 0) (b : List ℕ) (at r : ℕ) : Type 0 where
  pub past : (n next : ℕ) → P (in_scope b n) at next → r ≡ next

-- A part is its head, and then a row of parts up to its end.
pub record HeadPost (P Q : Scope → ℕ → ℕ → Type 0) (b : List ℕ) (at : ℕ) (r : Head) : Type 0 where
  pub on : at < r.next
  pub rest : (n next : ℕ) → P (in_scope b n) at next → InRow (Q (in_scope b n)) r.more r.next next
