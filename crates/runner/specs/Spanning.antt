-- Parts that stand in rows have a place in the book.
use Rattle.std.proofs.Common.{ℕ, List, arith}
use Rattle.meaning.specs.Reading.{Scope}
use Rattle.book.proofs.Views.Bounds.{Spans, expr_spans, cmd_spans, run_spans, closing_spans}
use Rattle.runner.specs.Skipping.{SomeExpr, SomeCmd, SomeRun, SomeClosing}

-- What is passed over in rows: each part ends after it begins, and within the book.
pub record Spanned (b : List ℕ) (P : Scope → ℕ → ℕ → Type 0) : Type 0 where
  pub spans : (v : Scope) (at next : ℕ) → P v at next → Spans b at next

pub spanned_expr : (b : List ℕ) → Spanned b (SomeExpr b)
spanned_expr b = record { spans = λ v at next x. let h = expr_spans x.here in omega arith }

pub spanned_cmd : (b : List ℕ) → Spanned b (SomeCmd b)
spanned_cmd b = record { spans = λ v at next x. let h = cmd_spans x.here in omega arith }

pub spanned_run : (b : List ℕ) → Spanned b (SomeRun b)
spanned_run b = record { spans = λ v at next x. let h = run_spans x.here in omega arith }

pub spanned_closing : (b : List ℕ) → Spanned b (SomeClosing b)
spanned_closing b = record { spans = λ v at next x. let h = closing_spans x.here in omega arith }
