-- `variable` meets its contract.
use mathlib.Core.Path.{◌∙◌}
use Rattle.book.proofs.Parts.{told_err}
use Rattle.book.proofs.Laws.Expressions.{variable_short, variable_known, variable_unknown}
use Rattle.book.proofs.expression.variable.Goals as goal

pub returns-in_err-x : goal.returns-in_err-x
returns-in_err-x c = let h = c.in_err-x.ensures in told_err _ _ c.from_residual.ensures.1 ∙ rw h.1 (search (variable_short, h.0))

pub returns-then-number-variables : goal.returns-then-number-variables
returns-then-number-variables c = let h = c.in_ok-x.ensures in rw c.bytes.ensures (search (variable_known, h.0, c.number.ensures.0 ∙ h.1))

pub returns-else-number-variables : goal.returns-else-number-variables
returns-else-number-variables c = let h = c.in_ok-x.ensures in rw c.at.ensures (search (variable_unknown, h.0, c.number.ensures.0 ∙ h.1))
