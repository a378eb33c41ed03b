-- `assignment` meets its contract.
use mathlib.Core.Path.{◌∙◌}
use native.Mathlib.Omega.{arith}
use Rattle.book.proofs.Parts.{told_err}
use Rattle.book.proofs.Extent.{expr_span, expr_count}
use Rattle.book.proofs.Laws.Commands.{assignment_short, assignment_known, assignment_unknown}
use Rattle.book.proofs.command.assignment.Goals as goal

pub returns-in_err-x : goal.returns-in_err-x
returns-in_err-x c = let h = c.in_err-x.ensures in told_err _ _ c.from_residual.ensures.1 ∙ rw h.1 (search (assignment_short, h.0))

pub then-requires : goal.then-requires
then-requires c = rw c.bytes.ensures (omega (arith, expr_span), omega (arith, expr_count))

pub returns-then-number-scope : goal.returns-then-number-scope
returns-then-number-scope c =
    let h = c.in_ok-x.ensures in
    let e = rw c.bytes.ensures at c.then.ensures in
    search (assignment_known, h.0, c.number.ensures.0 ∙ h.1, e)

pub returns-else-number-scope : goal.returns-else-number-scope
returns-else-number-scope c = let h = c.in_ok-x.ensures in rw c.at.ensures (search (assignment_unknown, h.0, c.number.ensures.0 ∙ h.1))
