-- `body` meets its contract.
use mathlib.Core.Path.{◌∙◌}
use Rattle.book.proofs.Parts.{told_err}
use Rattle.book.proofs.Laws.Closings.{body_fault, body_left, body_whole}
use Rattle.book.proofs.closing.body.Goals as goal

pub returns-in_err-all : goal.returns-in_err-all
returns-in_err-all c = told_err _ _ c.from_residual.ensures.1 ∙ body_fault _ _ c.in_err-all.ensures

pub returns-then-more : goal.returns-then-more
returns-then-more c = let e = c.in_ok-all.ensures in rw c.at.ensures (search (body_left, e))

pub returns-else-more : goal.returns-else-more
returns-else-more c = let e = c.in_ok-all.ensures in search (body_whole, e)
