-- `constant` meets its contract.
use Rattle.book.proofs.Laws.Expressions.{constant_short, constant_whole}
use Rattle.book.proofs.expression.constant.Goals as goal

pub returns-then-part-lt5 : goal.returns-then-part-lt5
returns-then-part-lt5 c = rw c.at.ensures (search constant_short)

pub returns : goal.returns
returns c = rw c.bytes.ensures (search constant_whole)
