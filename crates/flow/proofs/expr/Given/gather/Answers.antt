use Rattle.flow.proofs.Calls.{gathering_none, gathering_more, gathering_passed, gathering_done}
use Rattle.flow.proofs.expr.Given.gather.Goals as goal
use Rattle.flow.proofs.expr.Given.gather.Goals.{then-has, else-has}

pub loop-i-preserved : goal.loop-i-preserved
loop-i-preserved c =
    elim c.if-has.branch [ then-has w ↦ rw w.union-is (search gathering_more) | else-has w ↦ rw w.union-is (search gathering_passed) ]

pub loop-i-init : goal.loop-i-init
loop-i-init c = search gathering_none

pub returns : goal.returns
returns c = search gathering_done
