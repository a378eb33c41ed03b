use Rattle.flow.proofs.Waking.{quieting_none, quieting_more, quieting_same}
use Rattle.flow.proofs.wake.quiet.Goals as goal
use Rattle.flow.proofs.wake.quiet.Goals.{else-old-p, then-old-p}

pub loop-p-preserved : goal.loop-p-preserved
loop-p-preserved c = elim c.if-old-p.branch [ then-old-p w ↦ search quieting_more | else-old-p w ↦ search quieting_same ]

pub loop-p-init : goal.loop-p-init
loop-p-init c = search quieting_none
