use Rattle.flow.proofs.Numbers.{some_bytes}
use Rattle.flow.proofs.Passes.{skimming_none, skimming_pre, skimming_walk, skimming_skip, skimming_done}
use Rattle.flow.proofs.wake.pass.Goals as goal
use Rattle.flow.proofs.wake.pass.Goals.{else-walks-p, then-walks-p}

pub loop-p-preserved : goal.loop-p-preserved
loop-p-preserved c = elim c.if-walks-p.branch [ then-walks-p w ↦ search skimming_walk | else-walks-p w ↦ search skimming_skip ]

pub bounds-book-0 : goal.bounds-book-0
bounds-book-0 c = search some_bytes

pub loop-p-init : goal.loop-p-init
loop-p-init c = search skimming_none

pub body-requires : goal.body-requires
body-requires c = search skimming_pre

pub returns : goal.returns
returns c = search skimming_done
