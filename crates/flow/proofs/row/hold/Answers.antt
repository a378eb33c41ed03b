use native.Mathlib.Omega.{arith}
use Rattle.flow.proofs.Rows.{holding_none, holding_more, holding_done}
use Rattle.flow.proofs.row.hold.Goals as goal

pub loop-i-init : goal.loop-i-init
loop-i-init c = holding_none c.requires (record { long = omega arith })

pub loop-i-preserved : goal.loop-i-preserved
loop-i-preserved c = search holding_more

pub returns : goal.returns
returns c = search holding_done
