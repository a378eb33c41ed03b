use Rattle.flow.proofs.Rows.{joining_none, joining_more}
use Rattle.flow.proofs.row.unite.Goals as goal

pub loop-i-init : goal.loop-i-init
loop-i-init c = search joining_none

pub loop-i-preserved : goal.loop-i-preserved
loop-i-preserved c = search joining_more
