use mathlib.Core.Path.{◌∙◌}
use Rattle.flow.proofs.Rows.{starting_none, starting_more, starting_done}
use Rattle.flow.proofs.row.start.Goals as goal

pub loop-i-init : goal.loop-i-init
loop-i-init c = search starting_none

pub loop-i-preserved : goal.loop-i-preserved
loop-i-preserved c = starting_more c.loop-i.invariant c.loop-i-test.true (c.bits.view_is ∙ c.one.ensures)

pub returns : goal.returns
returns c = search starting_done
