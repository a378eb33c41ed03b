-- The count of open parts falls to 0 where the row ends.
use Rattle.runner.proofs.Rows.{passing_start, passing_part, passing_on}
use Rattle.runner.proofs.Rows.{passing_fits, passing_less, passing_done}
use Rattle.runner.proofs.skip.row.Goals as goal

pub loop-count-init : goal.loop-count-init
loop-count-init g c = passing_start (g.met.P.Part.spanned _) c.requires

pub head-h-requires : goal.head-h-requires
head-h-requires g c = search passing_part

pub overflow_add-count : goal.overflow_add-count
overflow_add-count g c = search passing_fits

pub loop-count-smaller : goal.loop-count-smaller
loop-count-smaller g c = search passing_less

pub loop-count-preserved : goal.loop-count-preserved
loop-count-preserved g c = search passing_on

pub returns : goal.returns
returns g c = search passing_done
