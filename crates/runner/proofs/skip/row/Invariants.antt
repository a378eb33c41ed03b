-- The count of open parts falls to 0 where the row ends.
use Rattle.std.proofs.Common.{◌-◌, length}
use Rattle.runner.proofs.Rows.{Passing}
use Rattle.runner.proofs.skip.row.Given as goal

abbrev pub invariant-loop-count : goal.invariant-loop-count
invariant-loop-count g l = Passing (g.P.Part.part l.book) l.book l.fn.at l.fn.count l.at l.count

abbrev pub decreases-loop-count : goal.decreases-loop-count
decreases-loop-count g l = length l.book - l.at
