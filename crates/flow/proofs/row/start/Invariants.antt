use Prim.Native.Nat.{◌-◌}
use Rattle.flow.proofs.Rows.{Starting}
use Rattle.flow.proofs.row.start.Given as goal

abbrev pub invariant-loop-i : goal.invariant-loop-i
invariant-loop-i l = Starting l.parameters l.i l.bits

abbrev pub decreases-loop-i : goal.decreases-loop-i
decreases-loop-i l = l.parameters - l.i
