use Prim.Native.Nat.{◌-◌}
use Rattle.flow.proofs.Rows.{Holding}
use Rattle.flow.proofs.row.hold.Given as goal

abbrev pub invariant-loop-i : goal.invariant-loop-i
invariant-loop-i l = Holding l.summary l.k l.w l.initial.sets l.i l.sets

abbrev pub decreases-loop-i : goal.decreases-loop-i
decreases-loop-i l = l.w - l.i
