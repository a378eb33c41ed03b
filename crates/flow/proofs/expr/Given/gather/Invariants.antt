use Prim.Native.Nat.{◌-◌}
use Rattle.flow.proofs.Calls.{Gathering}
use Rattle.flow.proofs.expr.Given.gather.Given as goal

abbrev pub invariant-loop-i : goal.invariant-loop-i
invariant-loop-i l = Gathering l.chosen l.n l.self.sets l.i l.union

abbrev pub decreases-loop-i : goal.decreases-loop-i
decreases-loop-i l = l.n - l.i
