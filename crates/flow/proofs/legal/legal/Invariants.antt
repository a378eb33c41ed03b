use Prim.Native.Nat.{◌-◌}
use Rattle.flow.proofs.Legals.{Judging}
use Rattle.flow.proofs.legal.legal.Given as goal

abbrev pub invariant-loop-p : goal.invariant-loop-p
invariant-loop-p l = Judging l.book l.summary l.starts l.n l.p

abbrev pub decreases-loop-p : goal.decreases-loop-p
decreases-loop-p l = l.n - l.p
