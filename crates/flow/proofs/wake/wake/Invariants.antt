use Prim.Native.Nat.{◌-◌}
use Rattle.flow.proofs.Waking.{Rousing}
use Rattle.flow.proofs.wake.wake.Given as goal

abbrev pub invariant-loop-p : goal.invariant-loop-p
invariant-loop-p l = Rousing l.book l.old l.new l.called l.starts l.walks l.n l.still l.p l.next

abbrev pub decreases-loop-p : goal.decreases-loop-p
decreases-loop-p l = l.n - l.p
