use Prim.Native.Nat.{◌-◌}
use Rattle.flow.proofs.Waking.{Quieting}
use Rattle.flow.proofs.wake.quiet.Given as goal

abbrev pub invariant-loop-p : goal.invariant-loop-p
invariant-loop-p l = Quieting l.old l.new l.n l.p l.mask

abbrev pub decreases-loop-p : goal.decreases-loop-p
decreases-loop-p l = l.n - l.p
