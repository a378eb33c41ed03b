use Prim.Native.Nat.{◌-◌}
use Rattle.flow.proofs.Passes.{Skimming}
use Rattle.flow.proofs.wake.pass.Given as goal

abbrev pub invariant-loop-p : goal.invariant-loop-p
invariant-loop-p l = Skimming l.book l.old l.initial.new l.walks l.starts l.n l.p l.new

abbrev pub decreases-loop-p : goal.decreases-loop-p
decreases-loop-p l = l.n - l.p
