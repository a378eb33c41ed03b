use Prim.Native.Nat.{◌-◌}
use Rattle.flow.proofs.Rounding.{Opening}
use Rattle.flow.proofs.round.round.Given as goal

abbrev pub invariant-loop-p : goal.invariant-loop-p
invariant-loop-p l = Opening l.book l.old l.initial.new l.n l.p l.row l.starts l.new

abbrev pub decreases-loop-p : goal.decreases-loop-p
decreases-loop-p l = l.n - l.p
