use Prim.Native.Nat.{◌-◌}
use lib.ListN.{length}
use Rattle.flow.proofs.Pasts.{Passing}
use Rattle.flow.proofs.past.past.Given as goal

abbrev pub invariant-loop-open : goal.invariant-loop-open
invariant-loop-open l = Passing l.book l.n l.fn.at l.open l.at

abbrev pub decreases-loop-open : goal.decreases-loop-open
decreases-loop-open l = length l.book - l.at
