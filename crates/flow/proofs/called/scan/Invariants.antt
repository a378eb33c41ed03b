use Prim.Native.Nat.{◌-◌}
use Rattle.flow.proofs.Scans.{Scanning}
use Rattle.flow.proofs.called.scan.Given as goal

abbrev pub invariant-loop-p : goal.invariant-loop-p
invariant-loop-p l = Scanning l.book l.n l.p l.called

abbrev pub decreases-loop-p : goal.decreases-loop-p
decreases-loop-p l = l.n - l.p
