use Rattle.std.specs.Slice.Iter.{windows_size, windows_rest}
use Rattle.flow.proofs.Scans.{Hearing}
use Rattle.flow.proofs.called.behind.Given as goal

abbrev pub invariant-loop-w : goal.invariant-loop-w
invariant-loop-w l = Hearing l.body (windows_size l.w-iterator) (windows_rest l.w-iterator) l.mask
