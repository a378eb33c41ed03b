-- After n rounds `old` is the array before the last of them and `new` the array after it.
use Rattle.flow.proofs.Settles.{Settling}
use Rattle.flow.proofs.settle.later.Given as goal

abbrev pub invariant-loop-n : goal.invariant-loop-n
invariant-loop-n l = Settling l.n l.book l.starts l.called l.size l.most l.old l.new l.walks
