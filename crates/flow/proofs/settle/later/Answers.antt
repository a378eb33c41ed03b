-- After n rounds `old` is the array before the last of them and `new` the array after it.
use native.Mathlib.Omega.{arith}
use Rattle.flow.proofs.Settles.{sized_small, settling_first, settling_next, settling_last, settling_out}
use Rattle.flow.proofs.settle.later.Goals as goal

pub overflow_mul-most : goal.overflow_mul-most
overflow_mul-most c = omega (arith, sized_small)

pub overflow_add-most : goal.overflow_add-most
overflow_add-most c = omega (arith, sized_small)

pub loop-n-init : goal.loop-n-init
loop-n-init c = search settling_first

pub same-requires : goal.same-requires
same-requires c = search sized_small

pub returns-then-same : goal.returns-then-same
returns-then-same c = search settling_last

pub loop-n-preserved : goal.loop-n-preserved
loop-n-preserved c = search settling_next

pub returns : goal.returns
returns c = search settling_out
