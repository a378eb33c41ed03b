-- The ending highest, the steps below it.
use Rattle.std.proofs.Common.{arith}
use Rattle.runner.proofs.Packing.{made_over}
use Rattle.runner.proofs.answer.Over.too_deep.Goals as goal

pub returns : goal.returns
returns c = made_over _ (omega arith) (omega arith) (omega arith) (omega arith)
