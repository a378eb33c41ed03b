-- The ending highest, and no steps below it.
use Rattle.std.proofs.Common.{arith}
use Rattle.runner.proofs.Packing.{made_over}
use Rattle.runner.proofs.answer.Over.out_of_steps.Goals as goal

pub returns : goal.returns
returns c = made_over _ (omega arith) (omega arith) (omega arith) (omega arith)
