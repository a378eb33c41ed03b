-- The value low, the steps above it.
use Rattle.std.proofs.Common.{arith}
use Rattle.runner.proofs.Packing.{made_going}
use Rattle.runner.proofs.answer.Went.new.Goals as goal

pub returns : goal.returns
returns c = made_going _ (omega arith) (omega arith) (omega arith)
