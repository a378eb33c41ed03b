-- The bits of the left.
use Rattle.std.proofs.Common.{arith}
use Rattle.runner.specs.Answer.{answer_of}
use Rattle.runner.proofs.answer.Went.left.Goals as goal

pub returns : goal.returns
unfolding answer_of
returns c = omega (arith, c.args.self.goes)
