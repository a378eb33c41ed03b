-- The bits of the left.
use Rattle.std.proofs.Common.{rules}
use Rattle.runner.specs.Answer.{answer_of}
use Rattle.runner.proofs.answer.Over.left.Goals as goal

pub returns : goal.returns
unfolding answer_of
returns c = search rules
