-- Out of steps, or else too deep.
use Rattle.runner.proofs.Answers.{ends_spent, ends_deep}
use Rattle.runner.proofs.answer.Over.ending.Goals as goal

pub returns-then-self-eq-OUT_OF_STEPS : goal.returns-then-self-eq-OUT_OF_STEPS
returns-then-self-eq-OUT_OF_STEPS c = search ends_spent

pub returns-else-self-eq-OUT_OF_STEPS : goal.returns-else-self-eq-OUT_OF_STEPS
returns-else-self-eq-OUT_OF_STEPS c = search ends_deep
