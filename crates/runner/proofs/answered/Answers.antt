-- A run that has finished.
use Rattle.runner.proofs.Answers.{finished_answer}
use Rattle.runner.proofs.answered.Goals as goal

pub returns-in-Ok : goal.returns-in-Ok
returns-in-Ok c = rw (c.in-Ok.is, c.from.ensures) (finished_answer c.in-Ok.went.goes c.left.ensures c.value.ensures)
