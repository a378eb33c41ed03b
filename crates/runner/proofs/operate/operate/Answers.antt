-- The value packed with the steps left.
use Rattle.runner.proofs.Operations.{packed}
use Rattle.runner.proofs.operate.operate.Goals as goal

pub returns : goal.returns
returns c = packed c.numbered.ensures (rw (c.value.ensures) at c.new.ensures)
