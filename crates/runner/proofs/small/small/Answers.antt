-- A leaf for one step, an operation on leaves for three.
use Rattle.runner.proofs.Smalls.{small_leaf}
use Rattle.runner.proofs.small.small.Goals as goal

pub returns-then-k-lt18 : goal.returns-then-k-lt18
returns-then-k-lt18 c = search small_leaf
