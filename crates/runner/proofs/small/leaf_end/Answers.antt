-- A variable has two bytes, a constant five.
use Rattle.runner.proofs.Smalls.{variable_ends, constant_ends}
use Rattle.runner.proofs.small.leaf_end.Goals as goal

pub returns-then-book-at-eq17 : goal.returns-then-book-at-eq17
returns-then-book-at-eq17 c = search variable_ends

pub returns-else-book-at-eq17 : goal.returns-else-book-at-eq17
returns-else-book-at-eq17 c = search constant_ends
