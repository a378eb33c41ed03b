-- The round goes into a second copy of the summary, which is then compared with the first.
use Rattle.flow.proofs.Settles.{settle_small, satisfied_not, satisfied_same}
use Rattle.flow.proofs.settle.satisfied.Goals as goal

pub copied-old-requires : goal.copied-old-requires
copied-old-requires c = search settle_small

pub returns-else-legal : goal.returns-else-legal
returns-else-legal c = search satisfied_not

pub same-requires : goal.same-requires
same-requires c = search settle_small

pub returns-then-legal : goal.returns-then-legal
returns-then-legal c = search satisfied_same
