-- The byte at the place of two levels' entry.
use Rattle.meaning.specs.Levels.{join}
use Rattle.levels.proofs.join.Goals as goal

pub returns : goal.returns
unfolding join
returns c = cc
