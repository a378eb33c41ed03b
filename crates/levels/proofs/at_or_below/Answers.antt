-- Level a is at or below b, from the join.
use Rattle.meaning.specs.Levels.{at_or_below}
use Rattle.levels.proofs.at_or_below.Goals as goal

pub returns : goal.returns
unfolding at_or_below
returns c = cc
