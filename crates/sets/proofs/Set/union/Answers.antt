use borrow.Author.Rules.{rules}
use Rattle.meaning.specs.Sets.{union}
use Rattle.sets.proofs.Set.union.Goals as goal

pub returns : goal.returns
unfolding union
returns c = search rules
