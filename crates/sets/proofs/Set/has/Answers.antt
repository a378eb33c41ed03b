use Rattle.meaning.specs.Sets.{member}
use borrow.Author.Rules.{rules}
use Rattle.sets.proofs.Set.has.Goals as goal

pub returns : goal.returns
unfolding member
returns c = search rules
