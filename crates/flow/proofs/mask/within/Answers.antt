use borrow.Author.Rules.{rules}
use Rattle.meaning.specs.Sets.{inside, union}
use Rattle.flow.proofs.mask.within.Goals as goal

pub returns : goal.returns
unfolding inside union
returns c = search rules
