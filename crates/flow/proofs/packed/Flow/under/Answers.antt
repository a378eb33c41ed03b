use borrow.Author.Rules.{rules}
use Rattle.meaning.specs.Sets.{union}
use Rattle.flow.proofs.packed.Flow.under.Goals as goal

pub returns : goal.returns
unfolding union
returns c = search rules
