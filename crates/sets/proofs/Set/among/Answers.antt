use borrow.Author.Rules.{rules}
use Rattle.sets.proofs.Laws.{nothing_above}
use Rattle.sets.proofs.Set.among.Goals as goal

pub returns : goal.returns
returns c = search (rules, nothing_above)
