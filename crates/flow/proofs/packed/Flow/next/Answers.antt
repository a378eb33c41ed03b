use borrow.Author.Rules.{rules}
use Rattle.flow.specs.Packed.{next_in}
use Rattle.flow.proofs.packed.Flow.next.Goals as goal

pub returns : goal.returns
unfolding next_in
returns c = search rules
