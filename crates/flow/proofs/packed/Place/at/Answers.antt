use borrow.Author.Rules.{rules}
use Rattle.flow.specs.Packed.{at_in}
use Rattle.flow.proofs.packed.Place.at.Goals as goal

pub returns : goal.returns
unfolding at_in
returns c = search rules
