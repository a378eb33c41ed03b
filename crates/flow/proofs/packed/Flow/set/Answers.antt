use borrow.Author.Rules.{rules}
use Rattle.flow.specs.Packed.{set_in}
use Rattle.flow.proofs.packed.Flow.set.Goals as goal

pub returns : goal.returns
unfolding set_in
returns c = search rules
