use borrow.Author.Rules.{rules}
use Rattle.flow.specs.Packed.{row_in}
use Rattle.flow.proofs.packed.Place.row.Goals as goal

pub returns : goal.returns
unfolding row_in
returns c = search rules
