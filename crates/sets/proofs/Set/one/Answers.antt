use Rattle.sets.proofs.Laws.{bit_fits}
use Rattle.meaning.specs.Sets.{single}
use Rattle.sets.proofs.Set.one.Goals as goal

pub returns : goal.returns
unfolding single
returns c = bit_fits 8 c.args.i c.requires
