use Rattle.flow.proofs.Copies.{held_copy}
use Rattle.flow.proofs.copy.copied.Goals as goal

pub returns : goal.returns
returns c = rw c.copy_from_slice.ensures.after (held_copy c.requires)
