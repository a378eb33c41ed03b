use Rattle.flow.proofs.Masks.{one_more}
use Rattle.flow.proofs.mask.with.Goals as goal

pub returns : goal.returns
returns c = one_more c.args.mask c.args.p c.requires
