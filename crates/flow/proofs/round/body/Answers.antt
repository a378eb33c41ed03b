use Rattle.flow.proofs.Bodies.{body_pre, body_returns}
use Rattle.flow.proofs.round.body.Goals as goal

pub closing-requires : goal.closing-requires
closing-requires c = search body_pre

pub returns : goal.returns
returns c = search body_returns
