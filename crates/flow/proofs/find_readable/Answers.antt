-- Only the first `size` bytes are lent to the rounds.
use lib.Seq.{length-take-le}
use Rattle.flow.proofs.Answers.{find_short, settle_pre, find_found}
use Rattle.flow.proofs.find_readable.Goals as goal

pub returns-then-room-size : goal.returns-then-room-size
returns-then-room-size c = search find_short

pub settle-rounds-requires : goal.settle-rounds-requires
settle-rounds-requires c = search (settle_pre, length-take-le)

pub returns : goal.returns
returns c = search find_found
