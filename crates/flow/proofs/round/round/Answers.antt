use Rattle.flow.proofs.Numbers.{some_bytes}
use Rattle.flow.proofs.Rounding.{opening_none, opening_pre, opening_more, opening_done}
use Rattle.flow.proofs.round.round.Goals as goal

pub bounds-book-0 : goal.bounds-book-0
bounds-book-0 c = search some_bytes

pub loop-p-init : goal.loop-p-init
loop-p-init c = search opening_none

pub body-row-requires : goal.body-row-requires
body-row-requires c = search opening_pre

pub loop-p-preserved : goal.loop-p-preserved
loop-p-preserved c = search opening_more

pub returns : goal.returns
returns c = search opening_done
