use Rattle.flow.proofs.Closings.{give_pre, give_place, give_at, give_row, give_returns}
use Rattle.flow.proofs.closing.give.Goals as goal

pub expr-value-requires : goal.expr-value-requires
expr-value-requires c = search give_pre

pub bounds-new-walk : goal.bounds-new-walk
bounds-new-walk c = search give_place

pub bounds-new-walk-2 : goal.bounds-new-walk-2
bounds-new-walk-2 c = search give_place

pub new-requires : goal.new-requires
new-requires c = (search give_at, search give_row)

pub returns : goal.returns
returns c = search give_returns
