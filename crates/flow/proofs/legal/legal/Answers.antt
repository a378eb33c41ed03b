use Rattle.flow.proofs.Numbers.{some_bytes}
use Rattle.flow.proofs.Legals.{judging_none, judging_rows, judging_few, judging_more, judging_done, judging_broken}
use Rattle.flow.proofs.legal.legal.Goals as goal

pub bounds-book-0 : goal.bounds-book-0
bounds-book-0 c = search some_bytes

pub loop-p-init : goal.loop-p-init
loop-p-init c = search judging_none

pub rows-requires : goal.rows-requires
rows-requires c = search judging_rows

pub owned-requires : goal.owned-requires
owned-requires c = search judging_few

pub returns-then-not-owned : goal.returns-then-not-owned
returns-then-not-owned c = let h = rw c.rows.ensures at c.owned.ensures in search judging_broken

pub loop-p-preserved : goal.loop-p-preserved
loop-p-preserved c = let h = rw c.rows.ensures at c.owned.ensures in search judging_more

pub returns : goal.returns
returns c = search judging_done
