-- The functions that call each other meet their contracts: the measures, the needs of each, and the close.
use native.Mathlib.Omega.{arith}
use Rattle.flow.proofs.Closings.{pick_test, pick_yes, pick_no, pick_returns}
use Rattle.flow.proofs.Lists.{closing_list, closing_on, closing_at, closing_coded, closing_other, closing_returns}
use Rattle.flow.proofs.closing.+closings.Goals as goal

pub pick-closing-requires : goal.pick-closing-requires
pick-closing-requires t c =
    (omega arith, pick_no c.closing-yes.ensures c.at.ensures c.row.ensures c.next.ensures c.expr-test.ensures c.requires)

pub pick-expr-test-requires : goal.pick-expr-test-requires
pick-expr-test-requires t c = search pick_test

pub pick-closing-yes-requires : goal.pick-closing-yes-requires
pick-closing-yes-requires t c = (omega arith, search pick_yes)

pub pick-returns : goal.pick-returns
pick-returns t c = search pick_returns

pub closing-commands-last-requires : goal.closing-commands-last-requires
closing-commands-last-requires t c = search closing_list

pub closing-bounds-walk-at : goal.closing-bounds-walk-at
closing-bounds-walk-at t c = closing_at c.requires c.commands-last.ensures c.at-at.ensures

pub closing-give-requires : goal.closing-give-requires
closing-give-requires t c = search closing_coded

pub closing-returns-then-code-eq-GIVE : goal.closing-returns-then-code-eq-GIVE
closing-returns-then-code-eq-GIVE t c = search closing_returns

pub closing-pick-requires : goal.closing-pick-requires
closing-pick-requires t c =
    (omega (arith, closing_on c.requires c.commands-last.ensures c.at-at.ensures), search (closing_coded, closing_other))

pub closing-returns : goal.closing-returns
closing-returns t c = search closing_returns
