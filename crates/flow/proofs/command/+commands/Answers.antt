-- The functions that call each other meet their contracts: the measures, the needs of each, and the close.
use native.Mathlib.Omega.{arith}
use Rattle.flow.proofs.Branches.{branch_test, branch_yes, branch_no, branch_returns, ran_wide, found_wide}
use Rattle.flow.proofs.Loops.{nested_loop}
use Rattle.flow.proofs.Loops.{repeat_test, repeat_inside, repeat_returns}
use Rattle.flow.proofs.Lists.{listing_none, listing_there, listing_on, listing_at, listing_row, listing_assign_pre, listing_assign}
use Rattle.flow.proofs.Lists.{listing_nested_pre, listing_nested, listing_returns, run_returns}
use Rattle.flow.proofs.command.+commands.Goals as goal

pub branch-run-no-requires : goal.branch-run-no-requires
branch-run-no-requires t c =
    (omega arith, branch_no (search (ran_wide, found_wide)) c.run-yes.ensures c.at.ensures c.row.ensures c.next.ensures c.expr-test.ensures c.requires)

pub branch-expr-test-requires : goal.branch-expr-test-requires
branch-expr-test-requires t c = search branch_test

pub branch-run-yes-requires : goal.branch-run-yes-requires
branch-run-yes-requires t c = (omega arith, search branch_yes)

pub branch-returns : goal.branch-returns
branch-returns t c = search branch_returns

pub nested-repeat-requires : goal.nested-repeat-requires
nested-repeat-requires t c = (omega arith, search nested_loop)

pub repeat-expr-test-requires : goal.repeat-expr-test-requires
repeat-expr-test-requires t c = search repeat_test

pub repeat-run-body-requires : goal.repeat-run-body-requires
repeat-run-body-requires t c = (omega arith, search repeat_inside)

pub repeat-returns : goal.repeat-returns
repeat-returns t c = search repeat_returns

pub commands-loop-sets-init : goal.commands-loop-sets-init
commands-loop-sets-init t c = search listing_none

pub commands-assign-at-requires : goal.commands-assign-at-requires
commands-assign-at-requires t c = search listing_assign_pre

pub commands-loop-sets-preserved-then-code-eq-ASSIGN : goal.commands-loop-sets-preserved-then-code-eq-ASSIGN
commands-loop-sets-preserved-then-code-eq-ASSIGN t c = search listing_assign

pub commands-bounds-walk-at : goal.commands-bounds-walk-at
commands-bounds-walk-at t c = search listing_there

pub commands-new-requires : goal.commands-new-requires
commands-new-requires t c = (search listing_at, search listing_row)

pub commands-returns-then-code-eq-STOP : goal.commands-returns-then-code-eq-STOP
commands-returns-then-code-eq-STOP t c = listing_returns c.loop-sets.invariant c.then-code-eq-STOP.either c.new.ensures

pub commands-nested-one-requires : goal.commands-nested-one-requires
commands-nested-one-requires t c = (omega (arith, listing_on c.loop-sets.invariant), search listing_nested_pre)

pub commands-loop-sets-preserved : goal.commands-loop-sets-preserved
commands-loop-sets-preserved t c = search listing_nested

pub run-returns : goal.run-returns
run-returns t c = search run_returns
