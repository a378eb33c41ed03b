-- A command ends where its last part ends.
-- Here a search breaks off.
use Rattle.std.proofs.Common.{arith}
use Rattle.runner.proofs.Ends.{cmd_there, assign_given, assign_ends, cmd_test, cmd_run, loop_ends, cmd_other, branch_ends}
use Rattle.runner.proofs.jumps.command_end.Goals as goal

pub bounds-book-at : goal.bounds-book-at
bounds-book-at c = omega (arith, cmd_there)

pub overflow_add-at : goal.overflow_add-at
overflow_add-at c = omega (arith, cmd_there)

pub expr_end-requires : goal.expr_end-requires
expr_end-requires c = search assign_given

pub returns-then-k-eq1 : goal.returns-then-k-eq1
returns-then-k-eq1 c = search assign_ends

pub overflow_add-at-2 : goal.overflow_add-at-2
overflow_add-at-2 c = omega (arith, cmd_there)

pub expr_end-first-requires : goal.expr_end-first-requires
expr_end-first-requires c = search cmd_test

pub run_end-end-requires : goal.run_end-end-requires
run_end-end-requires c = search cmd_run

pub returns-then-k-eq3 : goal.returns-then-k-eq3
returns-then-k-eq3 c = search loop_ends

pub run_end-requires : goal.run_end-requires
run_end-requires c = cmd_other c.requires (search) (search) c.expr_end-first.ensures c.run_end-end.ensures

pub returns : goal.returns
returns c = search branch_ends
