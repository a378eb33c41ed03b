-- Each form's head, told by its code.
use Rattle.std.proofs.Common.{arith}
use Rattle.runner.proofs.Heads.{cmd_there, cmd_few, assign_row, assign_head, test_row, branch_head, loop_head}
use Rattle.runner.proofs.skip.command_head.Goals as goal

pub bounds-book-at : goal.bounds-book-at
bounds-book-at c = search cmd_there

pub overflow_add-at : goal.overflow_add-at
overflow_add-at c = omega (arith, cmd_there, cmd_few)

pub row-requires : goal.row-requires
row-requires c = search assign_row

pub returns-then-k-eq1 : goal.returns-then-k-eq1
returns-then-k-eq1 c = search assign_head

pub overflow_add-at-2 : goal.overflow_add-at-2
overflow_add-at-2 c = omega (arith, cmd_there, cmd_few)

pub row-next-requires : goal.row-next-requires
row-next-requires c = search test_row

pub returns-then-k-eq2 : goal.returns-then-k-eq2
returns-then-k-eq2 c = search branch_head

pub returns : goal.returns
returns c = search loop_head
