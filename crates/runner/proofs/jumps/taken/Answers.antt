-- The first run begins where the test ends, the second where the first ends.
use Rattle.std.proofs.Common.{arith}
use Rattle.runner.proofs.Ends.{if_there, if_test, if_yes, taken_yes, taken_no}
use Rattle.runner.proofs.jumps.taken.Goals as goal

pub overflow_add-at : goal.overflow_add-at
overflow_add-at c = omega (arith, if_there)

pub expr_end-first-requires : goal.expr_end-first-requires
expr_end-first-requires c = search if_test

pub returns-then-value-ne0 : goal.returns-then-value-ne0
returns-then-value-ne0 c = search taken_yes

pub run_end-requires : goal.run_end-requires
run_end-requires c = search if_yes

pub returns : goal.returns
returns c = search taken_no
