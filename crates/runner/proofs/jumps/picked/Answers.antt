-- The first sequence begins where the test ends, the second where the memo says.
use Rattle.std.proofs.Common.{arith}
use Rattle.runner.proofs.Memo.{pick_there}
use Rattle.runner.proofs.Ends.{pick_test, picked_yes, picked_no}
use Rattle.runner.proofs.jumps.picked.Goals as goal

pub overflow_add-at : goal.overflow_add-at
overflow_add-at c = omega (arith, pick_there)

pub expr_end-requires : goal.expr_end-requires
expr_end-requires c = search pick_test

pub returns-then-value-ne0 : goal.returns-then-value-ne0
returns-then-value-ne0 c = search picked_yes

pub returns : goal.returns
returns c = search picked_no
