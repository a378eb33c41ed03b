-- Past the test, and past the first sequence.
use Rattle.std.proofs.Common.{arith}
use Rattle.runner.proofs.Memo.{test_there, test_row, yes_row, yes_past}
use Rattle.runner.proofs.jumps.past_first.Goals as goal

pub overflow_add-at : goal.overflow_add-at
overflow_add-at c = omega (arith, test_there)

pub row-first-requires : goal.row-first-requires
row-first-requires c = search test_row

pub row-requires : goal.row-requires
row-requires c = search yes_row

pub returns : goal.returns
returns c = search yes_past
