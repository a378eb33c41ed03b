-- The run ends, or goes on after a command's head with one more run open.
use Rattle.std.proofs.Common.{arith}
use Rattle.runner.proofs.Heads.{run_there, run_few, stop_head, then_part, then_fits, then_head}
use Rattle.runner.proofs.skip.RunPart.head.Goals as goal

pub bounds-book-at : goal.bounds-book-at
bounds-book-at c = search run_there

pub overflow_add-result : goal.overflow_add-result
overflow_add-result c = omega (arith, run_there, run_few)

pub returns-then-book-at-eq0 : goal.returns-then-book-at-eq0
returns-then-book-at-eq0 c = search stop_head

pub command_head-h-requires : goal.command_head-h-requires
command_head-h-requires c = search then_part

pub overflow_add-result-2 : goal.overflow_add-result-2
overflow_add-result-2 c = search then_fits

pub returns : goal.returns
returns c = search then_head
