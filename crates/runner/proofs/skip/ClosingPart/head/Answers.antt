-- A command is passed over whole; a return ends the sequence; a closing if opens two.
use Rattle.std.proofs.Common.{arith}
use Rattle.runner.proofs.Heads.{closing_there, closing_few, first_part, first_row, first_head, last_row, give_head, pick_head}
use Rattle.runner.proofs.skip.ClosingPart.head.Goals as goal

pub bounds-book-at : goal.bounds-book-at
bounds-book-at c = search closing_there

pub command_head-h-requires : goal.command_head-h-requires
command_head-h-requires c = search first_part

pub row-requires : goal.row-requires
row-requires c = search first_row

pub returns-then-k-lt4 : goal.returns-then-k-lt4
returns-then-k-lt4 c = search first_head

pub overflow_add-at : goal.overflow_add-at
overflow_add-at c = omega (arith, closing_there, closing_few)

pub row-next-requires : goal.row-next-requires
row-next-requires c = search last_row

pub returns-then-k-eq4 : goal.returns-then-k-eq4
returns-then-k-eq4 c = search give_head

pub returns : goal.returns
returns c = search pick_head
