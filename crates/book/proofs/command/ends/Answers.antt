-- `ends` meets its contract.
use Rattle.book.proofs.Laws.Commands.{ends_closing, ends_pick}
use Rattle.book.proofs.command.ends.Goals as goal

pub returns-then-code-eq4 : goal.returns-then-code-eq4
returns-then-code-eq4 c = search ends_closing

pub returns-else-code-eq4 : goal.returns-else-code-eq4
returns-else-code-eq4 c = search ends_pick
