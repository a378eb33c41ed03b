-- The tests in the order of the refusals' numbers.
use Rattle.flow.proofs.Answers.{check_unsized, settle_pre, check_good, check_bad}
use Rattle.flow.proofs.check_readable.Goals as goal

pub returns-then-summary-book : goal.returns-then-summary-book
returns-then-summary-book c = search check_unsized

pub satisfied-requires : goal.satisfied-requires
satisfied-requires c = search settle_pre

pub returns-then-satisfied : goal.returns-then-satisfied
returns-then-satisfied c = search check_good

pub returns-else-satisfied : goal.returns-else-satisfied
returns-else-satisfied c = search check_bad
