-- The refusals in their order.
use Rattle.runner.proofs.Answers.{first_byte, unknown, within, miscounted, cramped, over_budget, allowed}
use Rattle.runner.proofs.judged.Goals as goal

pub bounds-book-0 : goal.bounds-book-0
bounds-book-0 c = search first_byte

pub returns-then-number-procedure : goal.returns-then-number-procedure
returns-then-number-procedure c = search unknown

pub parameters-requires : goal.parameters-requires
parameters-requires c = search within

pub returns-then-inputs-parameters : goal.returns-then-inputs-parameters
returns-then-inputs-parameters c = search miscounted

pub returns-then-cells-lt-LEAST_CELLS : goal.returns-then-cells-lt-LEAST_CELLS
returns-then-cells-lt-LEAST_CELLS c = search cramped

pub returns-then-budget-gt-MOST_STEPS : goal.returns-then-budget-gt-MOST_STEPS
returns-then-budget-gt-MOST_STEPS c = search over_budget

pub returns : goal.returns
returns c = search allowed
