use Rattle.flow.proofs.Assigns.{assign_name, assign_code, assign_known, assign_pre, assign_returns}
use Rattle.flow.proofs.Assigns.{assign_copied, assign_constant, copied_name, copied_known}
use Rattle.flow.proofs.assign.assign.Goals as goal

pub bounds-walk-at : goal.bounds-walk-at
bounds-walk-at c = search assign_name

pub bounds-walk-at-2 : goal.bounds-walk-at-2
bounds-walk-at-2 c = search assign_code

pub bounds-walk-at-then-code-eq-VARIABLE : goal.bounds-walk-at-then-code-eq-VARIABLE
bounds-walk-at-then-code-eq-VARIABLE c = search copied_name

pub bounds-sets-y : goal.bounds-sets-y
bounds-sets-y c = search copied_known

pub replace-requires : goal.replace-requires
replace-requires c = search assign_known

pub returns-then-code-eq-VARIABLE : goal.returns-then-code-eq-VARIABLE
returns-then-code-eq-VARIABLE c = search assign_copied

pub replace-requires-then-code-eq-CONSTANT : goal.replace-requires-then-code-eq-CONSTANT
replace-requires-then-code-eq-CONSTANT c = search assign_known

pub returns-then-code-eq-CONSTANT : goal.returns-then-code-eq-CONSTANT
returns-then-code-eq-CONSTANT c = search assign_constant

pub expr-value-requires : goal.expr-value-requires
expr-value-requires c = search assign_pre

pub replace-requires-2 : goal.replace-requires-2
replace-requires-2 c = search assign_known

pub returns : goal.returns
returns c = search assign_returns
