-- Each form's head, told by its code.
use Rattle.std.proofs.Common.{arith}
use Rattle.runner.proofs.Heads.{expr_there, expr_few, constant_head, variable_head, operation_head}
use Rattle.runner.proofs.Heads.{call_there, call_entry, call_head}
use Rattle.runner.proofs.skip.ExprPart.head.Goals as goal

pub bounds-book-at : goal.bounds-book-at
bounds-book-at c = search expr_there

pub overflow_add-result : goal.overflow_add-result
overflow_add-result c = omega (arith, expr_there, expr_few)

pub returns-then-k-eq16 : goal.returns-then-k-eq16
returns-then-k-eq16 c = search constant_head

pub overflow_add-result-then-k-eq17 : goal.overflow_add-result-then-k-eq17
overflow_add-result-then-k-eq17 c = omega (arith, expr_there, expr_few)

pub returns-then-k-eq17 : goal.returns-then-k-eq17
returns-then-k-eq17 c = search variable_head

pub overflow_add-result-then-k-eq18 : goal.overflow_add-result-then-k-eq18
overflow_add-result-then-k-eq18 c = omega (arith, expr_there, expr_few)

pub returns-then-k-eq18 : goal.returns-then-k-eq18
returns-then-k-eq18 c = search operation_head

pub overflow_add-at : goal.overflow_add-at
overflow_add-at c = omega (arith, expr_there, expr_few)

pub bounds-book-at-2 : goal.bounds-book-at-2
bounds-book-at-2 c = search call_there

pub overflow_add-result-2 : goal.overflow_add-result-2
overflow_add-result-2 c = omega (arith, expr_there, expr_few)

pub parameters-requires : goal.parameters-requires
parameters-requires c = search call_entry

pub returns : goal.returns
returns c = search call_head
