-- The functions that call each other meet their contracts: the measures, each member's needs, and the close.
use native.Mathlib.Omega.{arith}
use Rattle.flow.proofs.Calls.{call_there, call_entry, call_past, call_none}
use Rattle.flow.proofs.Calls.{calling_none, calling_more, calling_passed, calling_returns}
use Rattle.flow.proofs.Exprs.{open_none, open_two, open_variable, open_variable_there, open_variable_known, open_constant}
use Rattle.flow.proofs.Exprs.{open_call_pre, open_call, open_returns}
use Rattle.flow.proofs.expr.+expressions.Goals as goal
use Rattle.flow.proofs.expr.+expressions.Goals.{call-then-has, call-else-has}

pub call-loop-i-preserved : goal.call-loop-i-preserved
call-loop-i-preserved t c =
    elim c.if-has.branch [
      | call-then-has w ↦ rw (w.given-is, w.next-is) (search calling_more)
      | call-else-has w ↦ rw (w.given-is, w.next-is) (search calling_passed)
    ]

pub call-bounds-walk-at : goal.call-bounds-walk-at
call-bounds-walk-at t c = search call_there

pub call-parameters-n-requires : goal.call-parameters-n-requires
call-parameters-n-requires t c = search call_entry

pub call-past-requires : goal.call-past-requires
call-past-requires t c = search call_past

pub call-returns-then-result-eq0 : goal.call-returns-then-result-eq0
call-returns-then-result-eq0 t c = search call_none

pub call-loop-i-init : goal.call-loop-i-init
call-loop-i-init t c = search calling_none

pub call-returns : goal.call-returns
call-returns t c = search calling_returns

pub expr-loop-open-init : goal.expr-loop-open-init
expr-loop-open-init t c = search open_none

pub expr-loop-open-preserved-then-code-eq-OPERATION : goal.expr-loop-open-preserved-then-code-eq-OPERATION
expr-loop-open-preserved-then-code-eq-OPERATION t c = search open_two

pub expr-bounds-walk-at-then-code-eq-VARIABLE : goal.expr-bounds-walk-at-then-code-eq-VARIABLE
expr-bounds-walk-at-then-code-eq-VARIABLE t c = search open_variable_there

pub expr-bounds-sets-x : goal.expr-bounds-sets-x
expr-bounds-sets-x t c = search open_variable_known

pub expr-loop-open-preserved-then-code-eq-VARIABLE : goal.expr-loop-open-preserved-then-code-eq-VARIABLE
expr-loop-open-preserved-then-code-eq-VARIABLE t c = search open_variable

pub expr-loop-open-preserved-then-code-eq-CONSTANT : goal.expr-loop-open-preserved-then-code-eq-CONSTANT
expr-loop-open-preserved-then-code-eq-CONSTANT t c = search open_constant

pub expr-call-one-requires : goal.expr-call-one-requires
expr-call-one-requires t c = (omega arith, search open_call_pre)

pub expr-loop-open-preserved : goal.expr-loop-open-preserved
expr-loop-open-preserved t c = search open_call

pub expr-returns : goal.expr-returns
expr-returns t c = search open_returns
