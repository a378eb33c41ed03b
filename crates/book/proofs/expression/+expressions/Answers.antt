-- An expression, its operation or call, and the arguments read each other with less depth.
use mathlib.Core.Path.{sym, ◌∙◌}
use Prim.Native.Nat.{◌-◌, ◌+◌}
use native.Mathlib.Omega.{arith}
use Rattle.book.specs.Parts.{known}
use Rattle.book.proofs.Parts.{told_err, span_plus}
use Rattle.book.proofs.Extent.{expr_span, expr_count}
use Rattle.book.proofs.Laws.Contents.{arities_length, arity}
use Rattle.book.proofs.Laws.Expressions.{arguments_begin, arguments_step, arguments_fault, arguments_end}
use Rattle.book.proofs.Laws.Expressions.{call_short, call_known, call_unknown}
use Rattle.book.proofs.Laws.Expressions.{expr_empty, expr_deep, expr_as_lem, constant_code, variable_code, operation_code, call_code, expr_unknown}
use Rattle.book.proofs.Laws.Expressions.{constant_any, variable_any}
use Rattle.book.proofs.Laws.Expressions.{operation_short, operation_known, operation_unknown}
use Rattle.book.proofs.expression.+expressions.Goals as goal

pub arguments-loop-init : goal.arguments-loop-init
arguments-loop-init t c = rw c.bytes-read.ensures (omega arith, omega arith, arguments_begin c.args.count (known c.args.scope.now) c.args.depth c.args.part.now (omega arith))

pub arguments-then-requires : goal.arguments-then-requires
arguments-then-requires t c = (omega (arith, expr_span), omega (arith, expr_count))

pub arguments-returns-in_err-read : goal.arguments-returns-in_err-read
arguments-returns-in_err-read t c =
    let i = c.loop.invariant in
    let n = c.args.count - (c.loop.counter + 1) in
    told_err _ _ c.from_residual.ensures.1 ∙ arguments_fault n _ _ _ _ _ (omega arith) i.1 i.2 c.expr.ensures c.in_err-read.ensures

pub arguments-loop-preserved : goal.arguments-loop-preserved
arguments-loop-preserved t c =
    let i = c.loop.invariant in
    let n = c.args.count - (c.loop.counter + 1) in
    let more = arguments_step n _ _ _ _ _ (omega arith) i.1 i.2 c.expr.ensures c.in_ok-read.ensures in
    (omega (arith, span_plus _ _ _ c.in_ok-read.ensures, expr_span), more.none_in, more.same)

pub arguments-returns : goal.arguments-returns
arguments-returns t c = let i = c.loop.invariant in arguments_end _ _ _ _ _ (omega arith) i.1 i.2

pub call-returns-in_err-p : goal.call-returns-in_err-p
call-returns-in_err-p t c = let h = c.in_err-p.ensures in told_err _ _ c.from_residual.ensures.1 ∙ rw h.1 (search (call_short, h.0))

pub call-returns-then-p-scope : goal.call-returns-then-p-scope
call-returns-then-p-scope t c =
    let b = c.args.scope.now.book.now in
    let h = c.in_ok-p.ensures in
    call_known (known c.args.scope.now) c.args.depth c.args.part.now h.0 h.1 (omega (arith, arities_length b))
    (rw c.number.ensures.0 at c.parameters.ensures ∙ sym (arity b c.in_ok-p.p c.if-p-scope.true)) c.arguments.ensures

pub call-returns-else-p-scope : goal.call-returns-else-p-scope
call-returns-else-p-scope t c =
    let h = c.in_ok-p.ensures in
    rw c.at.ensures
    (call_unknown (known c.args.scope.now) c.args.depth c.args.part.now h.0 h.1 (omega (arith, arities_length c.args.scope.now.book.now)))

pub expr-returns-in_err-code : goal.expr-returns-in_err-code
expr-returns-in_err-code t c = let h = c.in_err-code.ensures in told_err _ _ c.from_residual.ensures.1 ∙ rw h.1 (search (expr_empty, h.0))

pub expr-returns-then-depth-eq0 : goal.expr-returns-then-depth-eq0
expr-returns-then-depth-eq0 t c = let h = c.in_ok-code.ensures in rw c.at.ensures (search (expr_deep, h.0))

pub expr-returns-in-16 : goal.expr-returns-in-16
expr-returns-in-16 t c = let h = c.in_ok-code.ensures in search (expr_as_lem, h.0, h.1, constant_code, constant_any)

pub expr-returns-in-17 : goal.expr-returns-in-17
expr-returns-in-17 t c = let h = c.in_ok-code.ensures in search (expr_as_lem, h.0, h.1, variable_code, variable_any)

pub expr-returns-in-18 : goal.expr-returns-in-18
expr-returns-in-18 t c = let h = c.in_ok-code.ensures in search (expr_as_lem, h.0, h.1, operation_code)

pub expr-returns-in-19 : goal.expr-returns-in-19
expr-returns-in-19 t c = let h = c.in_ok-code.ensures in search (expr_as_lem, h.0, h.1, call_code)

pub expr-returns-in_default : goal.expr-returns-in_default
expr-returns-in_default t c = let h = c.in_ok-code.ensures in rw c.at-in_default.ensures (search (expr_unknown, h.0, h.1))

pub operation-returns-in_err-o : goal.operation-returns-in_err-o
operation-returns-in_err-o t c = let h = c.in_err-o.ensures in told_err _ _ c.from_residual.ensures.1 ∙ rw h.1 (search (operation_short, h.0))

pub operation-returns-then-o-lt-OPERATIONS : goal.operation-returns-then-o-lt-OPERATIONS
operation-returns-then-o-lt-OPERATIONS t c = let h = c.in_ok-o.ensures in search (operation_known, h.0, h.1)

pub operation-returns-else-o-lt-OPERATIONS : goal.operation-returns-else-o-lt-OPERATIONS
operation-returns-else-o-lt-OPERATIONS t c = let h = c.in_ok-o.ensures in rw c.at.ensures (search (operation_unknown, h.0, h.1))
