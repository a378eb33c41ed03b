-- A command, its runs and the commands in them read each other with less depth.
use mathlib.Core.Bool.{false}
use mathlib.Core.Path.{◌∙◌}
use borrow.Author.Rules.{rules}
use native.Mathlib.Omega.{arith}
use Rattle.book.specs.Parts.{known}
use Rattle.book.proofs.Parts.{told_err, span_plus, loops_plus}
use Rattle.book.proofs.Extent.{expr_span, expr_count, run_span, run_count, command_span, command_count, command_took, ordinaries_fits}
use Rattle.book.proofs.Laws.Commands.{if_test, if_first, if_whole}
use Rattle.book.proofs.Laws.Commands.{rest_begin, rest_more, rest_fault, rest_end, rest_short}
use Rattle.book.proofs.Laws.Commands.{command_empty, command_deep, command_as_lem, assignment_code, if_code, while_code, command_unknown}
use Rattle.book.proofs.Laws.Commands.{while_test, while_whole}
use Rattle.book.proofs.Laws.Commands.{run_whole, run_fault}
use Rattle.book.proofs.command.+commands.Goals as goal

pub branch-then-requires : goal.branch-then-requires
branch-then-requires t c = rw c.bytes.ensures (omega (arith, expr_span), omega (arith, expr_count))

pub branch-returns-in_err-test : goal.branch-returns-in_err-test
branch-returns-in_err-test t c = told_err _ _ c.from_residual.ensures.1 ∙ if_test _ _ _ c.expr.ensures (rw c.bytes.ensures at c.in_err-test.ensures)

pub branch-slice_bounds-several-count : goal.branch-slice_bounds-several-count
branch-slice_bounds-several-count t c = let e = rw c.bytes.ensures at c.in_ok-test.ensures in omega (arith, span_plus _ _ _ e, expr_span)

pub branch-slice_bounds-several-start : goal.branch-slice_bounds-several-start
branch-slice_bounds-several-start t c = let e = rw c.bytes.ensures at c.in_ok-test.ensures in omega (arith, span_plus _ _ _ e, expr_span)

pub branch-then-requires-2 : goal.branch-then-requires-2
branch-then-requires-2 t c =
    let e = rw c.bytes.ensures at c.in_ok-test.ensures in
    (omega (arith, span_plus _ _ _ e, expr_span, run_span), omega (arith, loops_plus _ _ _ e, expr_count, run_count))

pub branch-returns-in_err-yes : goal.branch-returns-in_err-yes
branch-returns-in_err-yes t c =
    let e = rw c.bytes.ensures at c.in_ok-test.ensures in
    told_err _ _ c.from_residual-in_err-yes.ensures.1 ∙ if_first _ _ _ c.expr.ensures e c.several.ensures c.in_err-yes.ensures

pub branch-slice_bounds-several-count-2 : goal.branch-slice_bounds-several-count-2
branch-slice_bounds-several-count-2 t c =
    let e = rw c.bytes.ensures at c.in_ok-test.ensures in
    omega (arith, span_plus _ _ _ e, span_plus _ _ _ c.in_ok-yes.ensures, expr_span, run_span)

pub branch-slice_bounds-several-start-2 : goal.branch-slice_bounds-several-start-2
branch-slice_bounds-several-start-2 t c =
    let e = rw c.bytes.ensures at c.in_ok-test.ensures in
    omega (arith, span_plus _ _ _ e, span_plus _ _ _ c.in_ok-yes.ensures, expr_span, run_span)

pub branch-then-requires-3 : goal.branch-then-requires-3
branch-then-requires-3 t c =
    let e = rw c.bytes.ensures at c.in_ok-test.ensures in (
      omega (arith, span_plus _ _ _ e, span_plus _ _ _ c.in_ok-yes.ensures, expr_span, run_span),
      omega (arith, loops_plus _ _ _ e, loops_plus _ _ _ c.in_ok-yes.ensures, expr_count, run_count),
    )

pub branch-returns : goal.branch-returns
branch-returns t c =
    let e = rw c.bytes.ensures at c.in_ok-test.ensures in
    if_whole _ _ _ c.expr.ensures e c.several.ensures c.in_ok-yes.ensures c.several-2.ensures c.then-3.ensures

pub commands-loop-read-init : goal.commands-loop-read-init
commands-loop-read-init t c = rw c.bytes-read.ensures (search rules, search rules, search rest_begin)

pub commands-returns-then-ends : goal.commands-returns-then-ends
commands-returns-then-ends t c = search rest_end

pub commands-then-requires : goal.commands-then-requires
commands-then-requires t c = (omega (arith, command_span), omega (arith, command_count))

pub commands-returns-in_err-read : goal.commands-returns-in_err-read
commands-returns-in_err-read t c = let e = c.in_err-read.ensures in told_err _ _ c.from_residual.ensures.1 ∙ search (rest_fault, e)

pub commands-loop-read-smaller : goal.commands-loop-read-smaller
commands-loop-read-smaller t c = omega (arith, command_took _ _ _ c.ordinary.ensures c.in_ok-read.ensures)

pub commands-loop-read-preserved : goal.commands-loop-read-preserved
commands-loop-read-preserved t c =
    let e = c.in_ok-read.ensures in
    let h = command_took _ _ _ c.ordinary.ensures e in (omega arith, omega arith, search (rest_more, e))

pub commands-returns : goal.commands-returns
commands-returns t c = rw c.at.ensures (search rest_short)

pub ordinary-returns-in_err-code : goal.ordinary-returns-in_err-code
ordinary-returns-in_err-code t c = let h = c.in_err-code.ensures in told_err _ _ c.from_residual.ensures.1 ∙ rw h.1 (search (command_empty, h.0))

pub ordinary-returns-then-depth-eq0 : goal.ordinary-returns-then-depth-eq0
ordinary-returns-then-depth-eq0 t c = let h = c.in_ok-code.ensures in rw c.at.ensures (search (command_deep, h.0))

pub ordinary-returns-in-1 : goal.ordinary-returns-in-1
ordinary-returns-in-1 t c = let h = c.in_ok-code.ensures in search (command_as_lem, h.0, h.1, assignment_code)

pub ordinary-returns-in-2 : goal.ordinary-returns-in-2
ordinary-returns-in-2 t c = let h = c.in_ok-code.ensures in search (command_as_lem, h.0, h.1, if_code)

pub ordinary-returns-in-3 : goal.ordinary-returns-in-3
ordinary-returns-in-3 t c = let h = c.in_ok-code.ensures in search (command_as_lem, h.0, h.1, while_code)

pub ordinary-returns-in_default : goal.ordinary-returns-in_default
ordinary-returns-in_default t c = let h = c.in_ok-code.ensures in rw c.at-in_default.ensures (search (command_unknown, h.0, h.1))

pub repeat-then-requires : goal.repeat-then-requires
repeat-then-requires t c = (omega (arith, expr_span), omega (arith, expr_count))

pub repeat-returns-in_err-test : goal.repeat-returns-in_err-test
repeat-returns-in_err-test t c = told_err _ _ c.from_residual.ensures.1 ∙ while_test _ _ _ c.expr.ensures c.in_err-test.ensures

pub repeat-slice_bounds-several-count : goal.repeat-slice_bounds-several-count
repeat-slice_bounds-several-count t c = omega (arith, span_plus _ _ _ c.in_ok-test.ensures, expr_span)

pub repeat-slice_bounds-several-start : goal.repeat-slice_bounds-several-start
repeat-slice_bounds-several-start t c = omega (arith, span_plus _ _ _ c.in_ok-test.ensures, expr_span)

pub repeat-then-requires-2 : goal.repeat-then-requires-2
repeat-then-requires-2 t c =
    let e = c.in_ok-test.ensures in
    (omega (arith, span_plus _ _ _ e, expr_span, run_span), omega (arith, loops_plus _ _ _ e, expr_count, run_count))

pub repeat-returns : goal.repeat-returns
repeat-returns t c = while_whole _ _ _ c.expr.ensures c.in_ok-test.ensures c.several.ensures c.then-2.ensures

pub several-returns-in_err-run : goal.several-returns-in_err-run
several-returns-in_err-run t c = told_err _ _ c.from_residual.ensures.1 ∙ run_fault _ _ _ c.in_err-run.ensures

pub several-overflow_add-result : goal.several-overflow_add-result
several-overflow_add-result t c = omega (arith, ordinaries_fits false (known c.args.scope.now) c.args.depth c.args.part.now c.in_ok-run.ensures)

pub several-returns : goal.several-returns
several-returns t c = run_whole _ _ _ c.in_ok-run.ensures
