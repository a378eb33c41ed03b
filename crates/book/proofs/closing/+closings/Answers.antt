-- A closing sequence and the closing command at its end read each other with less depth.
use mathlib.Core.Bool.{true}
use mathlib.Core.Path.{◌∙◌}
use native.Mathlib.Omega.{arith}
use Rattle.book.specs.Parts.{known}
use Rattle.book.proofs.Parts.{told_err, span_plus, loops_plus}
use Rattle.book.proofs.Extent.{expr_span, expr_count, closing_span, closing_count, ordinaries_fits, closer_span, closer_count}
use Rattle.book.proofs.Laws.Closings.{closer_empty, closer_return, closer_pick, closer_unknown}
use Rattle.book.proofs.Laws.Closings.{pick_test, pick_first, pick_whole}
use Rattle.book.proofs.Laws.Closings.{closing_empty, closing_deep, closing_fault, closing_whole}
use Rattle.book.proofs.closing.+closings.Goals as goal

pub last-returns-in_err-byte : goal.last-returns-in_err-byte
last-returns-in_err-byte t c = let h = c.in_err-byte.ensures in told_err _ _ c.from_residual.ensures.1 ∙ rw h.1 (search (closer_empty, h.0))

pub last-then-requires : goal.last-then-requires
last-then-requires t c = rw c.bytes.ensures (omega (arith, expr_span), omega (arith, expr_count))

pub last-returns-in-4 : goal.last-returns-in-4
last-returns-in-4 t c =
    let h = c.in_ok-byte.ensures in
    let e = rw c.bytes.ensures at c.then.ensures in
    search (closer_return, h.0, h.1, e)

pub last-returns-in-5 : goal.last-returns-in-5
last-returns-in-5 t c = let h = c.in_ok-byte.ensures in search (closer_pick, h.0, h.1)

pub last-returns-in_default : goal.last-returns-in_default
last-returns-in_default t c = let h = c.in_ok-byte.ensures in rw c.at.ensures (search (closer_unknown, h.0, h.1))

pub pick-then-requires : goal.pick-then-requires
pick-then-requires t c = rw c.bytes.ensures (omega (arith, expr_span), omega (arith, expr_count))

pub pick-returns-in_err-test : goal.pick-returns-in_err-test
pick-returns-in_err-test t c = told_err _ _ c.from_residual.ensures.1 ∙ pick_test _ _ _ c.expr.ensures (rw c.bytes.ensures at c.in_err-test.ensures)

pub pick-slice_bounds-sequence-count : goal.pick-slice_bounds-sequence-count
pick-slice_bounds-sequence-count t c = let e = rw c.bytes.ensures at c.in_ok-test.ensures in omega (arith, span_plus _ _ _ e, expr_span)

pub pick-slice_bounds-sequence-start : goal.pick-slice_bounds-sequence-start
pick-slice_bounds-sequence-start t c = let e = rw c.bytes.ensures at c.in_ok-test.ensures in omega (arith, span_plus _ _ _ e, expr_span)

pub pick-then-requires-2 : goal.pick-then-requires-2
pick-then-requires-2 t c =
    let e = rw c.bytes.ensures at c.in_ok-test.ensures in
    (omega (arith, span_plus _ _ _ e, expr_span, closing_span), omega (arith, loops_plus _ _ _ e, expr_count, closing_count))

pub pick-returns-in_err-yes : goal.pick-returns-in_err-yes
pick-returns-in_err-yes t c =
    let e = rw c.bytes.ensures at c.in_ok-test.ensures in
    told_err _ _ c.from_residual-in_err-yes.ensures.1 ∙ pick_first _ _ _ c.expr.ensures e c.sequence.ensures c.in_err-yes.ensures

pub pick-slice_bounds-sequence-count-2 : goal.pick-slice_bounds-sequence-count-2
pick-slice_bounds-sequence-count-2 t c =
    let e = rw c.bytes.ensures at c.in_ok-test.ensures in
    omega (arith, span_plus _ _ _ e, span_plus _ _ _ c.in_ok-yes.ensures, expr_span, closing_span)

pub pick-slice_bounds-sequence-start-2 : goal.pick-slice_bounds-sequence-start-2
pick-slice_bounds-sequence-start-2 t c =
    let e = rw c.bytes.ensures at c.in_ok-test.ensures in
    omega (arith, span_plus _ _ _ e, span_plus _ _ _ c.in_ok-yes.ensures, expr_span, closing_span)

pub pick-then-requires-3 : goal.pick-then-requires-3
pick-then-requires-3 t c =
    let e = rw c.bytes.ensures at c.in_ok-test.ensures in (
      omega (arith, span_plus _ _ _ e, span_plus _ _ _ c.in_ok-yes.ensures, expr_span, closing_span),
      omega (arith, loops_plus _ _ _ e, loops_plus _ _ _ c.in_ok-yes.ensures, expr_count, closing_count),
    )

pub pick-returns : goal.pick-returns
pick-returns t c =
    let e = rw c.bytes.ensures at c.in_ok-test.ensures in
    pick_whole _ _ _ c.expr.ensures e c.sequence.ensures c.in_ok-yes.ensures c.sequence-2.ensures c.then-3.ensures

pub sequence-returns-in_err-byte : goal.sequence-returns-in_err-byte
sequence-returns-in_err-byte t c = let h = c.in_err-byte.ensures in told_err _ _ c.from_residual.ensures.1 ∙ rw h.1 (search (closing_empty, h.0))

pub sequence-returns-then-depth-eq0 : goal.sequence-returns-then-depth-eq0
sequence-returns-then-depth-eq0 t c = let h = c.in_ok-byte.ensures in rw c.at.ensures (search (closing_deep, h.0))

pub sequence-returns-in_err-run : goal.sequence-returns-in_err-run
sequence-returns-in_err-run t c = let e = c.in_err-run.ensures in told_err _ _ c.from_residual-in_err-run.ensures.1 ∙ search (closing_fault, e)

pub sequence-slice_bounds-last-count : goal.sequence-slice_bounds-last-count
sequence-slice_bounds-last-count t c = omega (arith, ordinaries_fits true (known c.args.scope.now) c.args.depth c.args.part.now c.in_ok-run.ensures)

pub sequence-slice_bounds-last-start : goal.sequence-slice_bounds-last-start
sequence-slice_bounds-last-start t c = omega (arith, ordinaries_fits true (known c.args.scope.now) c.args.depth c.args.part.now c.in_ok-run.ensures)

pub sequence-then-requires : goal.sequence-then-requires
sequence-then-requires t c =
    let h = ordinaries_fits true (known c.args.scope.now) c.args.depth c.args.part.now c.in_ok-run.ensures in
    (omega (arith, closer_span), omega (arith, closer_count))

pub sequence-returns : goal.sequence-returns
sequence-returns t c = let e = c.in_ok-run.ensures in search (closing_whole, e)
