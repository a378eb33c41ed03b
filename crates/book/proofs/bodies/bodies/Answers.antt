-- `bodies` meets its contract. What the contents tell at the start, and in each turn of the entry at hand.
-- The procedure has no more than 16 variables.
use Prim.Native.Nat.{◌≤◌, ◌+◌}
use native.Mathlib.Nat.{mul-le-mul_right}
use native.Mathlib.Omega.{arith}
use Rattle.std.proofs.lemmas.Result.{err_from_is_err_and}
use Rattle.book.proofs.Parts.{loops_plus}
use Rattle.book.proofs.Extent.{body_span, body_count}
use Rattle.book.proofs.Laws.Bodies.{ahead_begin, ahead_more, ahead_fault, ahead_end, kept, turned}
use Rattle.book.proofs.bodies.bodies.Goals as goal

pub bounds-book-0 : goal.bounds-book-0
bounds-book-0 c = omega (arith, kept c.args.book.now c.requires.kept)

pub loop-p-init : goal.loop-p-init
loop-p-init c = (omega (arith, kept c.args.book.now c.requires.kept), omega arith, omega arith, ahead_begin _ _ c.requires.kept c.number-count.ensures.0)

pub body_length-requires : goal.body_length-requires
body_length-requires c = omega (arith, kept c.args.book.now c.requires.kept)

pub parameters-requires : goal.parameters-requires
parameters-requires c = omega (arith, kept c.args.book.now c.requires.kept)

pub locals-requires : goal.locals-requires
locals-requires c = omega (arith, kept c.args.book.now c.requires.kept)

pub invariant_of-scope : goal.invariant_of-scope
invariant_of-scope c = record { listed = (kept c.args.book.now c.requires.kept).fits }

pub slice_bounds-body-end : goal.slice_bounds-body-end
slice_bounds-body-end c =
    let here = turned _ _ _ c.number-count.ensures.0 c.loop-p-test.true c.loop-p.invariant.3.turning in
    omega (arith, here)

pub then-requires : goal.then-requires
then-requires c =
    let here = turned _ _ _ c.number-count.ensures.0 c.loop-p-test.true c.loop-p.invariant.3.turning in
    rw c.bytes.ensures (omega (arith, body_span, here), omega (arith, body_count, here))

pub returns-in_err-read : goal.returns-in_err-read
returns-in_err-read c =
    let e = rw c.bytes.ensures at c.in_err-read.ensures in
    let p = err_from_is_err_and c.from_residual.result c.from_residual.ensures.1 in
    rw (p.1, p.2) record { is = search (ahead_fault, e); room = omega arith }

pub overflow_add-loops : goal.overflow_add-loops
overflow_add-loops c =
    let here = turned _ _ _ c.number-count.ensures.0 c.loop-p-test.true c.loop-p.invariant.3.turning in
    let e = rw c.bytes.ensures at c.in_ok-read.ensures in
    omega (arith, loops_plus _ _ _ e, body_count, here)

pub overflow_mul-sets : goal.overflow_mul-sets
overflow_mul-sets c =
    let here = turned _ _ _ c.number-count.ensures.0 c.loop-p-test.true c.loop-p.invariant.3.turning in
    let few : c.parameters.result + c.locals.result ≤ 16 = omega (arith, here) in
    let e = rw c.bytes.ensures at c.in_ok-read.ensures in
    omega (arith, loops_plus _ _ _ e, body_count, here, mul-le-mul_right c.in_ok-read.read.loops few)

pub overflow_add-sets : goal.overflow_add-sets
overflow_add-sets c =
    let here = turned _ _ _ c.number-count.ensures.0 c.loop-p-test.true c.loop-p.invariant.3.turning in
    let few : c.parameters.result + c.locals.result ≤ 16 = omega (arith, here) in
    let e = rw c.bytes.ensures at c.in_ok-read.ensures in
    omega (arith, loops_plus _ _ _ e, body_count, here, mul-le-mul_right c.in_ok-read.read.loops few)

pub loop-p-preserved : goal.loop-p-preserved
loop-p-preserved c =
    let here = turned _ _ _ c.number-count.ensures.0 c.loop-p-test.true c.loop-p.invariant.3.turning in
    let few : c.parameters.result + c.locals.result ≤ 16 = omega (arith, here) in
    let e = rw c.bytes.ensures at c.in_ok-read.ensures in (
      omega (arith, here),
      omega (arith, loops_plus _ _ _ e, body_count, here),
      omega (arith, mul-le-mul_right c.in_ok-read.read.loops few),
      search (ahead_more, e),
    )

pub returns : goal.returns
returns c = record { is = search ahead_end; room = omega arith }
