use mathlib.Core.Path.{◌∙◌}
use Rattle.std.proofs.lemmas.Bool.{not_from_false}
use Rattle.flow.proofs.Numbers.{some_bytes, few_procedures}
use Rattle.flow.proofs.Waking.{rousing_none, rousing_called, rousing_moved, rousing_kept, rousing_row, rousing_done}
use Rattle.flow.proofs.wake.wake.Goals as goal
use Rattle.flow.proofs.wake.wake.Goals.{then-not-within, else-not-within+then-walks-p, else-not-within+else-walks-p}

pub bounds-book-0 : goal.bounds-book-0
bounds-book-0 c = search some_bytes

pub quiet-still-requires : goal.quiet-still-requires
quiet-still-requires c = search few_procedures

pub loop-p-init : goal.loop-p-init
loop-p-init c = search rousing_none

pub rows-requires : goal.rows-requires
rows-requires c = rousing_row c.loop-p.invariant c.loop-p-test.true

pub rows-requires-then-walks-p : goal.rows-requires-then-walks-p
rows-requires-then-walks-p c = rousing_row c.loop-p.invariant c.loop-p-test.true

pub loop-p-preserved : goal.loop-p-preserved
loop-p-preserved c =
    elim c.if-not-within.branch [
      | then-not-within w ↦ rousing_called c.loop-p.invariant c.loop-p-test.true (w.next-is ∙ not_from_false _ w.if-not-within.true)
      | else-not-within+then-walks-p w ↦
          let e = rw (w.rows.ensures, w.rows-then-walks-p.ensures) at w.ne.ensures in
          rw w.next-is (rousing_moved c.loop-p.invariant c.loop-p-test.true c.within.ensures w.if-not-within.false e)
      | else-not-within+else-walks-p w ↦ rousing_kept c.loop-p.invariant c.loop-p-test.true _ c.within.ensures w.if-not-within.false w.if-walks-p.false
    ]

pub returns : goal.returns
returns c = search rousing_done
