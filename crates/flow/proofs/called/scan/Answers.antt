use Rattle.flow.proofs.Numbers.{some_bytes}
use Rattle.flow.proofs.Scans.{scanning_none, body_ends, scanning_more}
use Rattle.flow.proofs.called.scan.Goals as goal

pub bounds-book-0 : goal.bounds-book-0
bounds-book-0 c = search some_bytes

pub loop-p-init : goal.loop-p-init
loop-p-init c = search scanning_none

pub loop-p-preserved : goal.loop-p-preserved
loop-p-preserved c = search scanning_more

pub slice_bounds-behind-end : goal.slice_bounds-behind-end
slice_bounds-behind-end c =
    body_ends c.loop-p.invariant
    record { known = c.loop-p-test.true; offset = c.offset-at.ensures; length_is = c.body_length.ensures }
