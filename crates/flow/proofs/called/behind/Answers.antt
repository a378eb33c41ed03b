use Rattle.flow.proofs.Scans.{hearing_new}
use Rattle.flow.proofs.called.behind.Goals as goal

pub loop-w-preserved-then-p-lt-MOST_PROCEDURES : goal.loop-w-preserved-then-p-lt-MOST_PROCEDURES
loop-w-preserved-then-p-lt-MOST_PROCEDURES c = hearing_new _ _ c.loop-w.invariant c.in-Some.is c.next.ensures.steps c.number-p.ensures.0 c.with-mask.ensures
