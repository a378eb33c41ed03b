-- Parameters as given, then locals 0.
use Rattle.std.proofs.Common.{◌+◌, ◌-◌}
use Rattle.runner.proofs.Frames.{SettingUp}
use Rattle.runner.proofs.frame.prepared.Given as goal

abbrev pub invariant-loop-i : goal.invariant-loop-i
invariant-loop-i l = SettingUp l.given l.k l.l l.initial.work l.work l.i

abbrev pub decreases-loop-i : goal.decreases-loop-i
decreases-loop-i l = l.k + l.l - l.i
