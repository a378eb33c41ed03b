-- The proof of the run's cycle: each member at its measure.
-- Assumes nothing.
use Rattle.std.proofs.Common.{◌≡◌, ◌-◌, length}
use Rattle.runner.proofs.Sequences.{Going}
use Rattle.runner.proofs.Closings.{Closing-on}
use Rattle.runner.proofs.Calls.{Gathering}
use Rattle.std.proofs.Common.{◌+◌, ◌-◌, length}
use Rattle.runner.specs.Answer.{answer_of}
use Rattle.runner.specs.Frame.{depths}
use Rattle.runner.proofs.Fall.{fall}
use Rattle.std.proofs.Common.{◌≡◌, length}
use Rattle.runner.proofs.Turns.{Turning}
use Rattle.runner.proofs.cycle.+running.Given as goal

abbrev pub invariant-acts-loop-frame : goal.invariant-acts-loop-frame
invariant-acts-loop-frame l = Going l.book l.initial.jumps l.fn.at l.frame l.fn.left l.initial.work l.jumps l.at l.left l.work × (length l.jumps ≡ length l.initial.jumps)

abbrev pub decreases-acts-loop-frame : goal.decreases-acts-loop-frame
decreases-acts-loop-frame l = length l.book - l.at

abbrev pub invariant-finish-loop-jumps : goal.invariant-finish-loop-jumps
invariant-finish-loop-jumps l = Closing-on l.book l.initial.jumps l.fn.at l.frame l.fn.left l.initial.work l.jumps l.at l.left l.work × (length l.jumps ≡ length l.initial.jumps)

abbrev pub decreases-finish-loop-jumps : goal.decreases-finish-loop-jumps
decreases-finish-loop-jumps l = length l.book - l.at

abbrev pub invariant-gather-loop-i : goal.invariant-gather-loop-i
invariant-gather-loop-i l = Gathering l.book l.initial.jumps l.fn.at l.count l.frame l.fn.left l.initial.work l.initial.values l.jumps l.at l.left l.i l.work l.values × (length l.jumps ≡ length l.initial.jumps)

abbrev pub decreases-gather-loop-i : goal.decreases-gather-loop-i
decreases-gather-loop-i l = l.count - l.i

abbrev pub decreases-act : goal.decreases-act
decreases-act l = fall (depths l.frame) l.left (length l.book.now - l.at + 1)

abbrev pub decreases-acts : goal.decreases-acts
decreases-acts l = fall (depths l.frame) l.left (length l.book.now - l.at + 2)

abbrev pub decreases-apply : goal.decreases-apply
decreases-apply l = fall (depths l.frame) l.left (length l.book.now - l.at + 2)

abbrev pub decreases-assign : goal.decreases-assign
decreases-assign l = fall (depths l.frame) l.left (length l.book.now - l.at + 1)

abbrev pub decreases-body : goal.decreases-body
decreases-body l = fall l.d l.left 65536

abbrev pub decreases-branch : goal.decreases-branch
decreases-branch l = fall (depths l.frame) l.left (length l.book.now - l.at + 1)

abbrev pub decreases-call : goal.decreases-call
decreases-call l = fall (depths l.frame) l.left (length l.book.now - l.at + 2)

abbrev pub decreases-enter : goal.decreases-enter
decreases-enter l = fall (depths l.frame) l.left 0

abbrev pub decreases-eval : goal.decreases-eval
decreases-eval l = fall (depths l.frame) l.left (length l.book.now - l.at)

abbrev pub decreases-finish : goal.decreases-finish
decreases-finish l = fall (depths l.frame) l.left (length l.book.now - l.at + 3)

abbrev pub decreases-gather : goal.decreases-gather
decreases-gather l = fall (depths l.frame) l.left (length l.book.now - l.at + 2)

abbrev pub decreases-lookup : goal.decreases-lookup
decreases-lookup l = fall (depths l.frame) l.left (length l.book.now - l.at + 1)

abbrev pub decreases-quick : goal.decreases-quick
decreases-quick l = fall (depths l.frame) l.left (length l.book.now - l.at + 1)

abbrev pub decreases-right : goal.decreases-right
decreases-right l = fall (depths l.frame) (answer_of l.a.packed).left (length l.book.now - l.at + 1)

abbrev pub decreases-turns : goal.decreases-turns
decreases-turns l = fall (depths l.frame) l.left (length l.book.now - l.at)

abbrev pub invariant-turns-loop-left : goal.invariant-turns-loop-left
invariant-turns-loop-left l = Turning l.book l.initial.jumps l.at l.frame l.fn.left l.initial.work l.inside l.jumps l.left l.work × (length l.jumps ≡ length l.initial.jumps)

abbrev pub decreases-turns-loop-left : goal.decreases-turns-loop-left
decreases-turns-loop-left l = l.left
