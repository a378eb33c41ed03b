-- A command, its runs and the commands in them read each other with less depth.
use Prim.Native.Nat.{◌≤◌, ◌-◌}
use lib.ListN.{length}
use Rattle.book.specs.Parts.{known}
use Rattle.book.proofs.Laws.Commands.{Rest}
use Prim.Native.Nat.{◌+◌, ◌*◌}
use Rattle.book.proofs.command.+commands.Given as goal

abbrev pub invariant-commands-loop-read : goal.invariant-commands-loop-read
invariant-commands-loop-read l =
    (l.read.bytes ≤ length l.part) × (l.read.loops ≤ l.read.bytes) × Rest l.closed (known l.scope) l.depth l.part l.read.bytes l.read.loops

abbrev pub decreases-commands-loop-read : goal.decreases-commands-loop-read
decreases-commands-loop-read l = length l.part - l.read.bytes

abbrev pub decreases-branch : goal.decreases-branch
decreases-branch l = 4 * l.depth + 3

abbrev pub decreases-commands : goal.decreases-commands
decreases-commands l = 4 * l.depth + 1

abbrev pub decreases-ordinary : goal.decreases-ordinary
decreases-ordinary l = 4 * l.depth

abbrev pub decreases-repeat : goal.decreases-repeat
decreases-repeat l = 4 * l.depth + 3

abbrev pub decreases-several : goal.decreases-several
decreases-several l = 4 * l.depth + 2
