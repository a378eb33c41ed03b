-- The functions that call each other meet their contracts: the measures, the needs of each, and the close.
use Prim.Native.Nat.{◌*◌, ◌+◌, ◌-◌}
use lib.ListN.{length}
use Rattle.flow.specs.Walks.{by, standing}
use Rattle.flow.proofs.Lists.{Listing}
use Rattle.flow.proofs.command.+commands.Given as goal

abbrev pub invariant-commands-loop-sets : goal.invariant-commands-loop-sets
invariant-commands-loop-sets l = Listing (by l.walk) l.guard (standing l.fn.at l.fn.row l.initial.new l.initial.sets) (standing l.at l.row l.new l.sets)

abbrev pub decreases-commands-loop-sets : goal.decreases-commands-loop-sets
decreases-commands-loop-sets l = length l.walk.book.now - l.at

abbrev pub decreases-branch : goal.decreases-branch
decreases-branch l = 4 * (length l.walk.now.book.now - l.at)

abbrev pub decreases-nested : goal.decreases-nested
decreases-nested l = 4 * (length l.walk.now.book.now - l.at) + 1

abbrev pub decreases-repeat : goal.decreases-repeat
decreases-repeat l = 4 * (length l.walk.now.book.now - l.at)

abbrev pub decreases-run : goal.decreases-run
decreases-run l = 4 * (length l.walk.now.book.now - l.at) + 3

abbrev pub decreases-commands : goal.decreases-commands
decreases-commands l = 4 * (length l.walk.now.book.now - l.at) + 2
