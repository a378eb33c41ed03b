-- The functions that call each other meet their contracts: the measures, the needs of each, and the close.
use Prim.Native.Nat.{◌*◌, ◌+◌, ◌-◌}
use lib.ListN.{length}
use Rattle.flow.proofs.closing.+closings.Given as goal

abbrev pub decreases-closing : goal.decreases-closing
decreases-closing l = 2 * (length l.walk.now.book.now - l.at) + 1

abbrev pub decreases-pick : goal.decreases-pick
decreases-pick l = 2 * (length l.walk.now.book.now - l.at)
