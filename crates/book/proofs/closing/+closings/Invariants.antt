-- A closing sequence and the closing command at its end read each other with less depth.
use Prim.Native.Nat.{◌+◌, ◌*◌}
use Rattle.book.proofs.closing.+closings.Given as goal

abbrev pub decreases-last : goal.decreases-last
decreases-last l = 3 * l.depth + 2

abbrev pub decreases-pick : goal.decreases-pick
decreases-pick l = 3 * l.depth + 1

abbrev pub decreases-sequence : goal.decreases-sequence
decreases-sequence l = 3 * l.depth
