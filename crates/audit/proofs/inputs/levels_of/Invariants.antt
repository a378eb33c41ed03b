-- At each turn what was read lies within the room.
use Rattle.std.proofs.Common.{◌≤◌, length}
use Rattle.audit.proofs.inputs.levels_of.Given as goal

abbrev pub invariant-loop-j : goal.invariant-loop-j
invariant-loop-j l = l.count ≤ length l.room
