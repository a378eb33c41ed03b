-- `in_turn` meets its contract. The loop's invariant: the rules hold of all entries just when they hold from entry `p` on.
-- A body's length is two bytes.
use mathlib.Core.Path.{◌≡◌}
use Prim.Native.Nat.{◌≤◌, ◌+◌, ◌*◌}
use Rattle.book.proofs.Laws.Contents.{whole_turns, turns}
use Rattle.book.proofs.contents.in_turn.Given as goal

abbrev pub invariant-loop-p : goal.invariant-loop-p
invariant-loop-p l = (l.at ≤ 200 + 65536 * l.p) × (whole_turns l.book ≡ turns l.book l.p l.at)
