-- `bodies` meets its contract. The loop's invariant: the whole is what is left, behind the loops and sets of the bodies before.
use Prim.Native.Nat.{◌≤◌, ◌*◌}
use lib.ListN.{length}
use Rattle.meaning.specs.Reading.{entries, arities}
use Rattle.book.proofs.Laws.Bodies.{Ahead}
use Rattle.book.proofs.bodies.bodies.Given as goal

abbrev pub invariant-loop-p : goal.invariant-loop-p
invariant-loop-p l = (l.at ≤ length l.book) × (l.loops ≤ l.at) × (l.sets ≤ 16 * l.loops) × Ahead l.book (arities (entries l.book)) l.p l.at l.loops l.sets
