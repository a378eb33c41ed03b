-- After p turns the first p lines are there.
use mathlib.Core.Path.{◌≡◌}
use Prim.Native.Nat.{◌≤◌}
use Rattle.meaning.specs.Reading.{procedures}
use Rattle.lines.proofs.Shown.{Shown}
use Rattle.lines.proofs.entries.lines_of.Given as goal

abbrev pub invariant-loop-p : goal.invariant-loop-p
invariant-loop-p l = (l.p-end ≡ procedures l.bytes) × (l.p ≤ l.p-end) × Shown l.bytes l.summary l.p l.text
