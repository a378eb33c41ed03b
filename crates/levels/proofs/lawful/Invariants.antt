-- Each loop has kept its laws as far as it has come.
use mathlib.Core.Path.{◌≡◌}
use mathlib.Core.Bool.{true}
use Prim.Native.Nat.{◌≤◌}
use Rattle.levels.proofs.Upto.{triples_upto, pairs_upto, laws_upto}
use Rattle.levels.proofs.lawful.Given as goal

abbrev pub invariant-loop-c : goal.invariant-loop-c
invariant-loop-c l = (l.c ≤ l.n) × (triples_upto l.table l.a l.b l.c ≡ true)

abbrev pub invariant-loop-b : goal.invariant-loop-b
invariant-loop-b l = (l.b ≤ l.n) × (pairs_upto l.table l.a l.b ≡ true)

abbrev pub invariant-loop-a : goal.invariant-loop-a
invariant-loop-a l = (l.a ≤ l.n) × (laws_upto l.table l.a ≡ true)
