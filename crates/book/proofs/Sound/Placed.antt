-- Numbering the loops of a command or a run adds none and loses none: the law of closing sequences, read at one that holds just this.
use mathlib.Core.Path.{◌≡◌}
use Prim.Native.Nat.{ℕ}
use native.Mathlib.Omega.{arith}
use Rattle.meaning.specs.Tree.{Cmd, Run, constant, branch, stop, first, give, loops, loops_in, loops_of, placed, placed_in, placed_of}
use Rattle.meaning.proofs.Places.{loops_placed_of}

pub loops_placed : (c : Cmd) (w k : ℕ) → loops (placed w k c) ≡ loops c
unfolding loops_of placed_of
loops_placed c w k = omega (arith, loops_placed_of (first c (give (constant 0))) w k)

pub loops_placed_in : (s : Run) (w k : ℕ) → loops_in (placed_in w k s) ≡ loops_in s
unfolding loops loops_in placed placed_in
loops_placed_in s w k = omega (arith, loops_placed (branch (constant 0) s stop) w k)
