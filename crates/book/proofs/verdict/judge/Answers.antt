-- `judge` meets its contract.
use native.Mathlib.Omega.{arith}
use lib.ListN.{length}
use Prim.Native.Nat.{◌≤◌, ◌<◌}
use Rattle.book.proofs.Laws.Verdicts.{judged_empty, judged_long, judged_contents, judged_bodies}
use Rattle.book.proofs.verdict.judge.Goals as goal
use Rattle.book.proofs.verdict.judge.Goals.{then-is_empty-via-then-is_empty, then-is_empty-via-else-is_empty+then-book-gt-MOST_BYTES}

pub returns-then-is_empty : goal.returns-then-is_empty
returns-then-is_empty c =
    elim c.then-is_empty.branch [
      | then-is_empty-via-then-is_empty w ↦ let none : length c.args.book.now < 1 = grind arith in search judged_empty
      | then-is_empty-via-else-is_empty+then-book-gt-MOST_BYTES w ↦ let some : 1 ≤ length c.args.book.now = grind arith in search judged_long
    ]

pub returns-then-not-contents : goal.returns-then-not-contents
returns-then-not-contents c =
    let some : 1 ≤ length c.args.book.now = grind arith in search judged_contents

pub returns : goal.returns
returns c = let some : 1 ≤ length c.args.book.now = grind arith in search judged_bodies
