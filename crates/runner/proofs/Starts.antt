-- The start of a run: with a memo that knows nothing yet, at call depth 1.
use Rattle.std.proofs.Common.{ℕ, List, replicate, arith}
use Rattle.runner.specs.Frame.{Framed}
use Rattle.runner.specs.Parts.{EnterPre, EnterPost}
use Rattle.runner.specs.Answering.{SizedPre, BegunPost}
use Rattle.runner.proofs.Memo.{no_jumps}

-- Whatever the memo's size is, a book that fits it may be entered.
module _ {most : ℕ} {b : List ℕ} {p : ℕ} {given : List ℕ} {budget : ℕ} {w : List ℕ} {f : ℕ} (h : SizedPre most b p given budget w) (k : Framed 0 64 f) where
  pub enter_pre : EnterPre b (replicate most 0) p given f budget w
  enter_pre =
      record {
        book = h.start.book;
        bytes = h.start.book.facts.few_bytes;
        known = h.start.known;
        room = omega (arith, k.cells_are, k.depths_are, h.start.cells);
        shallow = omega (arith, k.depths_are);
        few = h.start.few;
        jumps = no_jumps most h.bytes;
        eight = h.start.eight;
      }

  -- What it comes to at 64 call depths is the run.
  pub begun : {w' j' : List ℕ} {r : ℕ} → EnterPost b p given f budget w w' j' r → BegunPost b p given budget r
  begun q = record { ran = λ g. rw k.depths_are at (q.ran g); fell = q.fell }
