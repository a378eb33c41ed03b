-- At most one byte was written for each turn, and the text only gets shorter.
use Rattle.std.proofs.Common.{◌≤◌, length}
use Rattle.flows.proofs.text.split_book.Given as goal

abbrev pub invariant-loop-place : goal.invariant-loop-place
invariant-loop-place l = (l.count ≤ l.place-index) × (length l.rest ≤ length l.text)
