-- What each call puts, one behind the other.
use mathlib.Core.List.{append_assoc}
use Rattle.lines.proofs.entries.line.Goals as goal

pub returns : goal.returns
returns c =
    rw (c.put-4.ensures.text, c.put_number-4.ensures.text, c.put-3.ensures.text, c.put_number-3.ensures.text)
    (rw (c.put-2.ensures.text, c.put_number-2.ensures.text, c.put.ensures.text, c.put_number.ensures.text) (simp append_assoc))
