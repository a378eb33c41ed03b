-- The summary that is found lies within the room, and the finder would leave just that in a buffer of its size.
use Rattle.std.proofs.Common.{sym, length-take-le}
use Rattle.audit.proofs.Fits.{find_fits, found_alone}
use Rattle.audit.proofs.question.Question.least.Goals as goal

pub slice_bounds-summary-end : goal.slice_bounds-summary-end
slice_bounds-summary-end c = sym (length-take-le _ _ (find_fits c.find_readable.auto.buffer c.in_ok-size.ensures))

pub returns : goal.returns
returns c =
    let e = c.in_ok-book.ensures.bytes in
    record { found = rw e at (found_alone c.in_ok-book.book.answer c.in_ok-size.ensures); reported = rw e at c.in_ok-level.ensures }
