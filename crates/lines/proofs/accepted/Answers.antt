-- The reader refuses the book, or the finder's buffer begins with the summary.
use mathlib.Core.Path.{refl, sym}
use lib.Seq.{length-take-le}
use Rattle.std.proofs.lemmas.Result.{err_from_is_err_and}
use Rattle.refusals.proofs.OneNumber.{not_none}
use Rattle.lines.proofs.Found.{refused_says, never_refused, fits, results, listed_says}
use Rattle.lines.proofs.accepted.Goals as goal

pub returns-in_err-book : goal.returns-in_err-book
returns-in_err-book c =
    let p = err_from_is_err_and c.from_residual.result c.from_residual.ensures.1 in
    rw (p.1, p.2) (refused_says c.in_err-book.ensures.answer (not_none _))

pub returns-in_err-found : goal.returns-in_err-found
returns-in_err-found c = absurd (never_refused c.in_ok-book.book.answer refl c.in_err-found.ensures _ refl)

pub slice_bounds-summary-end : goal.slice_bounds-summary-end
slice_bounds-summary-end c = fits c.in_ok-book.book.answer refl c.in_ok-found.ensures

pub slice_bounds-lines_of-end : goal.slice_bounds-lines_of-end
slice_bounds-lines_of-end c = sym (length-take-le _ _ (fits c.in_ok-book.book.answer refl c.in_ok-found.ensures))

pub lines_of-requires : goal.lines_of-requires
lines_of-requires c = results c.in_ok-book.book.answer refl c.in_ok-found.ensures

pub returns : goal.returns
returns c = rw (← c.in_ok-book.ensures.bytes) (listed_says c.in_ok-book.book.answer refl c.in_ok-found.ensures c.lines_of.ensures)
