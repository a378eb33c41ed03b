-- A refused book, or what is asked of a readable one.
use Rattle.std.proofs.lemmas.Result.{err_from_is_err_and}
use Rattle.refusals.proofs.OneNumber.{not_none}
use Rattle.reporter.proofs.Ways.{book_refused}
use Rattle.reporter.proofs.level.Goals as goal

pub returns-in_err-read : goal.returns-in_err-read
returns-in_err-read c =
    let p = err_from_is_err_and c.from_residual.result c.from_residual.ensures.1 in
    rw (p.1, p.2) (book_refused _ _ _ _ _ c.in_err-read.ensures.answer (not_none _))

pub returns : goal.returns
returns c = rw (c.in_ok-read.ensures.bytes) at c.level_readable.ensures
