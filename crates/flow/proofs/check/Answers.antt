-- A refused book, or what the summary of a readable one is answered.
use Rattle.std.proofs.lemmas.Result.{err_from_is_err_and}
use Rattle.refusals.proofs.OneNumber.{not_none}
use Rattle.flow.proofs.Answers.{check_refused}
use Rattle.flow.proofs.check.Goals as goal

pub returns-in_err-read : goal.returns-in_err-read
returns-in_err-read c =
    let p = err_from_is_err_and c.from_residual.result c.from_residual.ensures.1 in
    rw (p.1, p.2) (check_refused c.in_err-read.ensures.answer (not_none _))
