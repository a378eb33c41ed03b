-- A book that is refused, and one that is readable.
use Rattle.std.proofs.lemmas.Result.{err_from_is_err_and}
use Rattle.refusals.proofs.OneNumber.{not_none}
use Rattle.runner.proofs.Answers.{read_refused}
use Rattle.runner.proofs.run.Goals as goal

pub returns-in_err-read : goal.returns-in_err-read
returns-in_err-read c =
    let p = err_from_is_err_and c.from_residual.result c.from_residual.ensures.1 in
    rw (p.1, p.2) (read_refused c.in_err-read.ensures.answer (not_none _))

pub returns : goal.returns
returns c = rw (c.in_ok-read.ensures.bytes) at c.run_readable.ensures
