-- `read` meets its contract.
use Rattle.std.proofs.lemmas.Result.{err_from_is_err_and}
use Rattle.book.proofs.Answer.{reads_size, reads_refusal}
use Rattle.book.proofs.read.Goals as goal

pub returns-in_err-judge : goal.returns-in_err-judge
returns-in_err-judge c =
    let p = err_from_is_err_and c.from_residual.result c.from_residual.ensures.1 in
    rw p.1 (reads_refusal _ _ c.in_err-judge.ensures p.2)

pub returns : goal.returns
returns c = reads_size _ c.in_ok-judge.ensures
