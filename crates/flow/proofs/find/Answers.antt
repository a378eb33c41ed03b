-- A refused book, or what is found in a readable one.
use Rattle.std.proofs.Common.{rules, tests}
use Rattle.std.proofs.lemmas.Result.{err_from_is_err_and}
use Rattle.refusals.proofs.OneNumber.{not_none}
use Rattle.flow.proofs.Answers.{find_refused, find_left, unfilled}
use Rattle.flow.proofs.find.Goals as goal

pub returns-in_err-read : goal.returns-in_err-read
returns-in_err-read c =
    let p = err_from_is_err_and c.from_residual.result c.from_residual.ensures.1 in
    rw (p.1, p.2) (find_left (find_refused c.in_err-read.ensures.answer (not_none _)) (search (rules, tests, unfilled c.args.buffer.now)))

pub returns : goal.returns
returns c = find_left (rw (c.in_ok-read.ensures.bytes) at c.find_readable.ensures) (search (rules, tests, unfilled c.args.buffer.now))
