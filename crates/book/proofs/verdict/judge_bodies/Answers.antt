-- `judge_bodies` meets its contract.
use Rattle.std.proofs.lemmas.Result.{err_from_is_err_and}
use Rattle.book.proofs.Laws.Verdicts.{judged_fault, judged_loops, judged_size}
use Rattle.book.proofs.verdict.judge_bodies.Goals as goal

pub returns-in_err-counted : goal.returns-in_err-counted
returns-in_err-counted c =
    let h = c.in_err-counted.ensures in
    let p = err_from_is_err_and c.from_residual.result c.from_residual.ensures.1 in rw (p.1, p.2) (judged_fault _ h.is)

pub returns-then-counted-gt-MOST_LOOPS : goal.returns-then-counted-gt-MOST_LOOPS
returns-then-counted-gt-MOST_LOOPS c = let h = c.in_ok-counted.ensures in search (judged_loops, h.is)

pub returns : goal.returns
returns c = let h = c.in_ok-counted.ensures in search (judged_size, h.is)
