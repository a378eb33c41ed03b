-- A run that is refused, and one that is let through.
use Rattle.std.proofs.lemmas.Result.{err_from_is_err_and}
use Rattle.refusals.proofs.OneNumber.{not_none}
use Rattle.runner.proofs.Answers.{read_accepted, inputs_few, budget_small, cells_enough, part_long, start_pre, judge_refused, run_done}
use Rattle.runner.proofs.run_readable.Goals as goal

pub judged-requires : goal.judged-requires
judged-requires c = read_accepted c.args.book.answer

pub returns-in_err-judged : goal.returns-in_err-judged
returns-in_err-judged c =
    let p = err_from_is_err_and c.from_residual.result c.from_residual.ensures.1 in
    rw (p.1, p.2) (judge_refused c.in_err-judged.ensures (not_none _))

pub gather-given-requires : goal.gather-given-requires
gather-given-requires c = inputs_few c.in_ok-judged.ensures (read_accepted c.args.book.answer)

pub overflow_cast-budget : goal.overflow_cast-budget
overflow_cast-budget c = search (budget_small c.in_ok-judged.ensures)

pub slice_bounds-started-end : goal.slice_bounds-started-end
slice_bounds-started-end c = cells_enough c.in_ok-judged.ensures

pub slice_bounds-started-end-2 : goal.slice_bounds-started-end-2
slice_bounds-started-end-2 c = part_long _ c.in_ok-judged.ensures

pub started-a-requires : goal.started-a-requires
started-a-requires c = start_pre _ c.in_ok-judged.ensures {given = c.gather-given.result} (read_accepted c.args.book.answer) search

pub returns : goal.returns
returns c = search (run_done (read_accepted c.args.book.answer) _ _ c.in_ok-judged.ensures)
