-- A test of the table, of the procedure and of the levels; then the checker's refusal, or the level by the summary's result.
use mathlib.Core.List.{[]}
use Rattle.std.proofs.Common.{rules, tests}
use Rattle.std.proofs.lemmas.Result.{err_from_is_err_and}
use Rattle.refusals.proofs.OneNumber.{not_none}
use Rattle.reporter.proofs.Ways.{table_refused, procedure_told, levels_refused, summary_refused, level_reported, few_levels, result_there}
use Rattle.reporter.proofs.Ways.{first_there, entry_there}
use Rattle.reporter.proofs.level_readable.Goals as goal

pub returns-then-not-valid : goal.returns-then-not-valid
returns-then-not-valid c = search table_refused

pub bounds-book-0 : goal.bounds-book-0
bounds-book-0 c = search first_there

pub returns-then-from-procedure : goal.returns-then-from-procedure
returns-then-from-procedure c =
    procedure_told _ _ _ _ _ c.args.book.answer (search rules) c.from.ensures c.if-from-procedure.true (search (rules, tests))

pub fitting-requires : goal.fitting-requires
fitting-requires c = search entry_there

pub returns-then-not-fitting : goal.returns-then-not-fitting
returns-then-not-fitting c =
    levels_refused _ _ _ _ _ c.args.book.answer (search rules) c.from.ensures c.if-from-procedure.false c.fitting.ensures (search rules)

pub returns-in_err-check_readable : goal.returns-in_err-check_readable
returns-in_err-check_readable c =
    let p = err_from_is_err_and c.from_residual.result c.from_residual.ensures.1 in
    rw (p.1, p.2)
    (summary_refused _ _ _ _ _ c.args.book.answer (search rules) c.from.ensures (search rules) (search rules) c.in_err-check_readable.ensures (not_none _))

pub bounds-summary-p : goal.bounds-summary-p
bounds-summary-p c =
    result_there _ c.args.table.now c.args.levels.now _ _ c.args.book.answer (search rules) c.from.ensures (search rules) (search rules)
    c.in_ok-check_readable.ensures

pub reported-requires : goal.reported-requires
reported-requires c =
    few_levels c.args.book.bytes.now c.args.table.now _ [] c.args.procedure c.args.book.answer (search rules) c.from.ensures
    (search rules) (search rules)

pub returns : goal.returns
returns c =
    level_reported _ _ _ _ _ c.args.book.answer (search rules) c.from.ensures (search rules) (search rules)
    c.in_ok-check_readable.ensures (search rules)
