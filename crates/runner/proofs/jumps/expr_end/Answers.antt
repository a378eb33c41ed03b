-- A leaf's end is known, another's looked up, or found and kept.
use Rattle.std.proofs.Common.{arith, of_calls}
use Rattle.runner.proofs.Memo.{expr_there, variable_end, constant_end, expr_row, expr_found, expr_small, noted_end}
use Rattle.runner.proofs.jumps.expr_end.Goals as goal

pub bounds-book-at : goal.bounds-book-at
bounds-book-at c = omega (arith, expr_there)

pub returns-in-17 : goal.returns-in-17
returns-in-17 c = search variable_end

pub returns-in-16 : goal.returns-in-16
returns-in-16 c = search constant_end

pub noted-requires-clause-there : goal.noted-requires-clause-there
noted-requires-clause-there c = omega (arith, expr_there)

pub noted-requires-clause-can : goal.noted-requires-clause-can
noted-requires-clause-can c = search (of_calls, expr_row)

pub noted-requires-clause-small : goal.noted-requires-clause-small
noted-requires-clause-small c = λ r q. expr_small c.requires (search of_calls)

pub returns-in_default : goal.returns-in_default
returns-in_default c = noted_end c.requires.jumps c.noted.ensures (λ r q. expr_found c.requires (search of_calls))
