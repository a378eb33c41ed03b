-- A run's end, looked up, or found and kept.
use Rattle.std.proofs.Common.{arith, of_calls}
use Rattle.runner.proofs.Memo.{run_there, run_row, run_found, run_small, noted_end}
use Rattle.runner.proofs.jumps.run_end.Goals as goal

pub noted-requires-clause-there : goal.noted-requires-clause-there
noted-requires-clause-there c = omega (arith, run_there)

pub noted-requires-clause-can : goal.noted-requires-clause-can
noted-requires-clause-can c = search (of_calls, run_row)

pub noted-requires-clause-small : goal.noted-requires-clause-small
noted-requires-clause-small c = λ r q. run_small c.requires (search of_calls)

pub returns : goal.returns
returns c = noted_end c.requires.jumps c.noted.ensures (λ r q. run_found c.requires (search of_calls))
