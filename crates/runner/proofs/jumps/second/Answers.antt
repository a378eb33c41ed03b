-- The second sequence, looked up, or found and kept.
use Rattle.std.proofs.Common.{arith, of_calls}
use Rattle.runner.proofs.Memo.{pick_there, pick_part, pick_found, pick_small, noted_end}
use Rattle.runner.proofs.jumps.second.Goals as goal

pub noted-requires-clause-there : goal.noted-requires-clause-there
noted-requires-clause-there c = omega (arith, pick_there)

pub noted-requires-clause-can : goal.noted-requires-clause-can
noted-requires-clause-can c = search (of_calls, pick_part)

pub noted-requires-clause-small : goal.noted-requires-clause-small
noted-requires-clause-small c = λ r q. pick_small c.requires (search of_calls)

pub returns : goal.returns
returns c = noted_end c.requires.jumps c.noted.ensures (λ r q. pick_found c.requires (search of_calls))
