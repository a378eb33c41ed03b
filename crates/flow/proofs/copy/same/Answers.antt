use native.Mathlib.Omega.{arith}
use Rattle.std.proofs.Common.{rules, tests}
use Rattle.flow.proofs.Copies.{same_fronts, from_start}
use Rattle.flow.proofs.copy.same.Goals as goal

pub returns : goal.returns
returns c = same_fronts (omega arith) (omega arith) (search (rules, tests, from_start c.args.a.now c.args.b.now c.args.n))
