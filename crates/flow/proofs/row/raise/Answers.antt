use native.Mathlib.Omega.{arith}
use Rattle.flow.proofs.Raise.{raised_row}
use Rattle.flow.proofs.row.raise.Goals as goal

pub returns : goal.returns
returns c =
    rw c.unite.ensures (raised_row _ c.args.sets.now c.args.k c.args.w c.requires (omega arith) (omega arith))
