use Rattle.flow.specs.Packed.{at_in, row_in}
use native.Mathlib.Omega.{arith}
use Rattle.flow.proofs.packed.Place.new.Goals as goal

pub returns : goal.returns
unfolding at_in row_in
returns c = record { at_is = omega arith; row_is = omega arith }
