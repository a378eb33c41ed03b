use Rattle.flow.specs.Packed.{set_in, next_in}
use native.Mathlib.Omega.{arith}
use Rattle.flow.proofs.packed.Flow.new.Goals as goal

pub returns : goal.returns
unfolding set_in next_in
returns c = record { set_is = omega arith; next_is = omega arith }
