-- Past the most parameters a set names none.
use mathlib.Core.Path.{◌≡◌, refl, sym, ◌∙◌}
use mathlib.Core.Bool.{Bool, true, false}
use Prim.Native.Nat.{ℕ, ◌^◌, ◌≤◌, ◌<◌}
use native.Mathlib.Omega.{arith}
use borrow.Author.Tests.{ltb-true}
use Rattle.meaning.specs.Limits.{most_parameters}
use Rattle.meaning.specs.Sets.{member}
use Rattle.meaning.proofs.Sets.{member_upto, below_sub}

pub past_set : (i s : ℕ) → s < 2 ^ most_parameters → most_parameters ≤ i → false ≡ member i s
past_set i s h k = go (member i s) refl
  where
    go : (t : Bool) → member i s ≡ t → false ≡ member i s
    go false e = sym e
    go true e =
        let z = ltb-true i most_parameters (sym (member_upto i most_parameters) ∙ (below_sub most_parameters s h).each i e) in
        absurd (omega arith)
