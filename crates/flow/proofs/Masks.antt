-- Sets of procedures: what is in one after another is put in.
use mathlib.Core.Path.{◌≡◌, refl, ap}
use mathlib.Core.Bool.{true, or-true}
use Prim.Native.Nat.{ℕ, ◌*◌, ◌%◌, ◌^◌, ◌<◌}
use native.Mathlib.Nat.{one-mul, mod-eq_of_lt}
use borrow.Author.Tests.{eq-eqb}
use lib.Bits.{bit_or}
use lib.Pow.{pow-lt}
use Rattle.meaning.specs.Limits.{most_procedures}
use Rattle.meaning.specs.Sets.{union, single, member}
use Rattle.meaning.proofs.Sets.{member_union, member_single}

-- One bit of 32 is not cut off.
pub one_more : (s p : ℕ) → p < most_procedures → bit_or s (1 * 2 ^ p % 2 ^ most_procedures) ≡ union s (single p)
unfolding union single
one_more s p h = ap (bit_or s) (rw one-mul (mod-eq_of_lt (pow-lt h)))

-- What was in the set stays in it, and the new one is in it.
pub member_old : (s p r : ℕ) → member r s ≡ true → member r (union s (single p)) ≡ true
member_old s p r h = rw (member_union r s (single p), h)

pub member_new : (s p : ℕ) → member p (union s (single p)) ≡ true
member_new s p = rw (member_union p s (single p), member_single p p, eq-eqb p p refl) (or-true (member p s))
