-- What a shift does to a set.
use mathlib.Core.Path.{◌≡◌, sym, ◌∙◌}
use mathlib.Core.Logic.{◌⊎◌, inl, inr}
use mathlib.Core.Bool.{true, false}
use Prim.Native.Nat.{ℕ, ◌*◌, ◌/◌, ◌%◌, ◌^◌, ◌≤◌, ◌<◌}
use native.Mathlib.Nat.{one-mul, mod-eq_of_lt, div-eq_of_lt, div-lt_iff_lt-mul}
use native.Mathlib.Omega.{arith}
use borrow.Author.Tests.{eq-eqb, ne_eqb, ltb-true, ltb-false}
use lib.Dec.{eqb, ltb}
use lib.Pow.{pow-lt, pow_pos}
use Rattle.meaning.specs.Sets.{inside, upto}
use Rattle.meaning.proofs.Lists.{holds_or_fails}
use Rattle.meaning.proofs.Sets.{inside_sound, inside_complete, upto_below}

-- One bit of a width w is not cut off.
pub bit_fits : (w i : ℕ) → i < w → 1 * 2 ^ i % 2 ^ w ≡ 2 ^ i
bit_fits w i h = rw one-mul (mod-eq_of_lt (pow-lt h))

above : (n s : ℕ) → 2 ^ n ≤ s → s / 2 ^ n ≡ 0 → ⊥
above n s h e =
    let l : s < 1 * 2 ^ n = (div-lt_iff_lt-mul (pow_pos n)).0 (omega arith) in
    omega arith

-- Nothing is left above the first n parameters.
pub nothing_above : (n s : ℕ) → eqb (s / 2 ^ n) 0 ≡ inside s (upto n)
nothing_above n s = go (holds_or_fails (ltb s (2 ^ n))) (holds_or_fails (inside s (upto n)))
  where
    go : (ltb s (2 ^ n) ≡ true) ⊎ (ltb s (2 ^ n) ≡ false) → (inside s (upto n) ≡ true) ⊎ (inside s (upto n) ≡ false) → eqb (s / 2 ^ n) 0 ≡ inside s (upto n)
    go (inl p) q =
        eq-eqb (s / 2 ^ n) 0 (div-eq_of_lt (ltb-true s (2 ^ n) p))
        ∙ sym (inside_complete s (upto n) ((upto_below n s).0 (ltb-true s (2 ^ n) p)))
    go (inr p) (inl q) = absurd (omega (arith, (upto_below n s).1 (inside_sound s (upto n) q), ltb-false s (2 ^ n) p))
    go (inr p) (inr q) = ne_eqb (s / 2 ^ n) 0 (above n s (ltb-false s (2 ^ n) p)) ∙ sym q
