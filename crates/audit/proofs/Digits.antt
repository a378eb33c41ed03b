-- Reading a number digit by digit.
use mathlib.Core.Path.{◌≡◌, refl, sym, ap, ◌∙◌}
use mathlib.Core.Bool.{Bool, true, false}
use mathlib.Core.List.{List}
use Prim.Native.Nat.{ℕ, ◌+◌, ◌-◌, ◌*◌, ◌^◌, ◌≤◌, ◌<◌}
use native.Mathlib.Nat.{pow-succ', pow-le-pow_right}
use native.Mathlib.Numerals.{add-one}
use native.Mathlib.Omega.{arith}
use borrow.Author.Tests.{le-leb, leb-true}
use lib.Dec.{leb}
use lib.ListN.{length, get_or}
use Rattle.std.specs.Prelude.{Some, None}
use Rattle.meaning.specs.Lists.{fold, every}
use Rattle.meaning.proofs.Lists.{both, both_left, both_right, every_sound}
use Rattle.audit.specs.Decimal.{most_digits, is_digit, digits_to, value_to, is_number, ReadsNumber}

-- The first i digits are read.
pub record Upto (s : List ℕ) (i v : ℕ) : Type 0 where
  pub digits : digits_to s i ≡ true
  pub value : v ≡ value_to s i
  pub small : v + 1 ≤ 10 ^ i

pub upto_none : (s : List ℕ) → Upto s 0 0
unfolding digits_to value_to fold every
upto_none s = record { digits = refl; value = refl; small = omega arith }

pub upto_more : {s : List ℕ} {i v w : ℕ} → Upto s i v → 48 ≤ get_or s i 0 → get_or s i 0 ≤ 57 → w ≡ get_or s i 0 - 48 → Upto s (i + 1) (10 * v + w)
unfolding digits_to value_to fold every
upto_more {s} {i} {v} {w} u h k e =
    rw add-one
    (record {
      digits = both u.digits (both (le-leb 48 (get_or s i 0) h) (le-leb (get_or s i 0) 57 k));
      value = rw (e, u.value);
      small = rw (pow-succ' 10 i) (omega (arith, u.small));
    })

-- One more digit fits.
pub upto_room : {s : List ℕ} {i v : ℕ} → Upto s i v → i < most_digits → v + 1 ≤ 10 ^ 17
upto_room {i = i} u h =
    let below : i ≤ 17 = omega arith in
    let p : 10 ^ i ≤ 10 ^ 17 = pow-le-pow_right (omega arith) {i = i} {j = 17} below in
    omega (arith, u.small)

pub upto_all : {s : List ℕ} {i v : ℕ} → i ≡ length s → 1 ≤ length s → length s ≤ most_digits → Upto s i v → ReadsNumber s (Some v)
unfolding is_number
upto_all {s} {i} {v} e h k u =
    record {
      known_is = sym (both (le-leb 1 (length s) h) (both (le-leb (length s) most_digits k) (ap (digits_to s) (sym e) ∙ u.digits)));
      value_is = u.value ∙ ap (value_to s) e;
    }

-- A test that would give something false is false.
refuted : (t : Bool) → (t ≡ true → ⊥) → t ≡ false
refuted true h = absurd (h refl)
refuted false h = refl

-- What is no number: its length is not right, or a byte is no digit.
none_read : {s : List ℕ} → (is_number s ≡ true → ⊥) → ReadsNumber s None
none_read {s} h = record { known_is = sym (refuted (is_number s) h); value_is = tt }

pub none_short : {s : List ℕ} → length s ≡ 0 → ReadsNumber s None
unfolding is_number
none_short {s} h = none_read λ t. let z = leb-true 1 (length s) (both_left _ _ t) in omega arith

pub none_long : {s : List ℕ} → most_digits < length s → ReadsNumber s None
unfolding is_number
none_long {s} h = none_read λ t. let z = leb-true (length s) most_digits (both_left _ _ (both_right (leb 1 (length s)) _ t)) in omega arith

-- A byte of a number is a digit.
digit_at : (s : List ℕ) → is_number s ≡ true → (i : ℕ) → i < length s → is_digit (get_or s i 0) ≡ true
unfolding is_number digits_to
digit_at s t i h =
    every_sound (length s) _ (both_right (leb (length s) most_digits) _ (both_right (leb 1 (length s)) _ t)) i h

pub none_low : {s : List ℕ} (i : ℕ) → i < length s → get_or s i 0 < 48 → ReadsNumber s None
none_low {s} i h k = none_read λ t. let z = leb-true 48 (get_or s i 0) (both_left _ _ (digit_at s t i h)) in omega arith

pub none_high : {s : List ℕ} (i : ℕ) → i < length s → 57 < get_or s i 0 → ReadsNumber s None
none_high {s} i h k = none_read λ t. let z = leb-true (get_or s i 0) 57 (both_right (leb 48 (get_or s i 0)) _ (digit_at s t i h)) in omega arith
