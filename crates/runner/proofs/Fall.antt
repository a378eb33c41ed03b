-- Call depth, steps left and bytes left, in this order, as one number that falls with each call of the cycle.
use Rattle.std.proofs.Common.{◌≡◌, ℕ, ◌+◌, ◌*◌, ◌^◌, ◌<◌, ◌≤◌, arith}

unfoldable pub fall : ℕ → ℕ → ℕ → ℕ
fall d l r = (d * 2 ^ 32 + l) * 2 ^ 64 + r

pub fall_bytes : (d l m r s : ℕ) {t : ℕ} → fall d l r ≡ t → m ≤ l → s < r → fall d m s < t
unfolding fall
fall_bytes d l m r s e h k = omega arith

-- Where a step is spent, or a depth, the bytes left may be any that a book has.
pub fall_steps : (d l m r s : ℕ) {t : ℕ} → fall d l r ≡ t → m < l → s ≤ 65536 → fall d m s < t
unfolding fall
fall_steps d l m r s e h k = omega arith

pub fall_depth : (c d l m r s : ℕ) {t : ℕ} → fall d l r ≡ t → c < d → m ≤ l → s ≤ 65536 → fall c m s < t
unfolding fall
fall_depth c d l m r s e h k j = omega arith
