-- Taking an answer apart undoes making it.
use Rattle.std.proofs.Common.{◌≡◌, ℕ, ◌+◌, ◌*◌, ◌/◌, ◌^◌, ◌<◌, ◌≤◌, arith, le-leb}
use borrow.Author.Tests.{lt-leb}
use Rattle.runner.specs.Answer.{ended_as, answer_of, Yields, Ends}

-- What a test against the least answer that has ended says.
pub ending_over : (a : ℕ) → 0x8000000000000000 ≤ a → (answer_of a).ending ≡ a / 2 ^ 61
unfolding answer_of ended_as
ending_over a h = rw (le-leb 0x8000000000000000 a h)

pub not_ended : {a : ℕ} → a < 0x2000000000000000 → (answer_of a).ending ≡ 0
unfolding answer_of ended_as
not_ended {a} h = rw (lt-leb 0x8000000000000000 a (omega arith))

pub has_ended : {a : ℕ} → 0x8000000000000000 ≤ a → (answer_of a).ending ≡ 0 → ⊥
has_ended {a} h e = omega (arith, ending_over a h)

same : (a : ℕ) {e v l : ℕ} → (answer_of a).ending ≡ e → (answer_of a).value ≡ v → (answer_of a).left ≡ l →
    answer_of a ≡ record { ending = e; value = v; left = l }
unfolding answer_of
same a p q r = rw (p, q, r)

pub made_going : {v l : ℕ} (r : ℕ) → v < 0x100000000 → l ≤ 1000000 → r ≡ v + l * 0x100000000 → Yields v l r
unfolding answer_of
made_going r h k e = record { is = same r (not_ended {a = r} (omega arith)) (omega arith) (omega arith) }

pub made_over : {e l : ℕ} (r : ℕ) → 4 ≤ e → e < 8 → l ≤ 1000000 → r ≡ e * 0x2000000000000000 + l * 0x100000000 → Ends e l r
unfolding answer_of
made_over {e} r g h k i = record { is = same r (rw (ending_over r (omega arith)) (omega arith)) (omega arith) (omega arith) }
