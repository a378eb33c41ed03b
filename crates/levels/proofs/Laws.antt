-- Facts on plain numbers, lists and tests.
use mathlib.Core.Path.{◌≡◌, refl, sym, ap, ◌∙◌}
use mathlib.Core.Bool.{Bool, true, false, not, ◌&&◌, and-true, and_assoc}
use mathlib.Core.List.{List, [], ◌∷◌}
use Prim.Native.Nat.{ℕ, zero, suc, ◌+◌, ◌<◌}
use native.Mathlib.Omega.{arith}
use Rattle.std.specs.Iterator.{Yields, CallableAtEachTurn}
use Rattle.std.proofs.iter.Yields.{nat_range_steps}
use Rattle.std.specs.declared.ops.Range.{Range}
use Rattle.std.specs.List.{fold, list_all, range_with_len}
use Rattle.meaning.specs.Lists.{every}
use Rattle.meaning.specs.Lists.{fold as each_below}
use Rattle.std.proofs.Common.{add-zero, zero-add}

-- What would be against a test that failed is false.
pub against : (b : Bool) {x : Bool} → not x ≡ true → (b ≡ true → x ≡ true) → false ≡ b
against true e h = let p = h refl in rw p at e
against false e h = refl

-- A test of every number of a range, from its other end.
last_too : (f : ℕ → Bool) (a n : ℕ) → list_all f (range_with_len a (suc n)) ≡ (list_all f (range_with_len a n) && f (a + n))
last_too f a zero = simp (add-zero, and-true)
last_too f a (suc n) =
    ap (λ x. f a && x) (last_too f (a + 1) n)
    ∙ sym (and_assoc (f a) (list_all f (range_with_len (a + 1) n)) (f (a + 1 + n)))
    ∙ ap (λ k. f a && list_all f (range_with_len (a + 1) n) && f k) (omega arith)

pub all_every : (f : ℕ → Bool) (n : ℕ) → list_all f (range_with_len 0 n) ≡ every n f
unfolding every
all_every f zero = refl
all_every f (suc n) = last_too f 0 n ∙ rw (all_every f n, zero-add)

-- A fold over every number of a range, from its other end.
fold_last : {A : Type 0} (h : A → ℕ → A) (x : A) (a n : ℕ) → fold h x (range_with_len a (suc n)) ≡ h (fold h x (range_with_len a n)) (a + n)
fold_last h x a zero = ap (h x) (omega arith)
fold_last h x a (suc n) =
    fold_last h (h x a) (a + 1) n ∙ ap (h (fold h (h x a) (range_with_len (a + 1) n))) (omega arith)

pub fold_below : {A : Type 0} (f : ℕ → A → A) (x : A) (n : ℕ) → fold (λ x i. f i x) x (range_with_len 0 n) ≡ each_below n f x
unfolding each_below
fold_below f x zero = refl
fold_below f x (suc n) = fold_last (λ x i. f i x) x 0 n ∙ rw (fold_below f x n, zero-add)

-- Each number that a range gives is below its end.
end_stays : (xs : List ℕ) (s t : Range ℕ) → Yields nat_range_steps s xs t → t.end ≡ s.end
end_stays [] s t y = sym (ap (λ k. k.end) y)
end_stays (x ∷ xs) s t y = end_stays xs y.0 t y.2 ∙ y.1.0

pub below_end : {P : Type 0} {R : P → ℕ → P → Type 0} {Q : P → ℕ → Type 0} {s : Range ℕ} {p : P} →
    ((q : P) (x : ℕ) → x < s.end → Q q x) → CallableAtEachTurn nat_range_steps R Q s p
below_end {s = s} h = record { at = λ xs t q x u y c e. h q x (let w = end_stays xs s t y in omega (arith, e.1.0, e.1.1)) }
