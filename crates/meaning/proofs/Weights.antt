-- How many parameters the sets of a summary name in all.
use mathlib.Core.Path.{◌≡◌, refl, sym, ap₂, ◌∙◌}
use mathlib.Core.List.{List, [], ◌∷◌}
use Prim.Native.Nat.{ℕ, zero, suc, ◌+◌, ◌*◌, ◌/◌, ◌%◌, ◌≤◌}
use native.Mathlib.Nat.{mul-suc}
use native.Mathlib.Omega.{arith}
use lib.Arith.{bin_ind}
use lib.Count.{ones, ones_step, ones-le}
use lib.ListN.{length}
use borrow.Author.Tests.{eqb-true, eq-eqb}
use Rattle.meaning.specs.Sets.{empty, upto, ◌⊆◌}
use Rattle.meaning.specs.Flow.{at}
use Rattle.meaning.proofs.Sets.{member_zero, member_suc, sub_below}
use Rattle.meaning.proofs.Pairs.{All, Pairs, done, also, pairs_by_place}
use Rattle.meaning.proofs.Needs.{Below}

-- A subset, one digit at a time.
sub_rest : {a b : ℕ} → a ⊆ b → a / 2 ⊆ b / 2
sub_rest {a} {b} h = record { each = λ i m. sym (member_suc i b) ∙ h.each (suc i) (member_suc i a ∙ m) }

sub_low : {a b : ℕ} → a ⊆ b → a % 2 ≤ b % 2
sub_low {a} {b} h = go (a % 2) refl
  where
    go : (x : ℕ) → a % 2 ≡ x → a % 2 ≤ b % 2
    go zero e = omega arith
    go (suc x) e =
        let one : a % 2 ≡ 1 = omega arith in
        let m = h.each 0 (member_zero a ∙ eq-eqb (a % 2) 1 one) in
        omega (arith, eqb-true (b % 2) 1 (sym (member_zero b) ∙ m))

-- A subset names no more, and as many only if it is the whole.
pub sub_ones : (a b : ℕ) → a ⊆ b → ones a ≤ ones b
sub_ones =
    bin_ind (λ a. (b : ℕ) → a ⊆ b → ones a ≤ ones b) (λ b h. omega (arith, ones-le 0 0 (omega arith)))
    (λ a ih b h. omega (arith, ones_step a, ones_step b, sub_low h, ih (b / 2) (sub_rest h)))

no_ones : (b : ℕ) → ones b ≤ 0 → 0 ≡ b
no_ones =
    bin_ind (λ b. ones b ≤ 0 → 0 ≡ b) (λ h. refl)
    (λ b ih h. let s = ones_step b in let t = ih (omega arith) in omega arith)

pub sub_same : (a b : ℕ) → a ⊆ b → ones b ≤ ones a → a ≡ b
sub_same =
    bin_ind (λ a. (b : ℕ) → a ⊆ b → ones b ≤ ones a → a ≡ b)
    (λ b h l. no_ones b (omega (arith, ones-le 0 0 (omega arith))))
    (λ a ih b h l.
    let s = ones_step a in
    let t = ones_step b in
    let low = sub_low h in
    let few = sub_ones (a / 2) (b / 2) (sub_rest h) in
    let rest = ih (b / 2) (sub_rest h) (omega arith) in
    omega arith)

pub weight : List ℕ → ℕ
weight [] = 0
weight (s ∷ σ) = ones s + weight σ

pairs_weight : {σ τ : List ℕ} → Pairs ◌⊆◌ σ τ → weight σ ≤ weight τ
unfolding weight
pairs_weight done = omega arith
pairs_weight (also {a} {b} h p) = omega (arith, sub_ones a b h, pairs_weight p)

pairs_same : {σ τ : List ℕ} → Pairs ◌⊆◌ σ τ → weight τ ≤ weight σ → σ ≡ τ
unfolding weight
pairs_same done l = refl
pairs_same (also {a} {b} h p) l =
    let one = sub_ones a b h in
    let rest = pairs_weight p in
    ap₂ ◌∷◌ (sub_same a b h (omega arith)) (pairs_same p (omega arith))

below_pairs : (σ τ : List ℕ) → length σ ≡ length τ → Below σ τ → Pairs ◌⊆◌ σ τ
unfolding at
below_pairs σ τ l h = pairs_by_place σ τ empty empty l (λ i q. h.on i)

-- Of two summaries of one length the lower weighs less, unless they are equal.
pub below_weight : (σ τ : List ℕ) → length σ ≡ length τ → Below σ τ → weight σ ≤ weight τ
below_weight σ τ l h = pairs_weight (below_pairs σ τ l h)

pub below_same : (σ τ : List ℕ) → length σ ≡ length τ → Below σ τ → weight τ ≤ weight σ → σ ≡ τ
below_same σ τ l h w = pairs_same (below_pairs σ τ l h) w

-- Sets of the first n parameters weigh n each at most.
pub weight_bound : (n : ℕ) {σ : List ℕ} → All (λ s. s ⊆ upto n) σ → weight σ ≤ n * length σ
unfolding weight
weight_bound n done = omega arith
weight_bound n (also {a} {s = σ} h p) = omega (arith, mul-suc n (length σ), ones-le n a (sub_below n a h), weight_bound n p)
