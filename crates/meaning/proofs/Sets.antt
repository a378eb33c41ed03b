-- The laws of sets of parameters, for any width.
use mathlib.Core.Path.{◌≡◌, refl, sym, ap, ◌∙◌}
use mathlib.Core.Logic.{◌≢◌, ◌↔◌, ◌⊎◌, inl, inr}
use mathlib.Core.Bool.{true, false, cond, ◌||◌, or-true, or_assoc}
use mathlib.Core.List.{List}
use Prim.Native.Nat.{ℕ, zero, suc, ◌/◌, ◌%◌, ◌^◌, max, ◌≤◌, ◌<◌}
use native.Mathlib.Nat.{zero-div, div-one, zero-max, mod-eq_of_lt, pow-suc, mod-lt, div-eq_of_lt, mul-div_cancel, mul-mod_left, mul-add-mod_self_right, zero-lt-suc, lt_of_lt_of_le}
use native.Mathlib.Numerals.{one-add}
use native.Mathlib.Omega.{arith}
use borrow.Author.Tests.{eqb-true, eqb-false, eq-eqb, ltb-true, ltb-false, lt-ltb, le-ltb}
use lib.Dec.{eqb, ltb, eqb-suc-suc, eqb-zero-suc, eqb-suc-zero}
use lib.Arith.{bin_ind}
use lib.Pow.{pow_mono, pow-lt, shr-shr}
use lib.Bits.{or_step, or_shr, or_lt, or_add_and, and_le_r}
use lib.ListN.{length, get_or}
use Rattle.meaning.specs.Sets.{empty, single, union, member, inside, ◌⊆◌, upto, gather}
use Rattle.meaning.proofs.Lists.{Tested, holds_or_fails, fold_keeps, below_suc}

member_nil : (i : ℕ) → member i 0 ≡ false
unfolding member
member_nil i = rw zero-div

pub member_empty : (i : ℕ) → member i empty ≡ false
unfolding empty
member_empty i = member_nil i

max_lt : {x y n : ℕ} → x < n → y < n → max x y < n
max_lt p q = omega arith

-- The lowest bit, and the bits above it.
pub member_zero : (s : ℕ) → member 0 s ≡ eqb (s % 2) 1
unfolding member
member_zero s = rw div-one

pub member_suc : (i s : ℕ) → member (suc i) s ≡ member i (s / 2)
unfolding member
member_suc i s = rw (← one-add i, ← shr-shr s 1 i)

pub member_single : (i j : ℕ) → member i (single j) ≡ eqb i j
unfolding single
member_single zero zero = rw member_zero
member_single zero (suc j) = rw (member_zero, pow-suc, mul-mod_left) (sym (eqb-zero-suc j))
member_single (suc i) zero = rw member_suc (rw eqb-suc-zero (member_nil i))
member_single (suc i) (suc j) =
    rw (member_suc, pow-suc, mul-div_cancel (2 ^ j) (zero-lt-suc 1)) (rw eqb-suc-suc (member_single i j))

-- Of two bits the larger is set where one of them is.
larger_bit : (x y : ℕ) → x < 2 → y < 2 → eqb (max x y) 1 ≡ (eqb x 1 || eqb y 1)
larger_bit zero y p q = rw zero-max
larger_bit (suc zero) zero p q = refl
larger_bit (suc zero) (suc zero) p q = refl
larger_bit (suc zero) (suc (suc y)) p q = absurd (omega arith)
larger_bit (suc (suc x)) y p q = absurd (omega arith)

pub member_union : (i a b : ℕ) → member i (union a b) ≡ (member i a || member i b)
unfolding member union
member_union i a b =
    let p : a / 2 ^ i % 2 < 2 = mod-lt (a / 2 ^ i) (zero-lt-suc 1) in
    let q : b / 2 ^ i % 2 < 2 = mod-lt (b / 2 ^ i) (zero-lt-suc 1) in
    rw (or_shr a b i, or_step (a / 2 ^ i) (b / 2 ^ i), mul-add-mod_self_right, mod-eq_of_lt (max_lt p q))
    (larger_bit (a / 2 ^ i % 2) (b / 2 ^ i % 2) p q)

-- Below suc j is below j or j itself.
below_or_at : (i j : ℕ) → (ltb i j || eqb i j) ≡ ltb i (suc j)
below_or_at i j = go (holds_or_fails (ltb i j)) (holds_or_fails (eqb i j))
  where
    go : Tested (ltb i j) → Tested (eqb i j) → (ltb i j || eqb i j) ≡ ltb i (suc j)
    go (inl l) q = rw l (sym (lt-ltb i (suc j) (omega (arith, ltb-true i j l))))
    go (inr l) (inl q) = rw (l, q) (sym (lt-ltb i (suc j) (omega (arith, eqb-true i j q))))
    go (inr l) (inr q) =
        let n : i ≢ j = eqb-false i j q in
        rw (l, q) (sym (le-ltb i (suc j) (omega (arith, ltb-false i j l))))

pub member_upto : (i n : ℕ) → member i (upto n) ≡ ltb i n
unfolding upto
member_upto i n =
    fold_keeps (λ k s. member i s ≡ ltb i k) n (λ j s. union s (single j)) empty
    (rw member_empty (sym (le-ltb i 0 (omega arith))))
    (λ j s h e. rw (member_union i s (single j), e, member_single) (below_or_at i j))

-- Two bits that pass the same tests are equal.
same_bit : (x y : ℕ) → x < 2 → y < 2 → eqb x 1 ≡ eqb y 1 → x ≡ y
same_bit zero zero p q e = refl
same_bit zero (suc zero) p q e = let z : ◌≡◌ {A = ℕ} 0 1 = cc in absurd (omega arith)
same_bit zero (suc (suc y)) p q e = absurd (omega arith)
same_bit (suc zero) zero p q e = let z : ◌≡◌ {A = ℕ} 0 1 = cc in absurd (omega arith)
same_bit (suc zero) (suc zero) p q e = refl
same_bit (suc zero) (suc (suc y)) p q e = absurd (omega arith)
same_bit (suc (suc x)) y p q e = absurd (omega arith)

same_low : (a b : ℕ) → member 0 a ≡ member 0 b → a % 2 ≡ b % 2
same_low a b e = same_bit (a % 2) (b % 2) (omega arith) (omega arith) (sym (member_zero a) ∙ e ∙ member_zero b)

-- One digit at a time: the lowest digits are equal, and so are the rest.
module _ (a b : ℕ) (same : (i : ℕ) → member i a ≡ member i b) where
  rest_same : (i : ℕ) → member i (a / 2) ≡ member i (b / 2)
  rest_same i = sym (member_suc i a) ∙ same (suc i) ∙ member_suc i b

  same_whole : a / 2 ≡ b / 2 → a ≡ b
  same_whole q = let p = same_low a b (same 0) in omega arith

no_members : (b : ℕ) → ((i : ℕ) → member i 0 ≡ member i b) → 0 ≡ b
no_members =
    bin_ind (λ b. ((i : ℕ) → member i 0 ≡ member i b) → 0 ≡ b) (λ h. refl)
    (λ b ih h. same_whole 0 b h (ih (rest_same 0 b h)))

-- Two sets with the same members are equal.
pub same_members : (a b : ℕ) → ((i : ℕ) → member i a ≡ member i b) → a ≡ b
same_members =
    bin_ind (λ a. (b : ℕ) → ((i : ℕ) → member i a ≡ member i b) → a ≡ b) no_members
    (λ a ih b h. same_whole a b h (ih (b / 2) (rest_same a b h)))

pub inside_sound : (a b : ℕ) → inside a b ≡ true → a ⊆ b
unfolding inside
inside_sound a b h =
    record { each = λ i p. ap (member i) (sym (eqb-true (union a b) b h)) ∙ rw (member_union i a b, p) }

pub inside_complete : (a b : ℕ) → a ⊆ b → inside a b ≡ true
unfolding inside
inside_complete a b h = eq-eqb (union a b) b (same_members (union a b) b λ i. member_union i a b ∙ go i (holds_or_fails (member i a)))
  where
    go : (i : ℕ) → Tested (member i a) → (member i a || member i b) ≡ member i b
    go i (inl p) = rw (p, h.each i p)
    go i (inr p) = rw p

pub sub_refl : (a : ℕ) → a ⊆ a
sub_refl a = record { each = λ i p. p }

pub sub_trans : {a b c : ℕ} → a ⊆ b → b ⊆ c → a ⊆ c
sub_trans p q = record { each = λ i m. q.each i (p.each i m) }

pub sub_antisym : {a b : ℕ} → a ⊆ b → b ⊆ a → a ≡ b
sub_antisym {a} {b} p q = same_members a b λ i. go i (holds_or_fails (member i a)) (holds_or_fails (member i b))
  where
    go : (i : ℕ) → Tested (member i a) → Tested (member i b) → member i a ≡ member i b
    go i (inl m) n = m ∙ sym (p.each i m)
    go i (inr m) (inl n) = q.each i n ∙ sym n
    go i (inr m) (inr n) = m ∙ sym n

pub empty_sub : (a : ℕ) → empty ⊆ a
empty_sub a = record { each = λ i m. let z = member_empty i in let y : ◌≡◌ {A = ℕ} 0 1 = cc in absurd (omega arith) }

pub union_l : (a b : ℕ) → a ⊆ union a b
union_l a b = record { each = λ i m. rw (member_union i a b, m) }

pub union_r : (a b : ℕ) → b ⊆ union a b
union_r a b = record { each = λ i m. rw (member_union i a b, m) (or-true (member i a)) }

pub union_least : {a b c : ℕ} → a ⊆ c → b ⊆ c → union a b ⊆ c
union_least {a} {b} {c} p q = record { each = λ i m. go i (holds_or_fails (member i a)) (sym (member_union i a b) ∙ m) }
  where
    go : (i : ℕ) → Tested (member i a) → (member i a || member i b) ≡ true → member i c ≡ true
    go i (inl m) n = p.each i m
    go i (inr m) n = q.each i (rw m at n)

pub sub_l : (a b : ℕ) {c : ℕ} → union a b ⊆ c → a ⊆ c
sub_l a b h = sub_trans (union_l a b) h

pub sub_r : (a b : ℕ) {c : ℕ} → union a b ⊆ c → b ⊆ c
sub_r a b h = sub_trans (union_r a b) h

pub union_mono : {a b c d : ℕ} → a ⊆ c → b ⊆ d → union a b ⊆ union c d
union_mono {a} {b} {c} {d} p q = union_least (sub_trans p (union_l c d)) (sub_trans q (union_r c d))

-- The larger of two sets is their union.
pub union_sub_l : {a b : ℕ} → b ⊆ a → union a b ≡ a
union_sub_l {a} {b} h = sub_antisym (union_least (sub_refl a) h) (union_l a b)

pub union_sub_r : {a b : ℕ} → a ⊆ b → union a b ≡ b
union_sub_r {a} {b} h = sub_antisym (union_least h (sub_refl b)) (union_r a b)

pub union_empty_l : (a : ℕ) → union empty a ≡ a
union_empty_l a = union_sub_r (empty_sub a)

pub union_empty_r : (a : ℕ) → union a empty ≡ a
union_empty_r a = union_sub_l (empty_sub a)

pub union_idem : (a : ℕ) → union a a ≡ a
union_idem a = union_sub_l (sub_refl a)

pub union_comm : (a b : ℕ) → union a b ≡ union b a
union_comm a b = sub_antisym (union_least (union_r b a) (union_l b a)) (union_least (union_r a b) (union_l a b))

pub union_assoc : (a b c : ℕ) → union (union a b) c ≡ union a (union b c)
union_assoc a b c =
    same_members (union (union a b) c) (union a (union b c))
    λ i. simp member_union (or_assoc (member i a) (member i b) (member i c))

-- Of a chosen position the set lies in what is gathered, and nothing else does.
pub gather_has : (S : ℕ) (sets : List ℕ) (i : ℕ) → i < length sets → member i S ≡ true → get_or sets i empty ⊆ gather S sets
unfolding gather
gather_has S sets i l m =
    fold_keeps (λ k s. i < k → get_or sets i empty ⊆ s) (length sets)
    (λ j s. cond (member j S) (union s (get_or sets j empty)) s) empty
    (λ h. absurd (omega arith))
    (λ j s h kept n. go j s kept (below_suc n) (holds_or_fails (member j S)))
    l
  where
    go : (j s : ℕ) → (i < j → get_or sets i empty ⊆ s) → (i < j) ⊎ (i ≡ j) → Tested (member j S)
        → get_or sets i empty ⊆ cond (member j S) (union s (get_or sets j empty)) s
    go j s kept (inl n) (inl p) = rw p (sub_trans (kept n) (union_l s (get_or sets j empty)))
    go j s kept (inl n) (inr p) = rw p (kept n)
    go j s kept (inr e) p = rw (← e, m) (union_r s (get_or sets i empty))

pub gather_least : (S : ℕ) (sets : List ℕ) (X : ℕ) →
    ((i : ℕ) → i < length sets → member i S ≡ true → get_or sets i empty ⊆ X) → gather S sets ⊆ X
unfolding gather
gather_least S sets X h =
    fold_keeps (λ k s. s ⊆ X) (length sets)
    (λ j s. cond (member j S) (union s (get_or sets j empty)) s) empty
    (empty_sub X)
    (λ j s l kept. go j s kept (h j l) (holds_or_fails (member j S)))
  where
    go : (j s : ℕ) → s ⊆ X → (member j S ≡ true → get_or sets j empty ⊆ X) → Tested (member j S)
        → cond (member j S) (union s (get_or sets j empty)) s ⊆ X
    go j s kept new (inl p) = rw p (union_least kept (new p))
    go j s kept new (inr p) = rw p kept

-- A set below 2 ^ n names the first n parameters only.
small_member : (n s i : ℕ) → s < 2 ^ n → n ≤ i → member i s ≡ false
unfolding member
small_member n s i h l = rw (div-eq_of_lt (lt_of_lt_of_le h (pow_mono l)))

pub below_sub : (n s : ℕ) → s < 2 ^ n → s ⊆ upto n
below_sub n s h = record { each = λ i m. rw member_upto (go i m (holds_or_fails (ltb i n))) }
  where
    go : (i : ℕ) → member i s ≡ true → Tested (ltb i n) → ltb i n ≡ true
    go i m (inl p) = p
    go i m (inr p) =
        let q : member i s ≡ false = small_member n s i h (ltb-false i n p) in
        let z : ◌≡◌ {A = ℕ} 0 1 = cc in absurd (omega arith)

union_below : (n a b : ℕ) → a < 2 ^ n → b < 2 ^ n → union a b < 2 ^ n
unfolding union
union_below n a b p q = or_lt n a b p q

pub upto_lt : (n : ℕ) → upto n < 2 ^ n
unfolding upto empty single
upto_lt n =
    fold_keeps (λ k s. s < 2 ^ k) n (λ j s. union s (single j)) empty (omega arith)
    (λ j s h b. union_below (suc j) s (2 ^ j) (lt_of_lt_of_le b (pow_mono (omega arith))) (pow-lt (omega arith)))

union_over : (a b : ℕ) → a ≤ union a b
unfolding union
union_over a b = omega (arith, or_add_and a b, and_le_r a b)

pub sub_below : (n s : ℕ) → s ⊆ upto n → s < 2 ^ n
sub_below n s h = omega (arith, upto_lt n, union_over s (upto n), union_sub_r h)

pub upto_below : (n s : ℕ) → s < 2 ^ n ↔ s ⊆ upto n
upto_below n s = (below_sub n s, sub_below n s)

pub upto_mono : {m n : ℕ} → m ≤ n → upto m ⊆ upto n
upto_mono {m} {n} h =
    record { each = λ i p. rw member_upto (lt-ltb i n (lt_of_lt_of_le (ltb-true i m (rw member_upto at p)) h)) }

pub single_upto : (i n : ℕ) → i < n → single i ⊆ upto n
single_upto i n h =
    record { each = λ j p. rw member_upto (lt-ltb j n (omega (arith, eqb-true j i (rw member_single at p)))) }
