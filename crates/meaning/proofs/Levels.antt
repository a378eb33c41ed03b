-- The test of a level table is exact, 'at or below' is an order, and the reported level is the join of its parameters' levels.
use mathlib.Core.Path.{◌≡◌, refl, sym}
use mathlib.Core.Logic.{⊎_elim}
use mathlib.Core.Bool.{Bool, true, false, cond}
use mathlib.Core.List.{List}
use Prim.Native.Nat.{ℕ, suc, ◌≤◌, ◌<◌}
use native.Mathlib.Omega.{arith}
use lib.Dec.{leb}
use lib.ListN.{get_or}
use borrow.Author.Tests.{eqb-true, eq-eqb, leb-true, le-leb, ltb-true, lt-ltb}
use Rattle.meaning.specs.Limits.{most_levels}
use Rattle.meaning.specs.Lists.{fold, every, some_below}
use Rattle.meaning.specs.Sets.{member, ◌⊆◌}
use Rattle.meaning.specs.Levels.{levels, join, pairs, shaped, closed, idempotent, commutative, associative, is_bottom, valid, bottom, at_or_below, reported}
use Rattle.meaning.specs.Promises.{Laws, TableExact, Order, LevelsOrdered}
use Rattle.meaning.proofs.Lists.{both_left, both_right, both, below_suc, fold_keeps, every_sound, every_complete, some_sound, some_complete}

-- A test of every pair, at one pair.
pub pairs_sound : (n : ℕ) (f : ℕ → ℕ → Bool) → pairs n f ≡ true → (a b : ℕ) → a < n → b < n → f a b ≡ true
unfolding pairs
pairs_sound n f e a b ha hb = every_sound n (f a) (every_sound n (λ a. every n λ b. f a b) e a ha) b hb

pub pairs_complete : (n : ℕ) (f : ℕ → ℕ → Bool) → ((a b : ℕ) → a < n → b < n → f a b ≡ true) → pairs n f ≡ true
unfolding pairs
pairs_complete n f h = every_complete n (λ a. every n λ b. f a b) (λ a ha. every_complete n (f a) (λ b hb. h a b ha hb))

module _ (t : List ℕ) where
  sound : valid t ≡ true → Laws t
  unfolding valid shaped closed idempotent commutative associative is_bottom
  sound v =
      let s = both_left (shaped t) _ v in
      let v₁ = both_right (shaped t) _ v in
      let v₂ = both_right (closed t) _ v₁ in
      let v₃ = both_right (idempotent t) _ v₂ in
      let v₄ = both_right (commutative t) _ v₃ in
      let z = some_sound (levels t) (λ a. is_bottom t a) (both_right (associative t) _ v₄) in
      let s₁ = both_right (leb 1 (levels t)) _ s in
      record {
        some_level = leb-true _ _ (both_left (leb 1 (levels t)) _ s);
        few_levels = leb-true _ _ (both_left (leb (levels t) most_levels) _ s₁);
        sized = eqb-true _ _ (both_right (leb (levels t) most_levels) _ s₁);
        closed = λ a b ha hb. ltb-true _ _ (pairs_sound _ _ (both_left (closed t) _ v₁) a b ha hb);
        idempotent = λ a ha. eqb-true _ _ (every_sound _ _ (both_left (idempotent t) _ v₂) a ha);
        commutative = λ a b ha hb. eqb-true _ _ (pairs_sound _ _ (both_left (commutative t) _ v₃) a b ha hb);
        associative =
            λ a b c ha hb hc. eqb-true _ _ (every_sound _ _ (pairs_sound _ _ (both_left (associative t) _ v₄) a b ha hb) c hc);
        a_bottom = (z.0, z.1, λ b hb. eqb-true _ _ (every_sound _ _ z.2 b hb));
      }

  complete : Laws t → valid t ≡ true
  unfolding valid shaped closed idempotent commutative associative is_bottom
  complete l =
      both
      (both (le-leb _ _ l.some_level) (both (le-leb _ _ l.few_levels) (eq-eqb _ _ l.sized)))
      (both (pairs_complete _ _ λ a b ha hb. lt-ltb _ _ (l.closed a b ha hb))
      (both (every_complete _ _ λ a ha. eq-eqb _ _ (l.idempotent a ha))
      (both (pairs_complete _ _ λ a b ha hb. eq-eqb _ _ (l.commutative a b ha hb))
      (both
      (pairs_complete _ _ λ a b ha hb. every_complete _ _ λ c hc. eq-eqb _ _ (l.associative a b c ha hb hc))
      (some_complete _ _ l.a_bottom.0 l.a_bottom.1
      (every_complete _ _ λ b hb. eq-eqb _ _ (l.a_bottom.2 b hb)))))))

pub table_exact : TableExact
unfolding TableExact
table_exact t = (sound t, complete t)

-- A choice has what its ways have.
cond_has : {A : Type 0} (P : A → Type 0) (c : Bool) (x y : A) → (c ≡ true → P x) → (c ≡ false → P y) → P (cond c x y)
cond_has P true x y p q = p refl
cond_has P false x y p q = q refl

-- Of the numbers below n that pass the test, if there are any, the fold picks one.
picked : (n : ℕ) (f : ℕ → Bool) (a : ℕ) → a < n → f a ≡ true →
    (fold n (λ a found. cond (f a) a found) 0 < n) × (f (fold n (λ a found. cond (f a) a found) 0) ≡ true)
picked n f =
    fold_keeps (λ k r. (a : ℕ) → a < k → f a ≡ true → (r < k) × (f r ≡ true)) n (λ a found. cond (f a) a found) 0
    (λ a h e. absurd (omega arith))
    λ k r hk before a h e. cond_has (λ r. (r < suc k) × (f r ≡ true)) (f k) k r
    (λ p. (omega arith, p))
    λ p. ⊎_elim (λ l. (omega (arith, (before a l e).0), (before a l e).1))
    (λ q. let z : ◌≡◌ {A = ℕ} 0 1 = cc in absurd (omega arith)) (below_suc h)

-- A valid table's 'at or below'.
module _ (t : List ℕ) (l : Laws t) where
  bottom_is : (bottom t < levels t) × (is_bottom t (bottom t) ≡ true)
  unfolding bottom is_bottom
  bottom_is =
      picked (levels t) (is_bottom t) l.a_bottom.0 l.a_bottom.1
      (every_complete _ _ λ b hb. eq-eqb _ _ (l.a_bottom.2 b hb))

  is : (a b : ℕ) → at_or_below t a b ≡ true → join t a b ≡ b
  unfolding at_or_below
  is a b e = eqb-true (join t a b) b e

  so : (a b : ℕ) → join t a b ≡ b → at_or_below t a b ≡ true
  unfolding at_or_below
  so a b e = eq-eqb (join t a b) b e

  order : Order t
  unfolding is_bottom
  order =
      record {
        reflexive = λ a ha. so a a (l.idempotent a ha);
        antisymmetric = λ a b ha hb p q. cc (is a b p, is b a q, l.commutative a b ha hb);
        transitive = λ a b c ha hb hc p q. so a c (cc (is a b p, is b c q, l.associative a b c ha hb hc));
        join_above_left = λ a b ha hb. so a (join t a b) (cc (l.associative a a b ha ha hb, l.idempotent a ha));
        join_above_right =
            λ a b ha hb. so b (join t a b) (cc (l.associative b b a hb hb ha, l.idempotent b hb, l.commutative a b ha hb));
        join_least = λ a b c ha hb hc p q. so (join t a b) c (cc (is a c p, is b c q, l.associative a b c ha hb hc));
        bottom_level = bottom_is.0;
        bottom_below = λ a ha. so (bottom t) a (eqb-true _ _ (every_sound _ _ bottom_is.1 a ha));
      }

pub levels_ordered : LevelsOrdered
unfolding LevelsOrdered TableExact
levels_ordered t v = order t ((table_exact t).0 v)

-- Two tests that pass together are one.
same_truth : (a b : Bool) → (a ≡ true → b ≡ true) → (b ≡ true → a ≡ true) → a ≡ b
same_truth true b f g = sym (f refl)
same_truth false true f g = g refl
same_truth false false f g = refl

-- There is a bottom level just where what is found is one.
pub bottom_tested : (t : List ℕ) → 1 ≤ levels t → is_bottom t (bottom t) ≡ some_below (levels t) (λ a. is_bottom t a)
unfolding bottom
bottom_tested t h =
    same_truth (is_bottom t (bottom t)) (some_below (levels t) (λ a. is_bottom t a))
    (λ e. some_complete (levels t) (is_bottom t) (bottom t)
    (fold_keeps (λ k r. r < levels t) (levels t) (λ a found. cond (is_bottom t a) a found) 0 h
    λ k r hk hr. cond_has (λ r. r < levels t) (is_bottom t k) k r (λ p. hk) (λ p. hr))
    e)
    λ e.
    let z = some_sound (levels t) (is_bottom t) e in
    (picked (levels t) (is_bottom t) z.0 z.1 z.2).1

-- The reported level is the least that is at or above bottom and the levels of the parameters in the set.
module _ (t ls : List ℕ) (n s : ℕ) (l : Laws t) (below : (j : ℕ) → j < n → get_or ls j 0 < levels t) where
  -- x is a level at or above those of the first k parameters.
  Above : ℕ → ℕ → Type 0
  Above k x = (x < levels t) × ((i : ℕ) → i < k → member i s ≡ true → at_or_below t (get_or ls i 0) x ≡ true)

  above : Above n (reported t ls n s)
  unfolding reported Above
  above =
      fold_keeps Above n (λ i x. cond (member i s) (join t x (get_or ls i 0)) x) (bottom t)
      ((order t l).bottom_level, λ i h m. absurd (omega arith))
      λ k x hk before.
      let y : ℕ = get_or ls k 0 in
      cond_has (Above (suc k)) (member k s) (join t x y) x
      (λ p. (
        l.closed x y before.0 (below k hk),
        λ i h m. ⊎_elim
            (λ h. (order t l).transitive (get_or ls i 0) x (join t x y) (below i (omega arith)) before.0
            (l.closed x y before.0 (below k hk)) (before.1 i h m) ((order t l).join_above_left x y before.0 (below k hk)))
            (λ q. rw q ((order t l).join_above_right x y before.0 (below k hk)))
            (below_suc h),
      ))
      λ p. (
        before.0,
        λ i h m. ⊎_elim (λ h. before.1 i h m)
            (λ q. let z : ◌≡◌ {A = ℕ} 0 1 = cc in absurd (omega arith)) (below_suc h),
      )

  least : (y : ℕ) → y < levels t → ((i : ℕ) → i < n → member i s ≡ true → at_or_below t (get_or ls i 0) y ≡ true) →
      at_or_below t (reported t ls n s) y ≡ true
  unfolding reported
  least y hy over =
      (fold_keeps (λ k x. (x < levels t) × (at_or_below t x y ≡ true)) n
      (λ i x. cond (member i s) (join t x (get_or ls i 0)) x) (bottom t)
      ((order t l).bottom_level, (order t l).bottom_below y hy)
      λ i x h p. cond_has (λ x. (x < levels t) × (at_or_below t x y ≡ true)) (member i s) (join t x (get_or ls i 0)) x
      (λ m.
      (l.closed x (get_or ls i 0) p.0 (below i h), (order t l).join_least x (get_or ls i 0) y p.0 (below i h) hy p.1 (over i h m)))
      λ m. p).1

pub reported_level : (t ls : List ℕ) (n s : ℕ) → valid t ≡ true → ((j : ℕ) → j < n → get_or ls j 0 < levels t) →
    reported t ls n s < levels t
unfolding TableExact Above
reported_level t ls n s v below = (above t ls n s ((table_exact t).0 v) below).0

pub reported_above : (t ls : List ℕ) (n s i : ℕ) → valid t ≡ true → ((j : ℕ) → j < n → get_or ls j 0 < levels t) →
    i < n → member i s ≡ true → at_or_below t (get_or ls i 0) (reported t ls n s) ≡ true
unfolding TableExact Above
reported_above t ls n s i v below = (above t ls n s ((table_exact t).0 v) below).1 i

-- With more parameters in the set the reported level is no lower.
pub reported_mono : (t ls : List ℕ) (n s u : ℕ) → valid t ≡ true → ((j : ℕ) → j < n → get_or ls j 0 < levels t) →
    s ⊆ u → at_or_below t (reported t ls n s) (reported t ls n u) ≡ true
unfolding TableExact
reported_mono t ls n s u v below sub =
    least t ls n s ((table_exact t).0 v) below (reported t ls n u) (reported_level t ls n u v below)
    λ i h m. reported_above t ls n u i v below h (sub.each i m)
