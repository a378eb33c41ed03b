-- The laws of a level table as far as nested loops have come.
use mathlib.Core.Path.{◌≡◌, refl, sym, ◌∙◌}
use mathlib.Core.Bool.{Bool, true, false, not, ◌&&◌}
use mathlib.Core.List.{List}
use Prim.Native.Nat.{ℕ, ◌+◌, ◌≤◌, ◌<◌}
use native.Mathlib.Omega.{arith}
use native.Mathlib.Numerals.{add-one}
use borrow.Author.Tests.{not-false}
use Rattle.meaning.specs.Lists.{every}
use Rattle.meaning.specs.Levels.{levels, closed, idempotent, commutative, associative}
use Rattle.meaning.proofs.Lists.{both, both_left, both_right, every_sound, every_complete}
use Rattle.meaning.proofs.Levels.{pairs_sound, pairs_complete}
use Rattle.levels.specs.Lawful.{stays, repeats, commutes, associates, lawful}
use Rattle.levels.proofs.Laws.{against}

-- The first c levels associate with a and b.
unfoldable pub triples_upto : List ℕ → ℕ → ℕ → ℕ → Bool
triples_upto t a b c = every c λ c. associates t a b c

-- What the pair a, b keeps: its own laws, and those of its triples.
unfoldable pub pair_kept : List ℕ → ℕ → ℕ → Bool
pair_kept t a b = stays t a b && (commutes t a b && triples_upto t a b (levels t))

-- The first b levels keep the laws of pairs and triples with a.
unfoldable pub pairs_upto : List ℕ → ℕ → ℕ → Bool
pairs_upto t a b = every b λ b. pair_kept t a b

-- The first a levels keep every law.
unfoldable pub laws_upto : List ℕ → ℕ → Bool
laws_upto t a = every a λ a. repeats t a && pairs_upto t a (levels t)

-- One number more.
every_more : (n : ℕ) (f : ℕ → Bool) → every n f ≡ true → f n ≡ true → every (n + 1) f ≡ true
unfolding every
every_more n f h k = rw add-one (both h k)

module _ (t : List ℕ) where
  pub triples_none : (a b : ℕ) → triples_upto t a b 0 ≡ true
  unfolding triples_upto every
  triples_none a b = refl

  pub triples_more : (a b c : ℕ) {r : Bool} → triples_upto t a b c ≡ true → r ≡ associates t a b c → not r ≡ false →
      triples_upto t a b (c + 1) ≡ true
  unfolding triples_upto
  triples_more a b c {r} h e k = every_more c (λ c. associates t a b c) h (sym e ∙ not-false r k)

  pub pairs_none : (a : ℕ) → pairs_upto t a 0 ≡ true
  unfolding pairs_upto every
  pairs_none a = refl

  pub pairs_more : (a b c n : ℕ) {r q : Bool} → n ≡ levels t → pairs_upto t a b ≡ true →
      r ≡ stays t a b → not r ≡ false → q ≡ commutes t a b → not q ≡ false →
      c ≤ n → n ≤ c → triples_upto t a b c ≡ true → pairs_upto t a (b + 1) ≡ true
  unfolding pairs_upto pair_kept
  pairs_more a b c n {r} {q} e h s ks m km l g u =
      let w : levels t ≡ c = omega arith in
      every_more b (λ b. pair_kept t a b) h
      (both (sym s ∙ not-false r ks) (both (sym m ∙ not-false q km) (rw w u)))

  pub laws_none : laws_upto t 0 ≡ true
  unfolding laws_upto every
  laws_none = refl

  pub laws_more : (a b n : ℕ) {r : Bool} → n ≡ levels t → laws_upto t a ≡ true → r ≡ repeats t a → not r ≡ false →
      b ≤ n → n ≤ b → pairs_upto t a b ≡ true → laws_upto t (a + 1) ≡ true
  unfolding laws_upto
  laws_more a b n {r} e h s k l g u =
      let w : levels t ≡ b = omega arith in
      every_more a (λ a. repeats t a && pairs_upto t a (levels t)) h (both (sym s ∙ not-false r k) (rw w u))

  -- Where the loops have come to the end, each law holds at all levels.
  module _ (u : laws_upto t (levels t) ≡ true) where
    level_holds : (a : ℕ) → a < levels t → (repeats t a && pairs_upto t a (levels t)) ≡ true
    unfolding laws_upto
    level_holds = every_sound (levels t) (λ a. repeats t a && pairs_upto t a (levels t)) u

    pair_holds : (a b : ℕ) → a < levels t → b < levels t → pair_kept t a b ≡ true
    unfolding pairs_upto
    pair_holds a b ha = every_sound (levels t) (pair_kept t a) (both_right (repeats t a) _ (level_holds a ha)) b

    all_hold : lawful t ≡ true
    unfolding lawful closed idempotent commutative associative pair_kept triples_upto
    all_hold =
        both (pairs_complete (levels t) (stays t) λ a b ha hb. both_left (stays t a b) _ (pair_holds a b ha hb))
        (both (every_complete (levels t) (λ a. repeats t a) λ a ha. both_left (repeats t a) _ (level_holds a ha))
        (both
        (pairs_complete (levels t) (commutes t)
        λ a b ha hb. both_left (commutes t a b) _ (both_right (stays t a b) _ (pair_holds a b ha hb)))
        (pairs_complete (levels t) (λ a b. every (levels t) (associates t a b))
        λ a b ha hb. both_right (commutes t a b) _ (both_right (stays t a b) _ (pair_holds a b ha hb)))))

  pub laws_all : (a n : ℕ) → n ≡ levels t → a ≤ n → n ≤ a → laws_upto t a ≡ true → true ≡ lawful t
  laws_all a n e l g u =
      let q : a ≡ levels t = omega arith in
      sym (all_hold (rw q at u))

  pub one_not_repeats : (a n : ℕ) {r : Bool} → n ≡ levels t → a < n → r ≡ repeats t a → not r ≡ true → false ≡ lawful t
  unfolding lawful idempotent
  one_not_repeats a n {r} e h q k =
      against (lawful t) k λ v. q ∙ every_sound (levels t) (λ a. repeats t a) (both_left (idempotent t) _ (both_right (closed t) _ v)) a (omega arith)

  pub one_not_stays : (a b n : ℕ) {r : Bool} → n ≡ levels t → a < n → b < n → r ≡ stays t a b → not r ≡ true → false ≡ lawful t
  unfolding lawful closed
  one_not_stays a b n {r} e h g q k =
      against (lawful t) k λ v. q ∙ pairs_sound (levels t) (stays t) (both_left (closed t) _ v) a b (omega arith) (omega arith)

  pub one_not_commutes : (a b n : ℕ) {r : Bool} → n ≡ levels t → a < n → b < n → r ≡ commutes t a b → not r ≡ true → false ≡ lawful t
  unfolding lawful commutative
  one_not_commutes a b n {r} e h g q k =
      against (lawful t) k λ v. q ∙ pairs_sound (levels t) (commutes t)
      (both_left (commutative t) _ (both_right (idempotent t) _ (both_right (closed t) _ v))) a b (omega arith) (omega arith)

  pub one_not_associates : (a b c n : ℕ) {r : Bool} → n ≡ levels t → a < n → b < n → c < n → r ≡ associates t a b c → not r ≡ true →
      false ≡ lawful t
  unfolding lawful associative
  one_not_associates a b c n {r} e h g l q k =
      against (lawful t) k λ v. q ∙ every_sound (levels t) (associates t a b)
      (pairs_sound (levels t) (λ a b. every (levels t) (associates t a b))
      (both_right (commutative t) _ (both_right (idempotent t) _ (both_right (closed t) _ v))) a b (omega arith) (omega arith))
      c (omega arith)
