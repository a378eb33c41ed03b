-- A finder that walks a body only if something that it reads has changed answers what `find` answers: the same summary, the same rounds.
use mathlib.Core.Path.{◌≡◌, refl, sym, ap, ◌∙◌}
use mathlib.Core.Logic.{inl, inr}
use mathlib.Core.Bool.{Bool, true, false, cond}
use mathlib.Core.List.{List, [], ◌∷◌, ◌++◌}
use mathlib.Core.Option.{some}
use Prim.Native.Nat.{ℕ, zero, suc, ◌<◌}
use native.Mathlib.Omega.{arith}
use lib.ListN.{length, get_elem?, replicate, length-replicate}
use Rattle.meaning.specs.Sets.{empty}
use Rattle.meaning.specs.Tree.{Procedure, Book}
use Rattle.meaning.specs.Reading.{readable, read}
use Rattle.meaning.specs.Flow.{Need, size, demands_from, demands, meets, grow, Found, rounds, most_rounds, find}
use Rattle.meaning.proofs.Lists.{Tested, holds_or_fails}
use Rattle.meaning.proofs.Pairs.{All, all_mono}
use Rattle.meaning.proofs.Needs.{Below, below_refl, below_trans, Met, met_above, meets_complete, meets_append}
use Rattle.meaning.proofs.Needs.{length_grow, grow_append, grow_above, grow_met, met_still}
use Rattle.meaning.proofs.Parts.{part, Each, each_head, each_tail, from_zero, demands_parts}
use Rattle.meaning.proofs.Walks.{CallsOf}
use Rattle.meaning.proofs.Places.{Laid, at_exists}
use Rattle.meaning.proofs.Demands.{demands_placed}
use Rattle.meaning.proofs.Frame.{Unmoved, frame}
use Rattle.meaning.proofs.Finder.{rounds_last, rounds_more}
use Rattle.meaning.proofs.Written.{Scanned, calls_written}

-- What those procedures demand that are walked, from procedure p on.
unfoldable pub asked_from : (ℕ → Bool) → ℕ → Book → List ℕ → List (Need ℕ)
asked_from walks p [] σ = []
asked_from walks p (q ∷ qs) σ = cond (walks p) (part p q σ) [] ++ asked_from walks (suc p) qs σ

-- What those procedures of a book demand that are walked.
unfoldable pub asked : (ℕ → Bool) → Book → List ℕ → List (Need ℕ)
asked walks b σ = asked_from walks 0 b σ

-- A procedure that is not walked adds nothing to the summary as it stands.
pub record Rest (b : Book) (walks : ℕ → Bool) (σ : List ℕ) : Type 0 where
  pub met : (p : ℕ) (q : Procedure) → get_elem? b p ≡ some q → walks p ≡ false → All (Met σ) (part p q σ)

-- Where all are walked.
pub rest_all : (b : Book) (walks : ℕ → Bool) (σ : List ℕ) → ((p : ℕ) → p < length b → walks p ≡ true) → Rest b walks σ
rest_all b walks σ h = record { met = λ p q e f. let t = h p (at_exists b p e) in let z : ◌≡◌ {A = ℕ} 0 1 = cc in absurd (omega arith) }

module _ (walks : ℕ → Bool) where
  abbrev Resting : List ℕ → ℕ → Procedure → Type 0
  Resting σ p q = walks p ≡ false → All (Met σ) (part p q σ)

  rest_grow_from : (p : ℕ) (qs : Book) (σ τ : List ℕ) → Below σ τ → Each p qs (Resting σ) →
      grow τ (asked_from walks p qs σ) ≡ grow τ (demands_from p qs σ)
  unfolding asked_from demands_from
  rest_grow_from p [] σ τ l h = refl
  rest_grow_from p (q ∷ qs) σ τ l h = go (holds_or_fails (walks p)) (λ τ m. rest_grow_from (suc p) qs σ τ m (each_tail p q qs (Resting σ) h))
    where
      go : Tested (walks p) → ((τ : List ℕ) → Below σ τ → grow τ (asked_from walks (suc p) qs σ) ≡ grow τ (demands_from (suc p) qs σ)) →
          grow τ (cond (walks p) (part p q σ) [] ++ asked_from walks (suc p) qs σ) ≡ grow τ (part p q σ ++ demands_from (suc p) qs σ)
      go (inl t) ih =
          rw (t, grow_append τ (part p q σ) (asked_from walks (suc p) qs σ), grow_append τ (part p q σ) (demands_from (suc p) qs σ))
          (ih (grow τ (part p q σ)) (below_trans l (grow_above τ (part p q σ))))
      go (inr t) ih =
          let still : grow τ (part p q σ) ≡ τ = met_still τ (all_mono (λ d m. met_above l m) (each_head p q qs (Resting σ) h t)) in
          rw (t, grow_append τ (part p q σ) (demands_from (suc p) qs σ), still) (ih τ l)

  rest_meets_from : (p : ℕ) (qs : Book) (σ : List ℕ) → Each p qs (Resting σ) →
      meets σ (asked_from walks p qs σ) ≡ meets σ (demands_from p qs σ)
  unfolding asked_from demands_from
  rest_meets_from p [] σ h = refl
  rest_meets_from p (q ∷ qs) σ h = go (holds_or_fails (walks p)) (rest_meets_from (suc p) qs σ (each_tail p q qs (Resting σ) h))
    where
      go : Tested (walks p) → meets σ (asked_from walks (suc p) qs σ) ≡ meets σ (demands_from (suc p) qs σ) →
          meets σ (cond (walks p) (part p q σ) [] ++ asked_from walks (suc p) qs σ) ≡ meets σ (part p q σ ++ demands_from (suc p) qs σ)
      go (inl t) ih =
          rw (t, meets_append σ (part p q σ) (asked_from walks (suc p) qs σ), meets_append σ (part p q σ) (demands_from (suc p) qs σ), ih)
      go (inr t) ih =
          rw (t, meets_append σ (part p q σ) (demands_from (suc p) qs σ), meets_complete σ (each_head p q qs (Resting σ) h t)) ih

-- The round of those walked is the whole round, and adds nothing just where the whole round adds nothing.
module _ {b : Book} {walks : ℕ → Bool} {σ : List ℕ} (r : Rest b walks σ) where
  pub rest_grow : grow σ (asked walks b σ) ≡ grow σ (demands b σ)
  unfolding asked demands
  rest_grow = rest_grow_from walks 0 b σ σ (below_refl σ) (from_zero b (Resting walks σ) r.met)

  pub rest_meets : meets σ (asked walks b σ) ≡ meets σ (demands b σ)
  unfolding asked demands
  rest_meets = rest_meets_from walks 0 b σ (from_zero b (Resting walks σ) r.met)

  -- A body that is not walked adds nothing.
  pub rest_still : (p : ℕ) (q : Procedure) → get_elem? b p ≡ some q → walks p ≡ false → grow σ (part p q σ) ≡ σ
  rest_still p q e t = met_still σ (r.met p q e t)

-- Procedure p calls none but procedures with C p.
pub record Callees (b : Book) (C : ℕ → ℕ → Type 0) : Type 0 where
  pub all : (p : ℕ) (q : Procedure) → get_elem? b p ≡ some q → CallsOf q.body (C p)

-- The mask names each procedure that reads a place where the two summaries differ.
pub record Woken (b : Book) (C : ℕ → ℕ → Type 0) (σ τ : List ℕ) (walks : ℕ → Bool) : Type 0 where
  pub unmoved : (p : ℕ) → p < length b → walks p ≡ false → Unmoved b (C p) p σ τ

module _ {b : Book} (𝓛 : Laid b) {C : ℕ → ℕ → Type 0} (c : Callees b C) where
  -- After a whole round all that was demanded is met; so those that read nothing new have nothing to add.
  pub rest_next : (σ : List ℕ) {walks : ℕ → Bool} → length σ ≡ size b → Woken b C σ (grow σ (demands b σ)) walks →
      Rest b walks (grow σ (demands b σ))
  rest_next σ l w =
      record {
        met = λ p q e t.
            rw (← frame 𝓛 (C p) p q e (c.all p q e) σ (grow σ (demands b σ)) (w.unmoved p (at_exists b p e) t))
            (demands_parts b σ (grow_met σ l (demands_placed 𝓛 σ)) p q e);
      }

-- Which procedures are walked next, from the summary before a round and the one after it.
abbrev pub Waking : Type 0
Waking = List ℕ → List ℕ → ℕ → Bool

-- The finder's rounds, where each walks only the bodies that the mask names.
unfoldable pub skips : Book → Waking → ℕ → List ℕ → (ℕ → Bool) → ℕ → Found
skips b wakes zero σ walks n = record { summary = σ; rounds = n }
skips b wakes (suc k) σ walks n =
    elim (meets σ (asked walks b σ)) [
      | true ↦ record { summary = σ; rounds = suc n }
      | false ↦ skips b wakes k (grow σ (asked walks b σ)) (wakes σ (grow σ (asked walks b σ))) (suc n)
    ]

skips_last : (b : Book) (wakes : Waking) (k : ℕ) (σ : List ℕ) (walks : ℕ → Bool) (n : ℕ) → meets σ (asked walks b σ) ≡ true →
    skips b wakes (suc k) σ walks n ≡ record { summary = σ; rounds = suc n }
unfolding skips
skips_last b wakes k σ walks n h = rw (h, skips)

skips_more : (b : Book) (wakes : Waking) (k : ℕ) (σ : List ℕ) (walks : ℕ → Bool) (n : ℕ) → meets σ (asked walks b σ) ≡ false →
    skips b wakes (suc k) σ walks n ≡ skips b wakes k (grow σ (asked walks b σ)) (wakes σ (grow σ (asked walks b σ))) (suc n)
unfolding skips
skips_more b wakes k σ walks n h = rw (h, skips)

-- In the first round every body is walked.
unfoldable pub skipping : Book → Waking → Found
skipping b wakes = skips b wakes (most_rounds b) (replicate (size b) empty) (λ p. true) 0

-- Whatever the summaries are, each procedure that reads a place where they differ is walked next.
abbrev pub Wakes : Book → (ℕ → ℕ → Type 0) → Waking → Type 0
Wakes b C wakes = (σ τ : List ℕ) → Woken b C σ τ (wakes σ τ)

module _ {b : Book} (𝓛 : Laid b) {C : ℕ → ℕ → Type 0} (c : Callees b C) (wakes : Waking) (w : Wakes b C wakes) where
  pub skips_rounds : (k : ℕ) (σ : List ℕ) (walks : ℕ → Bool) (n : ℕ) → length σ ≡ size b → Rest b walks σ →
      skips b wakes k σ walks n ≡ rounds b k σ n
  unfolding skips rounds
  skips_rounds zero σ walks n l r = refl
  skips_rounds (suc k) σ walks n l r =
      go (holds_or_fails (meets σ (demands b σ)))
      (skips_rounds k (grow σ (demands b σ)) (wakes σ (grow σ (demands b σ))) (suc n) (length_grow σ (demands b σ) ∙ l)
      (rest_next 𝓛 c σ l (w σ (grow σ (demands b σ)))))
    where
      go : Tested (meets σ (demands b σ)) →
          skips b wakes k (grow σ (demands b σ)) (wakes σ (grow σ (demands b σ))) (suc n) ≡ rounds b k (grow σ (demands b σ)) (suc n) →
          skips b wakes (suc k) σ walks n ≡ rounds b (suc k) σ n
      go (inl t) ih = skips_last b wakes k σ walks n (rest_meets r ∙ t) ∙ sym (rounds_last b k σ n t)
      go (inr t) ih =
          skips_more b wakes k σ walks n (rest_meets r ∙ t)
          ∙ ap (λ (τ : List ℕ). skips b wakes k τ (wakes σ τ) (suc n)) (rest_grow r)
          ∙ ih
          ∙ sym (rounds_more b k σ n t)

  -- SKIPPING FINDS THE SAME, in as many rounds.
  pub skipping_finds : skipping b wakes ≡ find b
  unfolding skipping find
  skipping_finds =
      skips_rounds (most_rounds b) (replicate (size b) empty) (λ p. true) 0 (length-replicate (size b) empty)
      (rest_all b (λ p. true) (replicate (size b) empty) (λ p l. refl))

-- The procedures that p may call: of the book, and among those given.
abbrev pub Among : Book → (ℕ → ℕ → Bool) → ℕ → ℕ → Type 0
Among b calls p r = (r < length b) × (calls p r ≡ true)

-- Any sets that hold each number written after a byte 13 will do.
pub callees_scanned : (book : List ℕ) {b : Book} → read book ≡ readable b → (calls : ℕ → ℕ → Bool) → Scanned book (λ p r. calls p r ≡ true) →
    Callees b (Among b calls)
callees_scanned book e calls s = record { all = calls_written book e (λ p r. calls p r ≡ true) s }
