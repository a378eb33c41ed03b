-- Summaries with the same set at every place demand the same, whatever their lengths: so one that is longer, with empty sets behind,
-- serves as well.
use mathlib.Core.Path.{◌≡◌, refl, sym, ap, ap₂, ◌∙◌}
use mathlib.Core.Bool.{Bool, cond}
use mathlib.Core.List.{List, [], ◌∷◌, ◌++◌}
use Prim.Native.Nat.{ℕ, suc, ◌<◌}
use native.Mathlib.Decide.{ℕ_discrete}
use lib.ListN.{length, get_or, length-set}
use lib.Seq.{ext_get_or}
use Rattle.meaning.specs.Lists.{every}
use Rattle.meaning.specs.Sets.{empty, union, inside, upto, gather}
use Rattle.meaning.specs.Tree.{Procedure, Book, variables}
use Rattle.meaning.specs.Flow.{Walk, Need, at, ends, start_sets, limits, size, demands_from, demands, legal, grow}
use Rattle.meaning.proofs.Pairs.{All, done, also}
use Rattle.meaning.proofs.Needs.{Placed, add, at_add_same, at_add_other}
use Rattle.meaning.proofs.Parts.{part}
use Rattle.meaning.proofs.Skipping.{asked_from, asked, Woken}

-- The walk of document 01 uses a summary only through its sets.
abbrev by_set : (ℕ → ℕ) → ℕ → Walk ℕ
by_set f w = record { none = empty; join = union; called = λ p sets. gather (f p) sets; held = f; width = w }

-- The same set at every place.
pub record SameSets (σ τ : List ℕ) : Type 0 where
  pub on : (k : ℕ) → at σ k ≡ at τ k

module _ {σ τ : List ℕ} (same : SameSets σ τ) where
  sets : at σ ≡ at τ
  sets = λ i k. same.on k i

  part_front : (p : ℕ) (q : Procedure) → part p q σ ≡ part p q τ
  part_front p q = ap (λ (f : ℕ → ℕ). ends q.body (by_set f (variables q)) p (start_sets q) empty) sets

  demands_from_lem : (p : ℕ) (qs : Book) → demands_from p qs σ ≡ demands_from p qs τ
  unfolding demands_from
  demands_from_lem p [] = refl
  demands_from_lem p (q ∷ qs) = ap₂ ◌++◌ (part_front p q) (demands_from_lem (suc p) qs)

  pub demands_front : (b : Book) → demands b σ ≡ demands b τ
  unfolding demands
  demands_front b = demands_from_lem 0 b

  asked_from_lem : (walks : ℕ → Bool) (p : ℕ) (qs : Book) → asked_from walks p qs σ ≡ asked_from walks p qs τ
  unfolding asked_from
  asked_from_lem walks p [] = refl
  asked_from_lem walks p (q ∷ qs) =
      ap₂ ◌++◌ (ap (λ (ds : List (Need ℕ)). cond (walks p) ds []) (part_front p q)) (asked_from_lem walks (suc p) qs)

  pub asked_front : (walks : ℕ → Bool) (b : Book) → asked walks b σ ≡ asked walks b τ
  unfolding asked
  asked_front walks b = asked_from_lem walks 0 b

  pub legal_front : (b : Book) → legal b σ ≡ legal b τ
  unfolding legal
  legal_front b = ap (λ (f : ℕ → ℕ). every (size b) λ i. inside (f i) (upto (get_or (limits b) i 0))) sets

-- Summaries of one length with the same sets are equal.
pub same_front : {σ τ : List ℕ} → SameSets σ τ → length σ ≡ length τ → σ ≡ τ
unfolding at
same_front {σ} {τ} same l = ext_get_or empty σ τ l (λ k h. same.on k)

-- A mask that wakes enough for one pair of summaries does so for any pair with the same sets.
pub woken_front : {b : Book} {C : ℕ → ℕ → Type 0} {σ σ' τ τ' : List ℕ} {walks : ℕ → Bool} → SameSets σ σ' → SameSets τ τ' →
    Woken b C σ τ walks → Woken b C σ' τ' walks
woken_front s t w =
    record {
      unmoved = λ p l f.
          record {
            results = λ r h. sym (s.on r) ∙ (w.unmoved p l f).results r h ∙ t.on r;
            rows = λ k g h. sym (s.on k) ∙ (w.unmoved p l f).rows k g h ∙ t.on k;
          };
    }

-- What is added at places that both have, both have alike.
add_front : {σ τ : List ℕ} (d : Need ℕ) → SameSets σ τ → d.place < length σ → d.place < length τ → SameSets (add σ d) (add τ d)
add_front {σ} {τ} d same l m = record { on = λ k. go k (ℕ_discrete k d.place) }
  where
    go : (k : ℕ) → Dec (k ≡ d.place) → at (add σ d) k ≡ at (add τ d) k
    go k (yes e) = rw (e, at_add_same σ d l, at_add_same τ d m, same.on d.place)
    go k (no n) = rw (at_add_other σ d k n, at_add_other τ d k n) (same.on k)

pub grow_front : {n m : ℕ} {σ τ : List ℕ} {ds : List (Need ℕ)} → SameSets σ τ → length σ ≡ n → length τ ≡ m →
    All (Placed n) ds → All (Placed m) ds → SameSets (grow σ ds) (grow τ ds)
unfolding grow
grow_front same e f done done = same
grow_front {σ = σ} {τ = τ} same e f (also {a = d} p h) (also q i) =
    grow_front {σ = add σ d} {τ = add τ d} (add_front d same (rw e p.exists) (rw f q.exists))
    (length-set σ d.place (union (at σ d.place) d.needed) ∙ e)
    (length-set τ d.place (union (at τ d.place) d.needed) ∙ f)
    h i
