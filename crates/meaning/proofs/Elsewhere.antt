-- What a procedure demands stands at its own places: so a round leaves the rows as they were of each procedure that it does not walk.
use mathlib.Core.Path.{◌≡◌, refl}
use mathlib.Core.Logic.{◌≢◌, inl, inr}
use mathlib.Core.Bool.{Bool, true, false, cond}
use mathlib.Core.List.{List, [], ◌∷◌}
use mathlib.Core.Option.{some}
use Prim.Native.Nat.{ℕ, suc, ◌+◌, ◌≤◌, ◌<◌}
use native.Mathlib.Omega.{arith}
use native.Mathlib.Decide.{dec_lt}
use lib.ListN.{length, get_elem?}
use Rattle.meaning.specs.Sets.{empty}
use Rattle.meaning.specs.Tree.{Procedure, Book, variables}
use Rattle.meaning.specs.Flow.{Need, at, by_sets, start_sets, size, grow}
use Rattle.meaning.proofs.Lists.{Tested, holds_or_fails}
use Rattle.meaning.proofs.Pairs.{All, done, all_append, all_mono, pairs_refl, pairs_all}
use Rattle.meaning.proofs.Needs.{Placed, grow_other}
use Rattle.meaning.proofs.Parts.{part, Each, each_head, each_tail, from_zero, demands_parts}
use Rattle.meaning.proofs.Walks.{Alike, calls_all_of, walk_ends}
use Rattle.meaning.proofs.Places.{RowFrom, row_of, row_behind, row_ordered, Laid, at_exists}
use Rattle.meaning.proofs.Demands.{demands_placed}
use Rattle.meaning.proofs.Skipping.{asked_from, asked}

-- A place of procedure p: its result, or a place of its rows.
pub data Own (b : Book) (p : ℕ) : ℕ → Type 0 where
  result : Own b p p
  row : {k : ℕ} → row_of (length b) b p ≤ k → k < row_of (length b) b (suc p) → Own b p k

-- A place of another procedure is none of the rows of p.
own_apart : (b : Book) (p r k j : ℕ) → r < length b → p ≢ r → row_of (length b) b p ≤ k → k < row_of (length b) b (suc p) → Own b r j →
    k ≢ j
own_apart b p r k _ l n f t result e = omega (arith, row_behind (length b) b p)
own_apart b p r k j l n f t (row g h) e =
    elim (dec_lt p r) [
      | yes m ↦ omega (arith, row_ordered (length b) b (suc p) r m)
      | no m ↦ omega (arith, row_ordered (length b) b (suc r) p (earlier m))
    ]
  where
    earlier : (p < r → ⊥) → suc r ≤ p
    earlier m = omega arith

module _ {b : Book} (𝓛 : Laid b) where
  -- Each demand of a procedure stands at a place of its own.
  pub part_own : (p : ℕ) (q : Procedure) → get_elem? b p ≡ some q → (σ : List ℕ) → All (λ d. Own b p d.place) (part p q σ)
  part_own p q e σ =
      pairs_all (λ d c a. a.stands)
      (walk_ends alike q.body p result (𝓛.own p q e) (calls_all_of (λ r. tt) q.body) {h = empty}
      (pairs_refl (λ s. tt) (start_sets q)) tt)
    where
      alike : Alike {B = ℕ} (λ s t. Unit {0}) (RowFrom (row_of (length b) b p) (row_of (length b) b (suc p)) (variables q)) (Own b p)
          (λ r. Unit {0}) (by_sets σ (variables q)) (by_sets σ (variables q))
      alike =
          record {
            none = tt;
            join = λ p r. tt;
            called = λ p c s. tt;
            held = λ k r i l. tt;
            width = refl;
            row_places = λ k r i l. row {k = k + i} (omega (arith, r.from)) (omega (arith, r.to));
          }

-- What the walked procedures' demands have, all that is asked has.
module _ (P : Need ℕ → Type 0) (walks : ℕ → Bool) where
  abbrev Asking : List ℕ → ℕ → Procedure → Type 0
  Asking σ p q = walks p ≡ true → All P (part p q σ)

  from_walked : (p : ℕ) (qs : Book) (σ : List ℕ) → Each p qs (Asking σ) → All P (asked_from walks p qs σ)
  unfolding asked_from
  from_walked p [] σ h = done
  from_walked p (q ∷ qs) σ h =
      all_append (go (holds_or_fails (walks p))) (from_walked (suc p) qs σ (each_tail p q qs (Asking σ) h))
    where
      go : Tested (walks p) → All P (cond (walks p) (part p q σ) [])
      go (inl t) = rw t (each_head p q qs (Asking σ) h t)
      go (inr t) = rw t done

  pub walked_asked : (b : Book) (σ : List ℕ) → ((p : ℕ) (q : Procedure) → get_elem? b p ≡ some q → walks p ≡ true → All P (part p q σ)) →
      All P (asked walks b σ)
  unfolding asked
  walked_asked b σ h = from_walked 0 b σ (from_zero b (Asking σ) h)

-- What is asked stands within the summary.
pub asked_placed : {b : Book} → Laid b → (walks : ℕ → Bool) (σ : List ℕ) → All (Placed (size b)) (asked walks b σ)
asked_placed {b} 𝓛 walks σ = walked_asked (Placed (size b)) walks b σ (λ p q e w. demands_parts b σ (demands_placed 𝓛 σ) p q e)

-- THE ROWS OF A PROCEDURE THAT IS NOT WALKED ARE AS THEY WERE.
pub rows_kept : {b : Book} → Laid b → (walks : ℕ → Bool) (σ τ : List ℕ) (p : ℕ) → walks p ≡ false →
    (k : ℕ) → row_of (length b) b p ≤ k → k < row_of (length b) b (suc p) → at (grow τ (asked walks b σ)) k ≡ at τ k
rows_kept {b} 𝓛 walks σ τ p w k f t =
    grow_other k τ
    (walked_asked (λ d. k ≢ d.place) walks b σ λ r q e h.
    all_mono (λ d o. own_apart b p r k d.place (at_exists b r e) (other r h) f t o) (part_own 𝓛 r q e σ))
  where
    other : (r : ℕ) → walks r ≡ true → p ≢ r
    other r h e = let z : ◌≡◌ {A = ℕ} 0 1 = cc in omega arith
