-- The demands of a book, procedure by procedure.
use mathlib.Core.Path.{◌≡◌, refl, subst}
use mathlib.Core.List.{List, [], ◌∷◌}
use mathlib.Core.Option.{some}
use Prim.Native.Nat.{ℕ, zero, suc, ◌+◌}
use native.Mathlib.Nat.{zero-add}
use native.Mathlib.Omega.{arith}
use lib.ListN.{get_elem?}
use Rattle.meaning.specs.Sets.{empty}
use Rattle.meaning.specs.Tree.{Procedure, Book, variables}
use Rattle.meaning.specs.Flow.{Need, by_sets, ends, start_sets, demands_from, demands}
use Rattle.meaning.proofs.Pairs.{All, Pairs, done, all_append, all_left, all_right, pairs_append}

-- What procedure p, which is q, demands.
abbrev pub part : ℕ → Procedure → List ℕ → List (Need ℕ)
part p q σ = ends q.body (by_sets σ (variables q)) p (start_sets q) empty

-- A claim on each procedure of a book, from number p on.
unfoldable pub Each : ℕ → Book → (ℕ → Procedure → Type 0) → Type 0
Each p qs C = (i : ℕ) (q : Procedure) → get_elem? qs i ≡ some q → C (p + i) q

pub each_tail : (p : ℕ) (q : Procedure) (qs : Book) (C : ℕ → Procedure → Type 0) → Each p (q ∷ qs) C → Each (suc p) qs C
unfolding Each
each_tail p q qs C h i r e = let s : p + suc i ≡ suc p + i = omega arith in subst (λ n. C n r) s (h (suc i) r e)

pub each_head : (p : ℕ) (q : Procedure) (qs : Book) (C : ℕ → Procedure → Type 0) → Each p (q ∷ qs) C → C p q
unfolding Each
each_head p q qs C h = let s : p + 0 ≡ p = omega arith in subst (λ n. C n q) s (h 0 q refl)

pub from_zero : (b : Book) (C : ℕ → Procedure → Type 0) → ((p : ℕ) (q : Procedure) → get_elem? b p ≡ some q → C p q) → Each 0 b C
unfolding Each
from_zero b C h i q e = rw zero-add (h i q e)

module _ {P : Need ℕ → Type 0} where
  from_parts : (p : ℕ) (qs : Book) (σ : List ℕ) → Each p qs (λ i q. All P (part i q σ)) → All P (demands_from p qs σ)
  unfolding demands_from
  from_parts p [] σ h = done
  from_parts p (q ∷ qs) σ h =
      all_append (each_head p q qs (λ i r. All P (part i r σ)) h)
      (from_parts (suc p) qs σ (each_tail p q qs (λ i r. All P (part i r σ)) h))

  to_parts : (p : ℕ) (qs : Book) (σ : List ℕ) → All P (demands_from p qs σ) → Each p qs (λ i q. All P (part i q σ))
  unfolding demands_from Each
  to_parts p [] σ h i q e = let z : ◌≡◌ {A = ℕ} 0 1 = cc in absurd (omega arith)
  to_parts p (r ∷ qs) σ h zero q e =
      let s : q ≡ r = cc in
      let n : p + 0 ≡ p = omega arith in
      rw (s, n) (all_left (part p r σ) (demands_from (suc p) qs σ) h)
  to_parts p (r ∷ qs) σ h (suc i) q e =
      let n : p + suc i ≡ suc p + i = omega arith in
      rw n (to_parts (suc p) qs σ (all_right (part p r σ) (demands_from (suc p) qs σ) h) i q e)

  -- What all demands have, each procedure's have, and back.
  pub parts_demands : (b : Book) (σ : List ℕ) → ((p : ℕ) (q : Procedure) → get_elem? b p ≡ some q → All P (part p q σ)) →
      All P (demands b σ)
  unfolding demands
  parts_demands b σ h = from_parts 0 b σ (from_zero b (λ p q. All P (part p q σ)) h)

  pub demands_parts : (b : Book) (σ : List ℕ) → All P (demands b σ) →
      (p : ℕ) (q : Procedure) → get_elem? b p ≡ some q → All P (part p q σ)
  unfolding demands Each
  demands_parts b σ h p q e = rw zero-add at (to_parts 0 b σ h p q e)

module _ {R : Need ℕ → Need ℕ → Type 0} where
  from_pairs : (p : ℕ) (qs : Book) (σ τ : List ℕ) → Each p qs (λ i q. Pairs R (part i q σ) (part i q τ)) →
      Pairs R (demands_from p qs σ) (demands_from p qs τ)
  unfolding demands_from
  from_pairs p [] σ τ h = done
  from_pairs p (q ∷ qs) σ τ h =
      pairs_append (each_head p q qs (λ i r. Pairs R (part i r σ) (part i r τ)) h)
      (from_pairs (suc p) qs σ τ (each_tail p q qs (λ i r. Pairs R (part i r σ) (part i r τ)) h))

  pub pairs_demands : (b : Book) (σ τ : List ℕ) →
      ((p : ℕ) (q : Procedure) → get_elem? b p ≡ some q → Pairs R (part p q σ) (part p q τ)) → Pairs R (demands b σ) (demands b τ)
  unfolding demands
  pairs_demands b σ τ h = from_pairs 0 b σ τ (from_zero b (λ p q. Pairs R (part p q σ) (part p q τ)) h)
