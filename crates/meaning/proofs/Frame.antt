-- A body's demands by two summaries are the same where the two agree at every place that its walk reads.
use mathlib.Core.Path.{◌≡◌, refl, ap₂}
use mathlib.Core.List.{List, ◌∷◌}
use mathlib.Core.Option.{some}
use Prim.Native.Nat.{ℕ, suc, ◌+◌, ◌≤◌, ◌<◌}
use native.Mathlib.Omega.{arith}
use lib.ListN.{length, get_elem?}
use Rattle.meaning.specs.Sets.{union, gather}
use Rattle.meaning.specs.Tree.{Procedure, Book, variables}
use Rattle.meaning.specs.Flow.{Need, at, by_sets, start_sets}
use Rattle.meaning.proofs.Pairs.{Pairs, done, also, pairs_refl}
use Rattle.meaning.proofs.Parts.{part}
use Rattle.meaning.proofs.Walks.{Alike, Asked, CallsOf, walk_ends}
use Rattle.meaning.proofs.Places.{RowFrom, row_of, Laid}

-- Two summaries agree at each place that a walk of procedure p reads, where it calls none but procedures with C:
-- the results of those, and its own rows. (Its own result it reads only if it calls itself.)
pub record Unmoved (b : Book) (C : ℕ → Type 0) (p : ℕ) (σ τ : List ℕ) : Type 0 where
  pub results : (r : ℕ) → C r → at σ r ≡ at τ r
  pub rows : (k : ℕ) → row_of (length b) b p ≤ k → k < row_of (length b) b (suc p) → at σ k ≡ at τ k

pairs_same : {A : Type 0} {s t : List A} → Pairs (λ a b. a ≡ b) s t → s ≡ t
pairs_same done = refl
pairs_same (also e h) = ap₂ ◌∷◌ e (pairs_same h)

asked_same : {P : ℕ → Type 0} {ds es : List (Need ℕ)} → Pairs (Asked (λ a b. a ≡ b) P) ds es → ds ≡ es
asked_same done = refl
asked_same (also {a = d} {b = e} a h) =
    ap₂ ◌∷◌ (ap₂ (λ k s. record { place = k; needed = s }) a.same_place a.related) (asked_same h)

-- THE FRAME.
pub frame : {b : Book} → Laid b → (C : ℕ → Type 0) (p : ℕ) (q : Procedure) → get_elem? b p ≡ some q → CallsOf q.body C →
    (σ τ : List ℕ) → Unmoved b C p σ τ → part p q σ ≡ part p q τ
frame {b} 𝓛 C p q e c σ τ u =
    asked_same (walk_ends alike q.body p tt (𝓛.own p q e) c (pairs_refl (λ s. refl) (start_sets q)) refl)
  where
    alike : Alike (λ s t. s ≡ t) (RowFrom (row_of (length b) b p) (row_of (length b) b (suc p)) (variables q)) (λ k. Unit {0}) C
        (by_sets σ (variables q)) (by_sets τ (variables q))
    alike =
        record {
          none = refl;
          join = λ p r. ap₂ union p r;
          called = λ r h s. ap₂ gather (u.results r h) (pairs_same s);
          held = λ k r i l. u.rows (k + i) (omega (arith, r.from)) (omega (arith, r.to));
          width = refl;
          row_places = λ k r i l. tt;
        }
