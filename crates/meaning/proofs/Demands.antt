-- The demands of a readable book are monotone, each place exists, and the summary of all parameters meets them.
use mathlib.Core.Path.{◌≡◌, refl}
use mathlib.Core.Logic.{◌↔◌}
use mathlib.Core.Bool.{true}
use mathlib.Core.List.{List, map}
use mathlib.Core.Option.{some}
use Prim.Native.Nat.{ℕ, ◌+◌, ◌*◌, ◌≤◌, ◌<◌}
use native.Mathlib.Omega.{arith}
use lib.ListN.{length, get_or, length-map, get_or-map, get_elem?}
use Rattle.meaning.specs.Limits.{most_parameters}
use Rattle.meaning.specs.Lists.{fold}
use Rattle.meaning.specs.Sets.{empty, single, upto, gather, ◌⊆◌}
use Rattle.meaning.specs.Tree.{Procedure, Book, variables, loops_of}
use Rattle.meaning.specs.Flow.{at, by_sets, start_sets, row_limits, limits, size, demands, meets, grow}
use Rattle.meaning.proofs.Sets.{sub_refl, sub_trans, empty_sub, union_least, union_mono, gather_has, gather_least, upto_mono, single_upto}
use Rattle.meaning.proofs.Pairs.{All, Pairs, done, also, all_mono, all_map, all_append, all_each, all_replicate, all_get_d, all_pairs, pairs_all, pairs_refl, pairs_get_or, pairs_length}
use Rattle.meaning.proofs.Needs.{Below, Met, Placed, meets_still}
use Rattle.meaning.proofs.Parts.{parts_demands, pairs_demands}
use Rattle.meaning.proofs.Walks.{Alike, Asked, calls_all_of, walk_ends}
use Rattle.meaning.proofs.Places.{RowIn, OwnRow, Laid, result_place, result_limit}
use Rattle.meaning.proofs.Rounds.{Lawful}

-- More positions chosen of larger sets gather more.
pub gather_mono : {S T : ℕ} {s t : List ℕ} → S ⊆ T → Pairs ◌⊆◌ s t → gather S s ⊆ gather T t
gather_mono {S} {T} {s} {t} h p =
    gather_least S s (gather T t)
    (λ i l m. sub_trans (pairs_get_or p i (sub_refl empty)) (gather_has T t i (rw (← pairs_length p) l) (h.each i m)))

-- A place of the summary where n parameters are allowed.
record Allows (b : Book) (n k : ℕ) : Type 0 where
  exists : k < size b
  limit : get_or (limits b) k 0 ≡ n

row_allows : (b : Book) (w n k : ℕ) → RowIn (limits b) w n k → (i : ℕ) → i < w → Allows b n (k + i)
unfolding size
row_allows b w n k r i l = record { exists = omega (arith, r.fits); limit = r.limit i l }

-- The summary in which each place holds all the parameters its procedure has.
pub full : Book → List ℕ
full b = map upto (limits b)

pub length_full : (b : Book) → length (full b) ≡ size b
unfolding full size
length_full b = length-map (limits b) upto

pub at_full : (b : Book) (k : ℕ) → at (full b) k ≡ upto (get_or (limits b) k 0)
unfolding full at empty upto fold
at_full b k = get_or-map upto (limits b) k 0

rows_few : {n : ℕ} {b : Book} → All (λ q. q.parameters ≤ n) b → All (λ k. k ≤ n) (row_limits b)
unfolding row_limits
rows_few done = done
rows_few (also {a = q} c h) = all_append (all_replicate (variables q * loops_of q.body) q.parameters c) (rows_few h)

-- The places hold few parameters where the procedures have few.
limits_few : (n : ℕ) {b : Book} → All (λ q. q.parameters ≤ n) b → All (λ k. k ≤ n) (limits b)
unfolding limits
limits_few n {b} h = all_append (all_map (λ q. q.parameters) (λ q c. c) h) (rows_few h)

pub full_bounded : (n : ℕ) {b : Book} → All (λ q. q.parameters ≤ n) b → All (λ s. s ⊆ upto n) (full b)
unfolding full
full_bounded n {b} h = all_map upto (λ k l. upto_mono l) (limits_few n h)

start_own : (q : Procedure) → All (λ s. s ⊆ upto q.parameters) (start_sets q)
unfolding start_sets
start_own q =
    all_append (all_each q.parameters single (λ i l. single_upto i q.parameters l))
    (all_replicate q.locals empty (empty_sub (upto q.parameters)))

module _ {b : Book} (𝓛 : Laid b) where
  result_allows : (p : ℕ) (q : Procedure) → get_elem? b p ≡ some q → Allows b q.parameters p
  result_allows p q e = record { exists = result_place b p e; limit = result_limit b p e }

  pub demands_monotone : (σ τ : List ℕ) → Below σ τ → Pairs (Asked ◌⊆◌ (λ k. Unit {0})) (demands b σ) (demands b τ)
  demands_monotone σ τ h =
      pairs_demands b σ τ λ p q e.
      walk_ends (alike q) q.body p tt (𝓛.rows p q e) (calls_all_of (λ r. tt) q.body) (pairs_refl sub_refl (start_sets q)) (sub_refl empty)
    where
      alike : (q : Procedure) → Alike ◌⊆◌ (OwnRow b q) (λ k. Unit {0}) (λ r. Unit {0}) (by_sets σ (variables q)) (by_sets τ (variables q))
      alike q =
          record {
            none = sub_refl empty;
            join = λ p r. union_mono p r;
            called = λ p c s. gather_mono (h.on p) s;
            held = λ k r i l. h.on (k + i);
            width = refl;
            row_places = λ k r i l. tt;
          }

  pub demands_placed : (σ : List ℕ) → All (Placed (size b)) (demands b σ)
  demands_placed σ =
      parts_demands b σ λ p q e.
      pairs_all (λ d c a. record { exists = a.stands.exists })
      (walk_ends (alike q) q.body p (result_allows p q e) (𝓛.rows p q e) (calls_all_of (λ r. tt) q.body) {h = empty} (pairs_refl (λ s. tt) (start_sets q)) tt)
    where
      alike : (q : Procedure) →
          Alike {B = ℕ} (λ s t. Unit {0}) (OwnRow b q) (Allows b q.parameters) (λ r. Unit {0}) (by_sets σ (variables q)) (by_sets σ (variables q))
      alike q =
          record {
            none = tt;
            join = λ p r. tt;
            called = λ p c s. tt;
            held = λ k r i l. tt;
            width = refl;
            row_places = row_allows b (variables q) q.parameters;
          }

  pub full_met : All (Met (full b)) (demands b (full b))
  full_met =
      parts_demands b (full b) λ p q e.
      pairs_all (λ d c a. record { lies = rw (at_full b d.place, a.stands.limit) a.related })
      (walk_ends (alike q) q.body p (result_allows p q e) (𝓛.rows p q e) (calls_all_of (λ r. tt) q.body) {h = empty}
      (all_pairs (start_own q)) (empty_sub (upto q.parameters)))
    where
      alike : (q : Procedure) →
          Alike {B = ℕ} (λ s t. s ⊆ upto q.parameters) (OwnRow b q) (Allows b q.parameters) (λ r. Unit {0})
          (by_sets (full b) (variables q)) (by_sets (full b) (variables q))
      alike q =
          record {
            none = empty_sub (upto q.parameters);
            join = λ p r. union_least p r;
            called = λ p c {s} {t} h.
                gather_least (at (full b) p) s (upto q.parameters)
                (λ i l m. pairs_get_or h i {e = empty} (empty_sub (upto q.parameters)));
            held = λ k r i l. rw (at_full b (k + i), r.limit i l) (sub_refl (upto q.parameters));
            width = refl;
            row_places = row_allows b (variables q) q.parameters;
          }

  parameters_few : All (λ q. q.parameters ≤ most_parameters) b
  parameters_few = all_mono (λ q c. c.parameters) 𝓛.counted

  pub full_small : (k : ℕ) → at (full b) k ⊆ upto most_parameters
  unfolding at
  full_small k = all_get_d (full_bounded most_parameters parameters_few) k (empty_sub (upto most_parameters))

  pub lawful : Lawful (demands b) (size b) most_parameters
  lawful =
      record {
        monotone = demands_monotone;
        placed = λ σ l. demands_placed σ;
        top = full b;
        top_length = length_full b;
        topped = full_met;
        bounded = full_bounded most_parameters parameters_few;
      }

  -- The checker's test of the demands is whether the round adds nothing.
  pub meets_round : (σ : List ℕ) → length σ ≡ size b → meets σ (demands b σ) ≡ true ↔ grow σ (demands b σ) ≡ σ
  meets_round σ l = meets_still σ (demands b σ) (rw l (demands_placed σ))
