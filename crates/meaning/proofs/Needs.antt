-- Needs met by a summary, and a round that adds them.
use mathlib.Core.Path.{◌≡◌, refl, sym, ◌∙◌, subst}
use mathlib.Core.Logic.{◌≢◌, ◌↔◌, inl, inr}
use mathlib.Core.Bool.{true, ◌&&◌, and_assoc}
use mathlib.Core.List.{List, [], ◌∷◌, ◌++◌}
use Prim.Native.Nat.{ℕ, ◌<◌, ◌≤◌}
use native.Mathlib.Omega.{arith}
use native.Mathlib.Decide.{ℕ_discrete, dec_lt}
use lib.ListN.{length, set, length-set, get_or-eq_default}
use lib.Seq.{get_or-set_same, get_or-set_other, set-get_or, set_out, ext_get_or}
use Rattle.meaning.specs.Sets.{empty, union, inside, ◌⊆◌}
use Rattle.meaning.specs.Flow.{Need, at, meets, grow}
use Rattle.meaning.proofs.Lists.{Tested, holds_or_fails, both, both_left, both_right}
use Rattle.meaning.proofs.Sets.{inside_sound, inside_complete, sub_refl, sub_trans, sub_antisym, union_l, union_r, union_least, union_sub_l}
use Rattle.meaning.proofs.Pairs.{All, done, also}

-- One summary lies within another, place by place.
pub record Below (σ τ : List ℕ) : Type 0 where
  pub on : (k : ℕ) → at σ k ⊆ at τ k

pub below_refl : (σ : List ℕ) → Below σ σ
below_refl σ = record { on = λ k. sub_refl (at σ k) }

pub below_trans : {ρ σ τ : List ℕ} → Below ρ σ → Below σ τ → Below ρ τ
below_trans p q = record { on = λ k. sub_trans (p.on k) (q.on k) }

-- A need that the summary meets, and a need whose place exists.
pub record Met (σ : List ℕ) (d : Need ℕ) : Type 0 where
  pub lies : d.needed ⊆ at σ d.place

pub record Placed (n : ℕ) (d : Need ℕ) : Type 0 where
  pub exists : d.place < n

-- The Boolean test, read and met.
pub meets_sound : (σ : List ℕ) (ds : List (Need ℕ)) → meets σ ds ≡ true → All (Met σ) ds
unfolding meets
meets_sound σ [] h = done
meets_sound σ (d ∷ ds) h =
    also (record { lies = inside_sound d.needed (at σ d.place) (both_left _ _ h) })
    (meets_sound σ ds (both_right (inside d.needed (at σ d.place)) (meets σ ds) h))

pub meets_complete : (σ : List ℕ) {ds : List (Need ℕ)} → All (Met σ) ds → meets σ ds ≡ true
unfolding meets
meets_complete σ done = refl
meets_complete σ (also {a = d} m h) = both (inside_complete d.needed (at σ d.place) m.lies) (meets_complete σ h)

pub meets_append : (σ : List ℕ) (ds es : List (Need ℕ)) → meets σ (ds ++ es) ≡ (meets σ ds && meets σ es)
unfolding meets
meets_append σ [] es = refl
meets_append σ (d ∷ ds) es =
    rw (meets_append σ ds es) (sym (and_assoc (inside d.needed (at σ d.place)) (meets σ ds) (meets σ es)))

-- Adding one need.
abbrev pub add : List ℕ → Need ℕ → List ℕ
add σ d = set σ d.place (union (at σ d.place) d.needed)

pub at_beyond : (σ : List ℕ) (k : ℕ) → length σ ≤ k → at σ k ≡ empty
unfolding at
at_beyond σ k h = get_or-eq_default σ empty h

pub at_add_other : (σ : List ℕ) (d : Need ℕ) (k : ℕ) → k ≢ d.place → at (add σ d) k ≡ at σ k
unfolding at
at_add_other σ d k h = get_or-set_other σ d.place k (union (at σ d.place) d.needed) empty h

pub at_add_same : (σ : List ℕ) (d : Need ℕ) → d.place < length σ → at (add σ d) d.place ≡ union (at σ d.place) d.needed
unfolding at
at_add_same σ d h = get_or-set_same σ d.place (union (at σ d.place) d.needed) empty h

add_out : (σ : List ℕ) (d : Need ℕ) → length σ ≤ d.place → add σ d ≡ σ
add_out σ d h = set_out σ d.place (union (at σ d.place) d.needed) h

-- What adding one need does: nothing is lost, the need is met, and nothing else comes in.
add_above : (σ : List ℕ) (d : Need ℕ) → Below σ (add σ d)
add_above σ d = record { on = λ k. go k (ℕ_discrete k d.place) (dec_lt d.place (length σ)) }
  where
    go : (k : ℕ) → Dec (k ≡ d.place) → Dec (d.place < length σ) → at σ k ⊆ at (add σ d) k
    go k (no n) l = rw (at_add_other σ d k n) (sub_refl (at σ k))
    go k (yes e) (yes l) = rw (e, at_add_same σ d l) (union_l (at σ d.place) d.needed)
    go k (yes e) (no l) = rw (add_out σ d (omega arith)) (sub_refl (at σ k))

add_met : (σ : List ℕ) (d : Need ℕ) → d.place < length σ → Met (add σ d) d
add_met σ d l = record { lies = rw (at_add_same σ d l) (union_r (at σ d.place) d.needed) }

add_least : {σ τ : List ℕ} (d : Need ℕ) → Below σ τ → Met τ d → Below (add σ d) τ
add_least {σ} {τ} d b m = record { on = λ k. go k (ℕ_discrete k d.place) (dec_lt d.place (length σ)) }
  where
    go : (k : ℕ) → Dec (k ≡ d.place) → Dec (d.place < length σ) → at (add σ d) k ⊆ at τ k
    go k (no n) l = rw (at_add_other σ d k n) (b.on k)
    go k (yes e) (yes l) = rw (e, at_add_same σ d l) (union_least (b.on d.place) m.lies)
    go k (yes e) (no l) = rw (add_out σ d (omega arith)) (b.on k)

add_still : (σ : List ℕ) (d : Need ℕ) → Met σ d → add σ d ≡ σ
unfolding at
add_still σ d m = rw (union_sub_l m.lies) (set-get_or σ d.place empty)

pub met_above : {σ τ : List ℕ} {d : Need ℕ} → Below σ τ → Met σ d → Met τ d
met_above {d} b m = record { lies = sub_trans m.lies (b.on d.place) }

-- A round: all needs are added.
pub length_grow : (σ : List ℕ) (ds : List (Need ℕ)) → length (grow σ ds) ≡ length σ
unfolding grow
length_grow σ [] = refl
length_grow σ (d ∷ ds) = length_grow (add σ d) ds ∙ length-set σ d.place (union (at σ d.place) d.needed)

pub grow_append : (σ : List ℕ) (ds es : List (Need ℕ)) → grow σ (ds ++ es) ≡ grow (grow σ ds) es
unfolding grow
grow_append σ [] es = refl
grow_append σ (d ∷ ds) es = grow_append (add σ d) ds es

pub grow_above : (σ : List ℕ) (ds : List (Need ℕ)) → Below σ (grow σ ds)
unfolding grow
grow_above σ [] = below_refl σ
grow_above σ (d ∷ ds) = below_trans (add_above σ d) (grow_above (add σ d) ds)

pub grow_met : {n : ℕ} (σ : List ℕ) {ds : List (Need ℕ)} → length σ ≡ n → All (Placed n) ds → All (Met (grow σ ds)) ds
unfolding grow
grow_met σ e done = done
grow_met σ e (also {a = d} {s = ds} p h) =
    also (met_above (grow_above (add σ d) ds) (add_met σ d (rw e p.exists)))
    (grow_met (add σ d) (length-set σ d.place (union (at σ d.place) d.needed) ∙ e) h)

-- Needs at other places leave a place as it was.
pub grow_other : (k : ℕ) (σ : List ℕ) {ds : List (Need ℕ)} → All (λ d. k ≢ d.place) ds → at (grow σ ds) k ≡ at σ k
unfolding grow
grow_other k σ done = refl
grow_other k σ (also {a = d} n h) = grow_other k (add σ d) h ∙ at_add_other σ d k n

pub grow_least : {τ σ : List ℕ} {ds : List (Need ℕ)} → Below σ τ → All (Met τ) ds → Below (grow σ ds) τ
unfolding grow
grow_least b done = b
grow_least {τ = τ} {σ = σ} b (also {a = d} m h) = grow_least {τ = τ} {σ = add σ d} (add_least d b m) h

-- The round adds nothing just where all needs are met.
pub met_still : (σ : List ℕ) {ds : List (Need ℕ)} → All (Met σ) ds → grow σ ds ≡ σ
unfolding grow
met_still σ done = refl
met_still σ (also {a = d} {s = ds} m h) = rw (add_still σ d m) (met_still σ h)

pub still_met : (σ : List ℕ) (ds : List (Need ℕ)) → All (Placed (length σ)) ds → grow σ ds ≡ σ → All (Met σ) ds
still_met σ ds p e = subst (λ (τ : List ℕ). All (Met τ) ds) e (grow_met σ refl p)

pub meets_still : (σ : List ℕ) (ds : List (Need ℕ)) → All (Placed (length σ)) ds → meets σ ds ≡ true ↔ grow σ ds ≡ σ
meets_still σ ds p = (λ h. met_still σ (meets_sound σ ds h), λ e. meets_complete σ (still_met σ ds p e))

-- Needs treated as they arise may be tested against the summary as grown so far.
pub meets_grown : (σ : List ℕ) (ds es : List (Need ℕ)) → meets σ (ds ++ es) ≡ (meets σ ds && meets (grow σ ds) es)
meets_grown σ ds es = meets_append σ ds es ∙ go (holds_or_fails (meets σ ds))
  where
    go : Tested (meets σ ds) → (meets σ ds && meets σ es) ≡ (meets σ ds && meets (grow σ ds) es)
    go (inl h) = rw (met_still σ (meets_sound σ ds h))
    go (inr h) = rw h

-- Summaries of one length that lie within each other are equal.
pub below_antisym : (σ τ : List ℕ) → length σ ≡ length τ → Below σ τ → Below τ σ → σ ≡ τ
unfolding at
below_antisym σ τ l p q = ext_get_or empty σ τ l (λ k h. sub_antisym (p.on k) (q.on k))
