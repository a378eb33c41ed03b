-- Stores as two runs hold them: where they agree, and what a run under a guard keeps. All is said by position, for a set X of parameters.
use mathlib.Core.Path.{◌≡◌, refl, sym, ap, ◌∙◌}
use mathlib.Core.Bool.{Bool, true, false, ◌&&◌, cond}
use mathlib.Core.List.{List, [], ◌∷◌, ◌++◌}
use Prim.Native.Nat.{ℕ, zero, suc, ◌+◌, ◌-◌, ◌≤◌, ◌<◌}
use native.Mathlib.Omega.{arith}
use lib.Dec.{eqb, ltb}
use lib.ListN.{length, get_or, set, replicate, length-set, length-append, length-replicate, get_or-append, get_or-eq_default}
use lib.Seq.{get_or-set_same, get_or-set_other, set_out, get_or-append-add}
use borrow.Author.Tests.{ltb-true, ltb-false, eqb-true, eqb-false, eq-eqb}
use Rattle.meaning.specs.Lists.{each}
use Rattle.meaning.specs.Sets.{empty, single, union, member, ◌⊆◌}
use Rattle.meaning.specs.Tree.{Procedure, variables}
use Rattle.meaning.specs.Running.{start}
use Rattle.meaning.specs.Flow.{at, row, joined, by_sets, start_sets}
use Rattle.meaning.specs.Promises.{Arrives}
use Rattle.meaning.proofs.Lists.{length_each, get_or_each}
use Rattle.meaning.proofs.Sets.{member_single, sub_refl, sub_trans, empty_sub, union_l, union_r, union_empty_l, union_empty_r}
use Rattle.meaning.proofs.Widths.{length_joined, length_start_sets}

-- Variable x of n is set, and it is variable i.
abbrev hits : ℕ → ℕ → ℕ → Bool
hits x i n = eqb i x && ltb x n

pub get_d_set : {A : Type 0} (l : List A) (x i : ℕ) (a d : A) → get_or (set l x a) i d ≡ cond (hits x i (length l)) a (get_or l i d)
get_d_set {A = A} l x i a d = go (eqb i x) (ltb x (length l)) refl refl
  where
    go : (s t : Bool) → eqb i x ≡ s → ltb x (length l) ≡ t → get_or (set l x a) i d ≡ cond (s && t) a (get_or l i d)
    go true true e f = rw (eqb-true i x e) (get_or-set_same l x a d (ltb-true _ _ f))
    go true false e f = rw (set_out l x a (ltb-false _ _ f)) refl
    go false t e f = get_or-set_other l x i a d (eqb-false i x e)

-- Each set of the first lies in the second's at the same place.
pub record Under (Γ Δ : List ℕ) : Type 0 where
  pub sub : (i : ℕ) → get_or Γ i empty ⊆ get_or Δ i empty
  pub wide : length Γ ≡ length Δ

pub under_refl : (Γ : List ℕ) → Under Γ Γ
under_refl Γ = record { sub = λ i. sub_refl _; wide = refl }

-- Two stores are equal at each variable whose set lies in X.
pub record Agree (X : ℕ) (Γ ρ θ : List ℕ) : Type 0 where
  pub on : (i : ℕ) → get_or Γ i empty ⊆ X → get_or ρ i 0 ≡ get_or θ i 0
  pub wide_l : length ρ ≡ length Γ
  pub wide_r : length θ ≡ length Γ

-- From ρ to ρ' no variable changes whose set after it, in Δ, lies in X; and its set before, in Γ, lay in X.
pub record Kept (X : ℕ) (Γ Δ ρ ρ' : List ℕ) : Type 0 where
  pub before : (i : ℕ) → get_or Δ i empty ⊆ X → get_or Γ i empty ⊆ X
  pub on : (i : ℕ) → get_or Δ i empty ⊆ X → get_or ρ i 0 ≡ get_or ρ' i 0
  pub wide : length Δ ≡ length Γ
  pub store : length ρ' ≡ length ρ

-- After an if each variable has the union of its sets.
pub joined_at : (Γ Δ : List ℕ) (i : ℕ) → get_or (joined union Γ Δ) i empty ≡ union (get_or Γ i empty) (get_or Δ i empty)
unfolding joined
joined_at [] Δ i = sym (union_empty_l _)
joined_at (s ∷ Γ) [] i = sym (union_empty_r _)
joined_at (s ∷ Γ) (t ∷ Δ) zero = refl
joined_at (s ∷ Γ) (t ∷ Δ) (suc i) = joined_at Γ Δ i

pub under_joined_l : (Γ Δ : List ℕ) → length Γ ≡ length Δ → Under Γ (joined union Γ Δ)
under_joined_l Γ Δ e = record { sub = λ i. rw joined_at (union_l _ _); wide = sym (length_joined union Γ Δ e) }

pub under_joined_r : (Γ Δ : List ℕ) → length Γ ≡ length Δ → Under Δ (joined union Γ Δ)
under_joined_r Γ Δ e = record { sub = λ i. rw joined_at (union_r _ _); wide = sym e ∙ sym (length_joined union Γ Δ e) }

-- What arrives at a loop lies below its row.
pub under_row : (σ : List ℕ) (w k : ℕ) {Γ : List ℕ} → length Γ ≡ w → Arrives σ w k Γ → Under Γ (row (by_sets σ w) k)
unfolding Arrives row
under_row σ w k {Γ} e a = record { sub = λ i. place i (ltb i w) refl; wide = e ∙ sym (length_each w _) }
  where
    place : (i : ℕ) (t : Bool) → ltb i w ≡ t → get_or Γ i empty ⊆ get_or (row (by_sets σ w) k) i empty
    place i true h = rw (get_or_each w (λ i. at σ (k + i)) i empty (ltb-true _ _ h)) (a i (ltb-true _ _ h))
    place i false h = rw (get_or-eq_default Γ empty {n = i} (omega (arith, ltb-false i w h))) (empty_sub _)

-- Agreement.
pub agree_nil : (X : ℕ) → Agree X [] [] []
agree_nil X = record { on = λ i h. refl; wide_l = refl; wide_r = refl }

pub agree_cons : {X s v u : ℕ} {Γ ρ θ : List ℕ} → (s ⊆ X → v ≡ u) → Agree X Γ ρ θ → Agree X (s ∷ Γ) (v ∷ ρ) (u ∷ θ)
agree_cons {X} {s} {v} {u} {Γ} {ρ} {θ} h ag = record { on = place; wide_l = ap suc ag.wide_l; wide_r = ap suc ag.wide_r }
  where
    place : (i : ℕ) → get_or (s ∷ Γ) i empty ⊆ X → get_or (v ∷ ρ) i 0 ≡ get_or (u ∷ θ) i 0
    place zero = h
    place (suc i) = ag.on i

pub agree_under : {X : ℕ} {Γ Δ ρ θ : List ℕ} → Under Γ Δ → Agree X Γ ρ θ → Agree X Δ ρ θ
agree_under b ag =
    record { on = λ i h. ag.on i (sub_trans (b.sub i) h); wide_l = ag.wide_l ∙ b.wide; wide_r = ag.wide_r ∙ b.wide }

pub agree_set : {X : ℕ} {Γ ρ θ : List ℕ} (x s v u : ℕ) → (s ⊆ X → v ≡ u) → Agree X Γ ρ θ → Agree X (set Γ x s) (set ρ x v) (set θ x u)
agree_set {X} {Γ} {ρ} {θ} x s v u h ag =
    record {
      on = λ i. simp (get_d_set, ag.wide_l, ag.wide_r) (place i (hits x i (length Γ)));
      wide_l = length-set ρ x v ∙ ag.wide_l ∙ sym (length-set Γ x s);
      wide_r = length-set θ x u ∙ ag.wide_r ∙ sym (length-set Γ x s);
    }
  where
    place : (i : ℕ) (t : Bool) → cond t s (get_or Γ i empty) ⊆ X → cond t v (get_or ρ i 0) ≡ cond t u (get_or θ i 0)
    place i true = h
    place i false = ag.on i

-- What is kept on both sides still agrees.
pub agree_kept : {X : ℕ} {Γ Δ ρ θ ρ' θ' : List ℕ} → Agree X Γ ρ θ → Kept X Γ Δ ρ ρ' → Kept X Γ Δ θ θ' → Agree X Δ ρ' θ'
agree_kept ag k l =
    record {
      on = λ i h. sym (k.on i h) ∙ ag.on i (k.before i h) ∙ l.on i h;
      wide_l = k.store ∙ ag.wide_l ∙ sym k.wide;
      wide_r = l.store ∙ ag.wide_r ∙ sym l.wide;
    }

-- Keeping.
pub kept_still : {X : ℕ} {Γ Δ : List ℕ} (ρ : List ℕ) → Under Γ Δ → Kept X Γ Δ ρ ρ
kept_still ρ b = record { before = λ i h. sub_trans (b.sub i) h; on = λ i h. refl; wide = sym b.wide; store = refl }

pub kept_trans : {X : ℕ} {Γ Δ Ε ρ ρ' ρ'' : List ℕ} → Kept X Γ Δ ρ ρ' → Kept X Δ Ε ρ' ρ'' → Kept X Γ Ε ρ ρ''
kept_trans k l =
    record {
      before = λ i h. k.before i (l.before i h);
      on = λ i h. k.on i (l.before i h) ∙ l.on i h;
      wide = l.wide ∙ k.wide;
      store = l.store ∙ k.store;
    }

pub kept_under : {X : ℕ} {Γ Δ Ε ρ ρ' : List ℕ} → Kept X Γ Δ ρ ρ' → Under Δ Ε → Kept X Γ Ε ρ ρ'
kept_under k b = kept_trans k (kept_still _ b)

-- A variable that is set under a guard outside X has a set outside X.
pub kept_set : {X : ℕ} (Γ ρ : List ℕ) (x s v : ℕ) → (s ⊆ X → ⊥) → length ρ ≡ length Γ → Kept X Γ (set Γ x s) ρ (set ρ x v)
kept_set {X} Γ ρ x s v high e =
    record {
      before = λ i. rw get_d_set (before i (hits x i (length Γ)));
      on = λ i. simp (get_d_set, e) (place i (hits x i (length Γ)));
      wide = length-set Γ x s;
      store = length-set ρ x v;
    }
  where
    before : (i : ℕ) (t : Bool) → cond t s (get_or Γ i empty) ⊆ X → get_or Γ i empty ⊆ X
    before i true h = absurd (high h)
    before i false h = h

    place : (i : ℕ) (t : Bool) → cond t s (get_or Γ i empty) ⊆ X → get_or ρ i 0 ≡ cond t v (get_or ρ i 0)
    place i true h = absurd (high h)
    place i false h = refl

length_start : (q : Procedure) (vs : List ℕ) → length vs ≡ q.parameters → length (start q vs) ≡ variables q
length_start q vs a = simp (length-append, length-replicate, a) refl

get_d_past : {A : Type 0} (l l' : List A) (i : ℕ) (d : A) → length l ≤ i → get_or (l ++ l') i d ≡ get_or l' (i - length l) d
get_d_past l l' i d h = ap (λ k. get_or (l ++ l') k d) (omega arith) ∙ get_or-append-add l l' (i - length l) d

-- Parameters start with their own sets, and locals start equal.
pub starts : (q : Procedure) (X : ℕ) (vs us : List ℕ) → length vs ≡ q.parameters → length us ≡ q.parameters →
    ((i : ℕ) → member i X ≡ true → get_or vs i 0 ≡ get_or us i 0) → Agree X (start_sets q) (start q vs) (start q us)
unfolding start_sets
starts q X vs us a c h =
    record {
      on = λ i. place i (ltb i q.parameters) refl;
      wide_l = length_start q vs a ∙ sym (length_start_sets q);
      wide_r = length_start q us c ∙ sym (length_start_sets q);
    }
  where
    place : (i : ℕ) (t : Bool) → ltb i q.parameters ≡ t → get_or (start_sets q) i empty ⊆ X → get_or (start q vs) i 0 ≡ get_or (start q us) i 0
    place i true l s =
        let k : i < q.parameters = ltb-true _ _ l in
        get_or-append vs _ 0 i (omega arith) ∙ h i (s.each i own) ∙ sym (get_or-append us _ 0 i (omega arith))
      where
        own : member i (get_or (start_sets q) i empty) ≡ true
        own =
            rw (
              get_or-append (each q.parameters single) (replicate q.locals empty) empty i (rw length_each (ltb-true _ _ l)),
              get_or_each q.parameters single i empty (ltb-true _ _ l),
              member_single i i,
            ) (eq-eqb i i refl)
    place i false l s =
        let k : q.parameters ≤ i = ltb-false _ _ l in
        get_d_past vs _ i 0 (omega arith) ∙ rw (a, c) refl ∙ sym (get_d_past us _ i 0 (omega arith))
