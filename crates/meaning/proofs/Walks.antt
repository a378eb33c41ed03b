-- Two walks of one tree by related sets: what they need is related too, and stands where the tree's rows stand.
-- Monotonicity, 'every place exists' and 'the full summary satisfies the rules' are uses of it.
use mathlib.Core.Path.{◌≡◌, refl, subst}
use mathlib.Core.List.{List}
use Prim.Native.Nat.{ℕ, ◌+◌, ◌<◌}
use lib.ListN.{get_or}
use Rattle.meaning.specs.Lists.{each}
use Rattle.meaning.specs.Tree.{Expr, Args, Cmd, Run, Closing}
use Rattle.meaning.specs.Tree.{constant, variable, operation, call, nil, arg, assign, branch, loop, stop, then, first, give, pick}
use Rattle.meaning.specs.Flow.{Walk, Need, row, arriving, joined, flow, flows, after, afters, needs, needs_in, ends}
use Rattle.meaning.proofs.Pairs.{Pairs, done, also, pairs_append, pairs_each, pairs_get_or, pairs_set}

-- Every loop's row stands at a place k with Q k.
unfoldable mutual
  pub Stands : Cmd → (ℕ → Type 0) → Type 0
  Stands (assign x e) Q = Unit {0}
  Stands (branch e s t) Q = StandsIn s Q × StandsIn t Q
  Stands (loop k e s) Q = Q k × StandsIn s Q

  pub StandsIn : Run → (ℕ → Type 0) → Type 0
  StandsIn stop Q = Unit {0}
  StandsIn (then c s) Q = Stands c Q × StandsIn s Q

unfoldable pub StandsOf : Closing → (ℕ → Type 0) → Type 0
StandsOf (first c r) Q = Stands c Q × StandsOf r Q
StandsOf (give e) Q = Unit {0}
StandsOf (pick e c d) Q = StandsOf c Q × StandsOf d Q

-- Every procedure called has C.
unfoldable mutual
  pub Calls : Expr → (ℕ → Type 0) → Type 0
  Calls (constant c) C = Unit {0}
  Calls (variable x) C = Unit {0}
  Calls (operation o a b) C = Calls a C × Calls b C
  Calls (call p es) C = C p × CallsArgs es C

  pub CallsArgs : Args → (ℕ → Type 0) → Type 0
  CallsArgs nil C = Unit {0}
  CallsArgs (arg e es) C = Calls e C × CallsArgs es C

unfoldable mutual
  pub CallsBy : Cmd → (ℕ → Type 0) → Type 0
  CallsBy (assign x e) C = Calls e C
  CallsBy (branch e s t) C = Calls e C × CallsIn s C × CallsIn t C
  CallsBy (loop k e s) C = Calls e C × CallsIn s C

  pub CallsIn : Run → (ℕ → Type 0) → Type 0
  CallsIn stop C = Unit {0}
  CallsIn (then c s) C = CallsBy c C × CallsIn s C

unfoldable pub CallsOf : Closing → (ℕ → Type 0) → Type 0
CallsOf (first c r) C = CallsBy c C × CallsOf r C
CallsOf (give e) C = Calls e C
CallsOf (pick e c d) C = Calls e C × CallsOf c C × CallsOf d C

-- Any larger set holds the procedures called too.
module _ {C D : ℕ → Type 0} (f : (p : ℕ) → C p → D p) where
  mutual
    unfolding Calls CallsArgs

    calls_mono : (e : Expr) → Calls e C → Calls e D
    calls_mono (constant c) h = tt
    calls_mono (variable x) h = tt
    calls_mono (operation o a b) h = (calls_mono a h.0, calls_mono b h.1)
    calls_mono (call p es) h = (f p h.0, calls_mono_args es h.1)

    calls_mono_args : (es : Args) → CallsArgs es C → CallsArgs es D
    calls_mono_args nil h = tt
    calls_mono_args (arg e es) h = (calls_mono e h.0, calls_mono_args es h.1)

  mutual
    unfolding CallsBy CallsIn

    calls_mono_by : (c : Cmd) → CallsBy c C → CallsBy c D
    calls_mono_by (assign x e) h = calls_mono e h
    calls_mono_by (branch e s t) h = (calls_mono e h.0, calls_mono_in s h.1, calls_mono_in t h.2)
    calls_mono_by (loop k e s) h = (calls_mono e h.0, calls_mono_in s h.1)

    calls_mono_in : (s : Run) → CallsIn s C → CallsIn s D
    calls_mono_in stop h = tt
    calls_mono_in (then c s) h = (calls_mono_by c h.0, calls_mono_in s h.1)

  pub calls_mono_of : (r : Closing) → CallsOf r C → CallsOf r D
  unfolding CallsOf
  calls_mono_of (first c r) h = (calls_mono_by c h.0, calls_mono_of r h.1)
  calls_mono_of (give e) h = calls_mono e h
  calls_mono_of (pick e c d) h = (calls_mono e h.0, calls_mono_of c h.1, calls_mono_of d h.2)

-- What every procedure has, every procedure called has.
module _ {C : ℕ → Type 0} (h : (p : ℕ) → C p) where
  mutual
    unfolding Calls CallsArgs

    calls_all : (e : Expr) → Calls e C
    calls_all (constant c) = tt
    calls_all (variable x) = tt
    calls_all (operation o a b) = (calls_all a, calls_all b)
    calls_all (call p es) = (h p, calls_all_args es)

    calls_all_args : (es : Args) → CallsArgs es C
    calls_all_args nil = tt
    calls_all_args (arg e es) = (calls_all e, calls_all_args es)

  mutual
    unfolding CallsBy CallsIn

    calls_all_by : (c : Cmd) → CallsBy c C
    calls_all_by (assign x e) = calls_all e
    calls_all_by (branch e s t) = (calls_all e, calls_all_in s, calls_all_in t)
    calls_all_by (loop k e s) = (calls_all e, calls_all_in s)

    calls_all_in : (s : Run) → CallsIn s C
    calls_all_in stop = tt
    calls_all_in (then c s) = (calls_all_by c, calls_all_in s)

  pub calls_all_of : (r : Closing) → CallsOf r C
  unfolding CallsOf
  calls_all_of (first c r) = (calls_all_by c, calls_all_of r)
  calls_all_of (give e) = calls_all e
  calls_all_of (pick e c d) = (calls_all e, calls_all_of c, calls_all_of d)

-- Two walks that go by related sets, where P holds of the places of a row, and C of the procedures called.
pub record Alike {A B : Type 0} (R : A → B → Type 0) (Q P C : ℕ → Type 0) (W : Walk A) (U : Walk B) : Type 0 where
  pub none : R W.none U.none
  pub join : {a c : A} {b d : B} → R a b → R c d → R (W.join a c) (U.join b d)
  pub called : (p : ℕ) → C p → {s : List A} {t : List B} → Pairs R s t → R (W.called p s) (U.called p t)
  pub held : (k : ℕ) → Q k → (i : ℕ) → i < W.width → R (W.held (k + i)) (U.held (k + i))
  pub width : W.width ≡ U.width
  pub row_places : (k : ℕ) → Q k → (i : ℕ) → i < W.width → P (k + i)

-- Two needs at one place, which has P, with related sets.
pub record Asked {A B : Type 0} (R : A → B → Type 0) (P : ℕ → Type 0) (d : Need A) (e : Need B) : Type 0 where
  pub same_place : d.place ≡ e.place
  pub stands : P d.place
  pub related : R d.needed e.needed

module _ {A B : Type 0} {R : A → B → Type 0} {Q P C : ℕ → Type 0} {W : Walk A} {U : Walk B} (𝓐 : Alike R Q P C W U) where
  mutual
    unfolding flow flows Calls CallsArgs

    pub walk_flow : (e : Expr) → Calls e C → {Γ : List A} {Δ : List B} → Pairs R Γ Δ → R (flow e W Γ) (flow e U Δ)
    walk_flow (constant c) k h = 𝓐.none
    walk_flow (variable x) k h = pairs_get_or h x 𝓐.none
    walk_flow (operation o a b) k h = 𝓐.join (walk_flow a k.0 h) (walk_flow b k.1 h)
    walk_flow (call p es) k h = 𝓐.called p k.0 (walk_flows es k.1 h)

    pub walk_flows : (es : Args) → CallsArgs es C → {Γ : List A} {Δ : List B} → Pairs R Γ Δ → Pairs R (flows es W Γ) (flows es U Δ)
    walk_flows nil k h = done
    walk_flows (arg e es) k h = also (walk_flow e k.0 h) (walk_flows es k.1 h)

  -- Rows and unions of related sets are related.
  walk_row : (k : ℕ) → Q k → Pairs R (row W k) (row U k)
  unfolding row
  walk_row k q =
      subst (λ n. Pairs R (each W.width λ i. W.held (k + i)) (each n λ i. U.held (k + i))) 𝓐.width
      (pairs_each W.width (λ i. W.held (k + i)) (λ i. U.held (k + i)) (𝓐.held k q))

  walk_joined : {Γ Γ' : List A} {Δ Δ' : List B} → Pairs R Γ Δ → Pairs R Γ' Δ' → Pairs R (joined W.join Γ Γ') (joined U.join Δ Δ')
  unfolding joined
  walk_joined done q = q
  walk_joined (also x p) done = also x p
  walk_joined (also x p) (also y q) = also (𝓐.join x y) (walk_joined p q)

  mutual
    unfolding after afters Stands StandsIn CallsBy CallsIn

    pub walk_after : (c : Cmd) → Stands c Q → CallsBy c C → {Γ : List A} {Δ : List B} {g : A} {h : B} → Pairs R Γ Δ → R g h →
        Pairs R (after c W Γ g) (after c U Δ h)
    walk_after (assign x e) k l p r = pairs_set p x (𝓐.join (walk_flow e l p) r)
    walk_after (branch e s t) k l p r =
        let guard = 𝓐.join r (walk_flow e l.0 p) in
        walk_joined (walk_afters s k.0 l.1 p guard) (walk_afters t k.1 l.2 p guard)
    walk_after (loop k e s) q l p r = walk_row k q.0

    pub walk_afters : (s : Run) → StandsIn s Q → CallsIn s C → {Γ : List A} {Δ : List B} {g : A} {h : B} → Pairs R Γ Δ → R g h →
        Pairs R (afters s W Γ g) (afters s U Δ h)
    walk_afters stop k l p r = p
    walk_afters (then c s) k l p r = walk_afters s k.1 l.1 (walk_after c k.0 l.0 p r) r

  walk_arriving : (k : ℕ) → Q k → {Γ : List A} {Δ : List B} → Pairs R Γ Δ → Pairs (Asked R P) (arriving W k Γ) (arriving U k Δ)
  unfolding arriving
  walk_arriving k q {Γ} {Δ} p =
      subst (λ n. Pairs (Asked R P) (arriving W k Γ) (each n λ i. record { place = k + i; needed = get_or Δ i U.none })) 𝓐.width
      (pairs_each W.width (λ i. record { place = k + i; needed = get_or Γ i W.none })
      (λ i. record { place = k + i; needed = get_or Δ i U.none })
      (λ i l. record { same_place = refl; stands = 𝓐.row_places k q i l; related = pairs_get_or p i 𝓐.none }))

  mutual
    unfolding needs needs_in Stands StandsIn CallsBy CallsIn

    pub walk_needs : (c : Cmd) → Stands c Q → CallsBy c C → {Γ : List A} {Δ : List B} {g : A} {h : B} → Pairs R Γ Δ → R g h →
        Pairs (Asked R P) (needs c W Γ g) (needs c U Δ h)
    walk_needs (assign x e) k l p r = done
    walk_needs (branch e s t) k l p r =
        let guard = 𝓐.join r (walk_flow e l.0 p) in
        pairs_append (walk_needs_in s k.0 l.1 p guard) (walk_needs_in t k.1 l.2 p guard)
    walk_needs (loop k e s) q l p r =
        let guard = 𝓐.join r (walk_flow e l.0 (walk_row k q.0)) in
        pairs_append (walk_arriving k q.0 p)
        (pairs_append (walk_needs_in s q.1 l.1 (walk_row k q.0) guard)
        (walk_arriving k q.0 (walk_afters s q.1 l.1 (walk_row k q.0) guard)))

    pub walk_needs_in : (s : Run) → StandsIn s Q → CallsIn s C → {Γ : List A} {Δ : List B} {g : A} {h : B} → Pairs R Γ Δ → R g h →
        Pairs (Asked R P) (needs_in s W Γ g) (needs_in s U Δ h)
    walk_needs_in stop k l p r = done
    walk_needs_in (then c s) k l p r =
        pairs_append (walk_needs c k.0 l.0 p r) (walk_needs_in s k.1 l.1 (walk_after c k.0 l.0 p r) r)

  pub walk_ends : (c : Closing) (p : ℕ) → P p → StandsOf c Q → CallsOf c C → {Γ : List A} {Δ : List B} {g : A} {h : B} → Pairs R Γ Δ → R g h →
      Pairs (Asked R P) (ends c W p Γ g) (ends c U p Δ h)
  unfolding ends StandsOf CallsOf
  walk_ends (first c t) p k q l s r =
      pairs_append (walk_needs c q.0 l.0 s r) (walk_ends t p k q.1 l.1 (walk_after c q.0 l.0 s r) r)
  walk_ends (give e) p k q l s r = also (record { same_place = refl; stands = k; related = 𝓐.join (walk_flow e l s) r }) done
  walk_ends (pick e c d) p k q l s r =
      let guard = 𝓐.join r (walk_flow e l.0 s) in
      pairs_append (walk_ends c p k q.0 l.1 s guard) (walk_ends d p k q.1 l.2 s guard)
