-- Non-interference on the tree: inputs that are equal on a satisfying summary's result set give equal values.
use mathlib.Core.Path.{◌≡◌, refl, sym, ◌∙◌}
use mathlib.Core.Bool.{Bool, true, false, true≢false}
use mathlib.Core.List.{List}
use mathlib.Core.Option.{Option, some, none}
use Prim.Native.Nat.{ℕ, zero, suc}
use lib.Dec.{ltb}
use lib.ListN.{length, get_or, get_elem?, get_or-eq_default}
use borrow.Author.Tests.{ltb-true, ltb-false}
use Rattle.meaning.specs.Sets.{empty, member, inside, gather, ◌⊆◌}
use Rattle.meaning.specs.Tree.{Expr, Args, Cmd, Run, Closing, Procedure, Book, variables}
use Rattle.meaning.specs.Tree.{constant, variable, operation, call, nil, arg, assign, branch, loop, stop, then, first, give, pick}
use Rattle.meaning.specs.Running.{Callee, Out, operate, value, values, turns, act, acts, finish, runs}
use Rattle.meaning.specs.Flow.{Walk, at, by_sets, flow, flows, after, afters, row}
use Rattle.meaning.specs.Promises.{Rows, RowsIn, Returns, Satisfies}
use Rattle.meaning.proofs.Sets.{inside_sound, inside_complete, sub_refl, sub_trans, empty_sub, union_l, union_r, sub_l, sub_r, gather_has}
use Rattle.meaning.proofs.Outcomes.{Post, Weak, halted_l, post_yield, post_tick, post_bind, post_choose, post_mono, post_any, post_turns}
use Rattle.meaning.proofs.Outcomes.{weak_yield, weak_tick, weak_bind, weak_choose, weak_mono, weak_apart, weak_when, weak_operate, weak_turns}
use Rattle.meaning.proofs.Agree.{Under, Agree, Kept, under_refl, under_joined_l, under_joined_r, under_row, starts}
use Rattle.meaning.proofs.Widths.{length_row, length_flows, length_after, length_afters, length_start_sets}
use Rattle.meaning.proofs.Agree.{agree_nil, agree_cons, agree_under, agree_set, agree_kept, kept_still, kept_trans, kept_under, kept_set}
use Rattle.meaning.proofs.Calls.{Fitting, arity_at, Fits, FitArgs, FitCmd, FitRun, FitClosing, arity}

-- All that a body's proof asks of the procedures it calls: arguments equal on the result set give equal values.
pub record Answers (σ ar : List ℕ) (f : Callee) : Type 0 where
  pub same : (p : ℕ) (vs us : List ℕ) (n m : ℕ) → length vs ≡ get_or ar p 0 → length us ≡ get_or ar p 0 →
      ((i : ℕ) → member i (at σ p) ≡ true → get_or vs i 0 ≡ get_or us i 0) → Weak (λ v u. v ≡ u) (f p vs n) (f p us m)

-- A set lies in X or not, by the test.
pub lies : (a X : ℕ) → Dec (a ⊆ X)
lies a X = go (inside a X) refl
  where
    go : (t : Bool) → inside a X ≡ t → Dec (a ⊆ X)
    go true e = yes (inside_sound a X e)
    go false e = no λ h. true≢false (sym (inside_complete a X h) ∙ e)

-- Every chosen set lies in what is gathered, also past the last.
pub gather_any : (S : ℕ) (sets : List ℕ) (i : ℕ) → member i S ≡ true → get_or sets i empty ⊆ gather S sets
gather_any S sets i m = go (ltb i (length sets)) refl
  where
    go : (t : Bool) → ltb i (length sets) ≡ t → get_or sets i empty ⊆ gather S sets
    go true h = gather_has S sets i (ltb-true _ _ h) m
    go false h = rw (get_or-eq_default sets empty {n = i} (ltb-false i (length sets) h)) (empty_sub _)

-- The guard under which a command sets variables.
unfoldable pub inner : {A : Type 0} → Cmd → Walk A → List A → A → A
inner (assign x e) W Γ g = W.join (flow e W Γ) g
inner (branch e s t) W Γ g = W.join g (flow e W Γ)
inner (loop k e s) W Γ g = W.join g (flow e W (row W k))

inner_guard : (c : Cmd) (σ : List ℕ) (w : ℕ) (Γ : List ℕ) (g : ℕ) → g ⊆ inner c (by_sets σ w) Γ g
unfolding inner
inner_guard (assign x e) σ w Γ g = union_r _ g
inner_guard (branch e s t) σ w Γ g = union_l g _
inner_guard (loop k e s) σ w Γ g = union_l g _

module _ (σ : List ℕ) (w X : ℕ) (f : Callee) where
  -- A loop keeps what each turn of its body keeps.
  pub keeps_turns : (test : List ℕ → ℕ → Out ℕ) (turn : List ℕ → ℕ → Out (List ℕ)) {Γ Δ : List ℕ} → Under Δ Γ →
      ((ρ : List ℕ) (n : ℕ) → length ρ ≡ w → Post (Kept X Γ Δ ρ) (turn ρ n)) →
      (k : ℕ) (ρ : List ℕ) (n : ℕ) → length ρ ≡ w → Post (Kept X Γ Γ ρ) (turns test turn k ρ n)
  keeps_turns test turn {Γ} under body k ρ n b =
      post_turns test turn {I = Kept X Γ Γ ρ}
      (λ ρ' n h. post_mono (λ ρ'' l. kept_trans h (kept_under l under)) (body ρ' n (h.store ∙ b)))
      k ρ n (kept_still ρ (under_refl Γ))

  -- A command under a guard outside X changes no variable whose set after it lies in X.
  mutual
    unfolding inner Rows RowsIn after afters act acts

    pub keeps : (c : Cmd) (Γ ρ : List ℕ) (g n : ℕ) → (inner c (by_sets σ w) Γ g ⊆ X → ⊥) → Rows c σ w Γ g → length Γ ≡ w → length ρ ≡ w →
        Post (Kept X Γ (after c (by_sets σ w) Γ g) ρ) (act c f ρ n)
    keeps (assign x e) Γ ρ g n high rows a b =
        post_tick n λ n. post_bind (post_any (value e f ρ n)) λ v n t.
        post_yield _ n (kept_set Γ ρ x _ v high (b ∙ sym a))
    keeps (branch e s t) Γ ρ g n high rows a b =
        let even = length_afters (by_sets σ w) s Γ _ a ∙ sym (length_afters (by_sets σ w) t Γ (inner (branch e s t) (by_sets σ w) Γ g) a) in
        post_tick n λ n. post_bind (post_any (value e f ρ n)) λ v n u.
        post_choose v n
        (λ n. post_mono (λ ρ' k. kept_under k (under_joined_l _ _ even)) (keeps_in s Γ ρ _ n high rows.0 a b))
        (λ n. post_mono (λ ρ' k. kept_under k (under_joined_r _ _ even)) (keeps_in t Γ ρ _ n high rows.1 a b))
    keeps (loop k e s) Γ ρ g n high rows a b =
        let r = length_row (by_sets σ w) k in
        post_mono (λ ρ' h. kept_trans (kept_still ρ (under_row σ w k a rows.0)) h)
        (keeps_turns _ _ (under_row σ w k (length_afters (by_sets σ w) s _ _ r) rows.2) (λ ρ n b. keeps_in s _ ρ _ n high rows.1 r b) (suc n) ρ n b)

    pub keeps_in : (s : Run) (Γ ρ : List ℕ) (g n : ℕ) → (g ⊆ X → ⊥) → RowsIn s σ w Γ g → length Γ ≡ w → length ρ ≡ w →
        Post (Kept X Γ (afters s (by_sets σ w) Γ g) ρ) (acts s f ρ n)
    keeps_in stop Γ ρ g n high rows a b = post_yield ρ n (kept_still ρ (under_refl Γ))
    keeps_in (then c s) Γ ρ g n high rows a b =
        post_bind (keeps c Γ ρ g n (λ h. high (sub_trans (inner_guard c σ w Γ g) h)) rows.0 a b) λ ρ' n k.
        post_mono (λ ρ'' l. kept_trans k l) (keeps_in s _ ρ' g n high rows.1 (length_after (by_sets σ w) c Γ g a) (k.store ∙ b))

  -- Under a guard outside X nothing is asked of the way that two runs take.
  apart : (c : Cmd) {Γ ρ θ : List ℕ} (g n m : ℕ) → (inner c (by_sets σ w) Γ g ⊆ X → ⊥) → Rows c σ w Γ g → length Γ ≡ w → Agree X Γ ρ θ →
      Weak (Agree X (after c (by_sets σ w) Γ g)) (act c f ρ n) (act c f θ m)
  apart c {Γ} {ρ} {θ} g n m high rows a ag =
      weak_apart (keeps c Γ ρ g n high rows a (ag.wide_l ∙ a)) (keeps c Γ θ g m high rows a (ag.wide_r ∙ a)) λ ρ' θ' k l. agree_kept ag k l

  -- The guard at a return lies in the result set.
  pub guarded : (r : Closing) (Γ : List ℕ) (p g : ℕ) → Returns r σ w p Γ g → g ⊆ at σ p
  unfolding Returns
  guarded (first c r) Γ p g h = guarded r _ p g h.1
  guarded (give e) Γ p g h = sub_r _ _ h
  guarded (pick e c d) Γ p g h = sub_l _ _ (guarded c Γ p _ h.0)

  module _ (ar : List ℕ) (calls : Answers σ ar f) where
    -- Expressions: equal wherever the set lies in X.
    mutual
      unfolding Fits FitArgs flow flows value values

      pub same : (e : Expr) {Γ ρ θ : List ℕ} → Fits e ar → Agree X Γ ρ θ → (n m : ℕ) →
          Weak (λ v u. flow e (by_sets σ w) Γ ⊆ X → v ≡ u) (value e f ρ n) (value e f θ m)
      same (constant c) fit ag n m = weak_tick n m λ n m. weak_yield c c n m λ h. refl
      same (variable x) fit ag n m = weak_tick n m λ n m. weak_yield _ _ n m λ h. ag.on x h
      same (operation o a b) fit ag n m =
          weak_tick n m λ n m.
          weak_bind (same a fit.0 ag n m) λ v v' n m hv.
          weak_bind (same b fit.1 ag n m) λ u u' n m hu.
          weak_when (operate o v u n) (operate o v' u' m) λ h. rw (hv (sub_l _ _ h), hu (sub_r _ _ h)) (weak_operate o v' u' n m)
      same (call p es) fit ag n m =
          weak_tick n m λ n m.
          weak_bind (sames es fit.1 ag n m) λ vs us n m h.
          weak_when (f p vs n) (f p us m) λ s.
          calls.same p vs us n m (h.wide_l ∙ length_flows (by_sets σ w) es _ ∙ fit.0) (h.wide_r ∙ length_flows (by_sets σ w) es _ ∙ fit.0)
          λ i has. h.on i (sub_trans (gather_any (at σ p) _ i has) s)

      pub sames : (es : Args) {Γ ρ θ : List ℕ} → FitArgs es ar → Agree X Γ ρ θ → (n m : ℕ) →
          Weak (Agree X (flows es (by_sets σ w) Γ)) (values es f ρ n) (values es f θ m)
      sames nil fit ag n m = weak_yield _ _ n m (agree_nil X)
      sames (arg e es) fit ag n m =
          weak_bind (same e fit.0 ag n m) λ v u n m h.
          weak_bind (sames es fit.1 ag n m) λ vs us n m hs.
          weak_yield _ _ n m (agree_cons h hs)

    -- Two runs of a command keep agreeing: they go the same way, or what differs lies outside X.
    mutual
      unfolding inner Rows RowsIn FitCmd FitRun after afters act acts

      pub agrees : (c : Cmd) {Γ ρ θ : List ℕ} (g n m : ℕ) → FitCmd c ar → Rows c σ w Γ g → length Γ ≡ w → Agree X Γ ρ θ →
          Weak (Agree X (after c (by_sets σ w) Γ g)) (act c f ρ n) (act c f θ m)
      agrees (assign x e) g n m fit rows a ag =
          weak_tick n m λ n m. weak_bind (same e fit ag n m) λ v u n m h.
          weak_yield _ _ n m (agree_set x _ v u (λ s. h (sub_l _ _ s)) ag)
      agrees (branch e s t) {Γ} {ρ} {θ} g n m fit rows a ag =
          let even = length_afters (by_sets σ w) s Γ _ a ∙ sym (length_afters (by_sets σ w) t Γ (inner (branch e s t) (by_sets σ w) Γ g) a) in
          elim (lies (flow e (by_sets σ w) Γ) X) [
            | no high ↦ apart (branch e s t) g n m (λ h. high (sub_r _ _ h)) rows a ag
            | yes low ↦
                weak_tick n m λ n m. weak_bind (same e fit.0 ag n m) λ v u n m h.
                weak_choose v u n m (h low)
                (λ n m. weak_mono (λ ρ' θ' ag. agree_under (under_joined_l _ _ even) ag) (agrees_in s _ n m fit.1 rows.0 a ag))
                (λ n m. weak_mono (λ ρ' θ' ag. agree_under (under_joined_r _ _ even) ag) (agrees_in t _ n m fit.2 rows.1 a ag))
          ]
      agrees (loop k e s) {Γ} {ρ} {θ} g n m fit rows a ag =
          let r = length_row (by_sets σ w) k in
          elim (lies (flow e (by_sets σ w) (row (by_sets σ w) k)) X) [
            | no high ↦ apart (loop k e s) g n m (λ h. high (sub_r _ _ h)) rows a ag
            | yes low ↦
                weak_turns _ _ {I = Agree X (row (by_sets σ w) k)}
                (λ ρ θ n m ag. weak_mono (λ v u h. h low) (same e fit.0 ag n m))
                (λ ρ θ n m ag. weak_mono (λ ρ' θ' ag. agree_under (under_row σ w k (length_afters (by_sets σ w) s _ _ r) rows.2) ag) (agrees_in s _ n m fit.1 rows.1 r ag))
                (suc n) (suc m) ρ θ n m (agree_under (under_row σ w k a rows.0) ag)
          ]

      pub agrees_in : (s : Run) {Γ ρ θ : List ℕ} (g n m : ℕ) → FitRun s ar → RowsIn s σ w Γ g → length Γ ≡ w → Agree X Γ ρ θ →
          Weak (Agree X (afters s (by_sets σ w) Γ g)) (acts s f ρ n) (acts s f θ m)
      agrees_in stop g n m fit rows a ag = weak_yield _ _ n m ag
      agrees_in (then c s) {Γ} g n m fit rows a ag =
          weak_bind (agrees c g n m fit.0 rows.0 a ag) λ ρ θ n m ag.
          agrees_in s g n m fit.1 rows.1 (length_after (by_sets σ w) c Γ g a) ag

    -- Two runs of a closing sequence whose result set lies in X give equal values.
    pub gives : (r : Closing) {Γ ρ θ : List ℕ} (p g n m : ℕ) → at σ p ⊆ X → FitClosing r ar → Returns r σ w p Γ g → length Γ ≡ w → Agree X Γ ρ θ →
        Weak (λ v u. v ≡ u) (finish r f ρ n) (finish r f θ m)
    unfolding FitClosing Returns finish
    gives (first c r) {Γ} p g n m in_x fit h a ag =
        weak_bind (agrees c g n m fit.0 h.0 a ag) λ ρ θ n m ag. gives r p g n m in_x fit.1 h.1 (length_after (by_sets σ w) c Γ g a) ag
    gives (give e) p g n m in_x fit h a ag =
        weak_tick n m λ n m. weak_mono (λ v u k. k (sub_trans (sub_l _ _ h) in_x)) (same e fit ag n m)
    gives (pick e c d) {Γ} p g n m in_x fit h a ag =
        weak_tick n m λ n m. weak_bind (same e fit.0 ag n m) λ v u n m k.
        weak_choose v u n m (k (sub_trans (sub_r g _ (guarded c Γ p _ h.0)) in_x))
        (λ n m. gives c p _ n m in_x fit.1 h.0 a ag)
        (λ n m. gives d p _ n m in_x fit.2 h.1 a ag)

-- All that two runs of a book's procedures need, by the call depth that is left.
module _ (b : Book) (σ : List ℕ) (fits : Fitting b) (ok : Satisfies b σ) where
  answer : (d : ℕ) → Answers σ (arity b) (λ p vs n. runs b d p vs n) → (p : ℕ) (vs us : List ℕ) (n m : ℕ) →
      length vs ≡ get_or (arity b) p 0 → length us ≡ get_or (arity b) p 0 → ((i : ℕ) → member i (at σ p) ≡ true → get_or vs i 0 ≡ get_or us i 0) →
      (o : Option Procedure) → get_elem? b p ≡ o → Weak (λ v u. v ≡ u) (runs b (suc d) p vs n) (runs b (suc d) p us m)
  unfolding runs
  answer d calls p vs us n m a c h none e = rw (e, runs) halted_l
  answer d calls p vs us n m a c h (some q) e =
      let r : get_or (arity b) p 0 ≡ q.parameters = arity_at b p q e in
      rw (e, runs)
      (gives σ (variables q) (at σ p) _ (arity b) calls q.body p empty n m (sub_refl _) (fits.body p q e) (ok.rules p q e)
      (length_start_sets q) (starts q (at σ p) vs us (a ∙ r) (c ∙ r) h))

  pub answers : (d : ℕ) → Answers σ (arity b) (λ p vs n. runs b d p vs n)
  unfolding runs
  answers zero = record { same = λ p vs us n m a c h. halted_l }
  answers (suc d) = record { same = λ p vs us n m a c h. answer d (answers d) p vs us n m a c h (get_elem? b p) refl }
