-- Rounds over any demands that are monotone, placed and topped: they rise to the least summary that meets them, within a bound.
use mathlib.Core.Path.{◌≡◌, sym, ◌∙◌}
use mathlib.Core.Logic.{◌≢◌, ◌⊎◌, inl, inr, ⊎_elim}
use mathlib.Core.Bool.{Bool, true, false}
use mathlib.Core.List.{List}
use Prim.Native.Nat.{ℕ, zero, suc, ◌*◌, ◌≤◌, ◌<◌}
use native.Mathlib.Omega.{arith}
use native.Mathlib.Decide.{dec_le}
use lib.ListN.{length, replicate, length-replicate}
use Rattle.meaning.specs.Sets.{empty, upto, ◌⊆◌}
use Rattle.meaning.specs.Flow.{Need, at, meets, grow}
use Rattle.meaning.proofs.Lists.{Tested, holds_or_fails, below_suc}
use Rattle.meaning.proofs.Sets.{sub_trans, empty_sub}
use Rattle.meaning.proofs.Pairs.{All, Pairs, done, also, all_replicate, all_get_d}
use Rattle.meaning.proofs.Needs.{Below, Met, Placed, meets_complete, length_grow, grow_above, grow_least, still_met}
use Rattle.meaning.proofs.Walks.{Asked}
use Rattle.meaning.proofs.Weights.{weight, below_weight, below_same, weight_bound}

-- What a summary demands, as it stands.
abbrev pub Asks : Type 0
Asks = List ℕ → List (Need ℕ)

-- The same needs at the same places, each within the other.
abbrev pub Fewer : List (Need ℕ) → List (Need ℕ) → Type 0
Fewer = Pairs (Asked ◌⊆◌ (λ k. Unit {0}))

-- Demands on n places whose sets name at most w parameters: a larger summary demands more, each place exists,
-- and one summary, the top, meets its own demands.
pub record Lawful (asks : Asks) (n w : ℕ) : Type 0 where
  pub monotone : (σ τ : List ℕ) → Below σ τ → Fewer (asks σ) (asks τ)
  pub placed : (σ : List ℕ) → length σ ≡ n → All (Placed n) (asks σ)
  pub top : List ℕ
  pub top_length : length top ≡ n
  pub topped : All (Met top) (asks top)
  pub bounded : All (λ s. s ⊆ upto w) top

pub fewer_met : {τ : List ℕ} {ds es : List (Need ℕ)} → Fewer ds es → All (Met τ) es → All (Met τ) ds
fewer_met done h = done
fewer_met {τ} (also {a = d} {b = e} a p) (also m h) =
    also {a = d} (record { lies = rw a.same_place (sub_trans a.related m.lies) }) (fewer_met p h)

-- All sets empty.
abbrev pub nothing : ℕ → List ℕ
nothing n = replicate n empty

pub nothing_below : (n : ℕ) (τ : List ℕ) → Below (nothing n) τ
unfolding at
nothing_below n τ =
    record { on = λ k. all_get_d {P = λ s. s ⊆ at τ k} (all_replicate n empty (empty_sub (at τ k))) k (empty_sub (at τ k)) }

-- The summary after i rounds.
unfoldable pub staged : Asks → ℕ → ℕ → List ℕ
staged asks n zero = nothing n
staged asks n (suc i) = grow (staged asks n i) (asks (staged asks n i))

-- The test holds at m for the first time.
pub record First (f : ℕ → Bool) (m : ℕ) : Type 0 where
  pub holds : f m ≡ true
  pub earlier : (j : ℕ) → j < m → f j ≡ false

-- The test holds at none of the numbers below k, or for the first time at one of them.
first_below : (f : ℕ → Bool) (k : ℕ) → ((j : ℕ) → j < k → f j ≡ false) ⊎ ((m : ℕ) × (m < k) × First f m)
first_below f zero = inl (λ j l. absurd (omega arith))
first_below f (suc k) = go (first_below f k) (holds_or_fails (f k))
  where
    go : ((j : ℕ) → j < k → f j ≡ false) ⊎ ((m : ℕ) × (m < k) × First f m) → Tested (f k)
        → ((j : ℕ) → j < suc k → f j ≡ false) ⊎ ((m : ℕ) × (m < suc k) × First f m)
    go (inl none) (inl h) = inr (k, omega arith, record { holds = h; earlier = none })
    go (inl none) (inr h) = inl (λ j l. ⊎_elim (λ m. none j m) (λ e. rw e h) (below_suc l))
    go (inr r) h = inr (r.0, omega (arith, r.1), r.2)

module _ {asks : Asks} {n w : ℕ} (𝓛 : Lawful asks n w) where
  abbrev stage : ℕ → List ℕ
  stage i = staged asks n i

  -- The round adds nothing.
  abbrev settled : ℕ → Bool
  settled i = meets (stage i) (asks (stage i))

  pub length_staged : (i : ℕ) → length (stage i) ≡ n
  unfolding staged
  length_staged zero = length-replicate n empty
  length_staged (suc i) = length_grow (stage i) (asks (stage i)) ∙ length_staged i

  pub staged_placed : (i : ℕ) → All (Placed (length (stage i))) (asks (stage i))
  staged_placed i = rw (length_staged i) (𝓛.placed (stage i) (length_staged i))

  -- Each stage lies within every summary that meets its own demands.
  pub staged_least : (τ : List ℕ) → All (Met τ) (asks τ) → (i : ℕ) → Below (stage i) τ
  unfolding staged
  staged_least τ h zero = nothing_below n τ
  staged_least τ h (suc i) =
      let b = staged_least τ h i in
      grow_least b (fewer_met (𝓛.monotone (stage i) τ b) h)

  staged_weight : (i : ℕ) → weight (stage i) ≤ w * n
  staged_weight i =
      let same : length (stage i) ≡ length 𝓛.top = length_staged i ∙ sym 𝓛.top_length in
      let top = rw 𝓛.top_length at (weight_bound w 𝓛.bounded) in
      omega (arith, below_weight (stage i) 𝓛.top same (staged_least 𝓛.top 𝓛.topped i))

  -- A round that is not the last adds something, so it names a parameter more.
  pub not_still : (i : ℕ) → settled i ≡ false → stage (suc i) ≢ stage i
  unfolding staged
  not_still i h e =
      let met : settled i ≡ true = meets_complete (stage i) (still_met (stage i) (asks (stage i)) (staged_placed i) e) in
      let z : ◌≡◌ {A = ℕ} 0 1 = cc in omega arith

  heavier : (i : ℕ) → settled i ≡ false → weight (stage i) < weight (stage (suc i))
  unfolding staged
  heavier i h =
      let rise = grow_above (stage i) (asks (stage i)) in
      let sized = sym (length_grow (stage i) (asks (stage i))) in
      elim (dec_le (weight (stage (suc i))) (weight (stage i))) [
        | yes l ↦ absurd (not_still i h (sym (below_same (stage i) (stage (suc i)) sized rise l)))
        | no l ↦ omega arith
      ]

  heavy : (k : ℕ) → ((j : ℕ) → j < k → settled j ≡ false) → k ≤ weight (stage k)
  heavy zero h = omega arith
  heavy (suc k) h = omega (arith, heavy k (λ j l. h j (omega arith)), heavier k (h k (omega arith)))

  -- Some round is the first that adds nothing, and it comes within the bound.
  pub settles : (m : ℕ) × (m ≤ w * n) × First settled m
  settles = go (first_below settled (suc (w * n)))
    where
      go : ((j : ℕ) → j < suc (w * n) → settled j ≡ false) ⊎ ((m : ℕ) × (m < suc (w * n)) × First settled m) →
          (m : ℕ) × (m ≤ w * n) × First settled m
      go (inl none) = absurd (omega (arith, heavy (suc (w * n)) none, staged_weight (suc (w * n))))
      go (inr r) = (r.0, omega (arith, r.1), r.2)
