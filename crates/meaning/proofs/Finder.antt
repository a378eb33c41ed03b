-- The finder's summary is accepted and least, and its rounds are the fewest.
use mathlib.Core.Path.{◌≡◌, refl, ap, ◌∙◌}
use mathlib.Core.Logic.{◌≢◌, inl, inr}
use mathlib.Core.Bool.{Bool, true, false}
use mathlib.Core.List.{List, ◌++◌}
use Prim.Native.Nat.{ℕ, zero, suc, ◌+◌, ◌*◌, ◌^◌, ◌≤◌, ◌<◌}
use native.Mathlib.Omega.{arith}
use native.Mathlib.Decide.{ℕ_discrete}
use lib.Dec.{leb}
use lib.ListN.{length, get_or, drop}
use lib.Seq.{take_at}
use Rattle.meaning.specs.Limits.{most_parameters}
use Rattle.meaning.specs.Sets.{upto, ◌⊆◌}
use Rattle.meaning.specs.Tree.{Book}
use Rattle.meaning.specs.Reading.{Reading, refused, readable, read}
use Rattle.meaning.specs.Flow.{at, size, limits, demands, meets, grow, rounds, most_rounds, find}
use Rattle.meaning.specs.Answers.{find_book, find_answer, no_find}
use Rattle.meaning.specs.Promises.{Finds, written, stage, Satisfies, FinderLeast, FinderRounds}
use Rattle.meaning.proofs.Lists.{Tested, holds_or_fails}
use Rattle.meaning.proofs.Sets.{sub_trans, sub_below}
use Rattle.meaning.proofs.Pairs.{All}
use Rattle.meaning.proofs.Needs.{Below, Met, meets_sound, met_still}
use Rattle.meaning.proofs.Checker.{satisfies_met, met_satisfies, accepted_satisfies, satisfies_accepted}
use Rattle.meaning.proofs.Readable.{refused_number}
use Rattle.meaning.proofs.Places.{Laid, laid}
use Rattle.meaning.proofs.Rounds.{First, staged, length_staged, staged_least, not_still, settles}
use Rattle.meaning.proofs.Demands.{full, at_full, full_met, full_small, lawful}

-- One round: the last, or one more after it.
pub rounds_last : (b : Book) (k : ℕ) (σ : List ℕ) (n : ℕ) → meets σ (demands b σ) ≡ true →
    rounds b (suc k) σ n ≡ record { summary = σ; rounds = suc n }
unfolding rounds
rounds_last b k σ n h = rw (h, rounds)

pub rounds_more : (b : Book) (k : ℕ) (σ : List ℕ) (n : ℕ) → meets σ (demands b σ) ≡ false →
    rounds b (suc k) σ n ≡ rounds b k (grow σ (demands b σ)) (suc n)
unfolding rounds
rounds_more b k σ n h = rw (h, rounds)

-- The stages of the promise are those of the rounds.
stage_staged : (b : Book) (i : ℕ) → staged (demands b) (size b) i ≡ stage b i
unfolding stage staged
stage_staged b zero = refl
stage_staged b (suc i) = rw (stage_staged b i)

-- The round after stage i adds nothing.
abbrev pub settled : Book → ℕ → Bool
settled b i = meets (stage b i) (demands b (stage b i))

-- From any stage up to the first that is settled, enough rounds end there.
pub rounds_first : (b : Book) (m : ℕ) → First (settled b) m → (k i : ℕ) → i ≤ m → m < i + k →
    rounds b k (stage b i) i ≡ record { summary = stage b m; rounds = suc m }
unfolding stage
rounds_first b m f zero i l h = absurd (omega arith)
rounds_first b m f (suc k) i l h =
    elim (ℕ_discrete i m) [
      | yes e ↦ rw e (rounds_last b k (stage b m) m f.holds)
      | no u ↦ rounds_more b k (stage b i) i (f.earlier i (omega arith)) ∙ rounds_first b m f k (suc i) (omega arith) (omega arith)
    ]

module _ {b : Book} (𝓑 : Laid b) where
  pub length_stage : (i : ℕ) → length (stage b i) ≡ size b
  length_stage i = rw (← stage_staged b i) (length_staged (lawful 𝓑) i)

  -- Every stage lies within each summary that meets its own demands.
  pub stage_least : (τ : List ℕ) → All (Met τ) (demands b τ) → (i : ℕ) → Below (stage b i) τ
  stage_least τ h i = rw (← stage_staged b i) (staged_least (lawful 𝓑) τ h i)

  -- A round that is not the last adds something.
  pub stage_moves : (i : ℕ) → settled b i ≡ false → stage b (suc i) ≢ stage b i
  stage_moves i h e =
      not_still (lawful 𝓑) i (rw (stage_staged b i) h) (rw (stage_staged b (suc i), stage_staged b i) e)

  -- The first round that adds nothing, within the bound.
  pub stage_settles : (m : ℕ) × (m ≤ most_parameters * size b) × First (settled b) m
  stage_settles =
      let s = settles (lawful 𝓑) in
      (s.0, s.1, record { holds = rw stage_staged at s.2.holds; earlier = λ j l. rw stage_staged at (s.2.earlier j l) })

  pub find_first : (m : ℕ) → m ≤ most_parameters * size b → First (settled b) m →
      find b ≡ record { summary = stage b m; rounds = suc m }
  unfolding find most_rounds stage
  find_first m l f = rounds_first b m f (most_parameters * size b + 1) 0 (omega arith) (omega arith)

  pub stage_legal : (i k : ℕ) → at (stage b i) k ⊆ upto (get_or (limits b) k 0)
  stage_legal i k = rw at_full at ((stage_least (full b) (full_met 𝓑) i).on k)

  -- A set of a stage is a number of as many bits as a procedure may have parameters.
  pub stage_small : (i k : ℕ) → at (stage b i) k < 2 ^ most_parameters
  stage_small i k =
      sub_below most_parameters (at (stage b i) k) (sub_trans ((stage_least (full b) (full_met 𝓑) i).on k) (full_small 𝓑 k))

  pub length_found : length (find b).summary ≡ size b
  length_found =
      let s = stage_settles in
      rw (find_first s.0 s.1 s.2) (length_stage s.0)

-- What the finder answers where it is not refused.
finds : (book buffer : List ℕ) → Finds book buffer → (b : Book) × (read book ≡ readable b) × (leb (size b) (length buffer) ≡ true)
unfolding Finds find_answer find_book no_find
finds book buffer h = go (read book) refl
  where
    room : (b : Book) → read book ≡ readable b → Tested (leb (size b) (length buffer)) → leb (size b) (length buffer) ≡ true
    room b e (inl p) = p
    room b e (inr p) = let z = rw (e, find_answer, p, find_book) at h in absurd (omega arith)

    go : (r : Reading) → read book ≡ r → (b : Book) × (read book ≡ readable b) × (leb (size b) (length buffer) ≡ true)
    go (refused f) e = let z = rw (e, find_answer) at h in let y = refused_number book e in absurd (omega arith)
    go (readable b) e = (b, e, room b e (holds_or_fails (leb (size b) (length buffer))))

found : (book buffer : List ℕ) (b : Book) → read book ≡ readable b → leb (size b) (length buffer) ≡ true →
    find_answer book buffer
    ≡ record { refusal = 0; size = size b; rounds = (find b).rounds; buffer = (find b).summary ++ drop (size b) buffer }
unfolding find_answer find_book
found book buffer b e l = rw (e, find_answer, l, find_book)

written_found : (book buffer : List ℕ) (b : Book) → read book ≡ readable b → leb (size b) (length buffer) ≡ true →
    length (find b).summary ≡ size b →
    written book buffer ≡ (find b).summary
unfolding written
written_found book buffer b e l s = rw (found book buffer b e l) (take_at (find b).summary (drop (size b) buffer) (size b) s)

-- The finder's answer for a readable book, in terms of its stages.
pub record Answered (book buffer : List ℕ) (b : Book) (m : ℕ) : Type 0 where
  pub first : First (settled b) m
  pub bound : m ≤ most_parameters * size b
  pub counted : (find_answer book buffer).rounds ≡ suc m
  pub wrote : written book buffer ≡ stage b m

pub answered : (book buffer : List ℕ) (b : Book) → read book ≡ readable b → Finds book buffer → (m : ℕ) × Answered book buffer b m
answered book buffer b e h =
    let f = finds book buffer h in
    let s = stage_settles (laid book e) in
    let same : f.0 ≡ b = cc f.1 in
    let room : leb (size b) (length buffer) ≡ true = rw same at f.2 in
    let it = find_first (laid book e) s.0 s.1 s.2 in
    let sized = length_found (laid book e) in (
      s.0,
      record {
        first = s.2;
        bound = s.1;
        counted = rw (found book buffer b e room, it);
        wrote = written_found book buffer b e room sized ∙ ap (λ r. r.summary) it;
      },
    )

-- What the finder leaves satisfies the rules.
pub stage_satisfies : {b : Book} → Laid b → (m : ℕ) → First (settled b) m → Satisfies b (stage b m)
stage_satisfies {b} 𝓑 m f =
    satisfies_met b (stage b m) (length_stage 𝓑 m) (meets_sound (stage b m) (demands b (stage b m)) f.holds)
    (λ k l. stage_legal 𝓑 m k)

pub finder_rounds : FinderRounds
unfolding FinderRounds stage
finder_rounds book buffer b e h =
    let r = answered book buffer b e h in
    let m = r.0 in (
      m,
      r.1.counted,
      r.1.wrote,
      met_still (stage b m) (meets_sound (stage b m) (demands b (stage b m)) r.1.first.holds),
      (λ j l. stage_moves (laid book e) j (r.1.first.earlier j l)),
      omega (arith, r.1.bound),
    )

pub finder_least : FinderLeast
unfolding FinderLeast
finder_least book buffer h =
    let f = finds book buffer h in
    let b = f.0 in
    let e = f.1 in
    let r = answered book buffer b e h in (
      rw r.1.wrote (satisfies_accepted book (stage b r.0) e (stage_satisfies (laid book e) r.0 r.1.first)),
      λ τ t k. rw r.1.wrote ((stage_least (laid book e) τ (met_satisfies b τ (accepted_satisfies book τ e t)) r.0).on k),
    )
