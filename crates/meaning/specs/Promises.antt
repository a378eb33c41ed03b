-- What is promised of the entries' answers, each promise a type. `meaning/proofs` has a proof of each, under its name in small letters.
use Rattle.std.specs.Prelude.{◌≡◌, ◌≢◌, ◌↔◌, true, List, ℕ, zero, suc, ◌+◌, ◌*◌, ◌≤◌, ◌<◌, length, get_or, take, replicate}
use Rattle.std.proofs.Math.Option.{some}
use Rattle.std.proofs.Math.ListN.{get_elem?}
use Rattle.meaning.specs.Limits.{most_parameters, most_levels}
use Rattle.meaning.specs.Sets.{empty, union, member, upto, ◌⊆◌}
use Rattle.meaning.specs.Tree.{Cmd, Run, Closing, Procedure, Book, variables}
use Rattle.meaning.specs.Tree.{assign, branch, loop, stop, then, first, give, pick}
use Rattle.meaning.specs.Reading.{readable, read}
use Rattle.meaning.specs.Flow.{at, by_sets, flow, afters, after, row, start_sets, limits, size, demands, grow}
use Rattle.meaning.specs.Levels.{levels, join, valid, bottom, at_or_below}
use Rattle.meaning.specs.Answers.{finished, run_answer, check_answer, find_answer, level_answer}

-- Two runs of procedure p of this book finish, and give equal values.
-- (A run that is refused does not finish: its ending is 0.)
unfoldable pub SameValue : List ℕ → ℕ → List ℕ → List ℕ → Type 0
SameValue book p xs ys =
    (n m : ℕ) (work work' : List ℕ) →
    (run_answer book p xs n work).run.ending ≡ finished →
    (run_answer book p ys m work').run.ending ≡ finished →
    (run_answer book p xs n work).run.value ≡ (run_answer book p ys m work').run.value

-- DEMAND 3. Whatever the bytes are: where the reporter answers the level l, two finished runs
-- whose inputs are equal wherever the input's level is at or below l give equal values.
unfoldable pub Demand3 : Type 0
Demand3 =
    (book table ls σ : List ℕ) (p l : ℕ) →
    level_answer book table p ls σ ≡ record { refusal = 0; level = l } →
    (xs ys : List ℕ) →
    ((i : ℕ) → i < length ls → at_or_below table (get_or ls i 0) l ≡ true → get_or xs i 0 ≡ get_or ys i 0) →
    SameValue book p xs ys

-- The same over sets: inputs equal on the result set of an accepted summary.
unfoldable pub Demand3Sets : Type 0
Demand3Sets =
    (book σ : List ℕ) (p : ℕ) →
    check_answer book σ ≡ 0 →
    (xs ys : List ℕ) →
    ((i : ℕ) → member i (at σ p) ≡ true → get_or xs i 0 ≡ get_or ys i 0) →
    SameValue book p xs ys

-- Each variable's set lies in the row at place k.
unfoldable pub Arrives : List ℕ → ℕ → ℕ → List ℕ → Type 0
Arrives σ w k Γ = (i : ℕ) → i < w → get_or Γ i empty ⊆ at σ (k + i)

-- Every arriving set and every set at the end of a loop's body lies in the loop's row.
unfoldable mutual
  pub Rows : Cmd → List ℕ → ℕ → List ℕ → ℕ → Type 0
  Rows (assign x e) σ w Γ g = Unit {0}
  Rows (branch e s t) σ w Γ g =
      RowsIn s σ w Γ (union g (flow e (by_sets σ w) Γ)) × RowsIn t σ w Γ (union g (flow e (by_sets σ w) Γ))
  Rows (loop k e s) σ w Γ g =
      Arrives σ w k Γ
      × RowsIn s σ w (row (by_sets σ w) k) (union g (flow e (by_sets σ w) (row (by_sets σ w) k)))
      × Arrives σ w k (afters s (by_sets σ w) (row (by_sets σ w) k) (union g (flow e (by_sets σ w) (row (by_sets σ w) k))))

  pub RowsIn : Run → List ℕ → ℕ → List ℕ → ℕ → Type 0
  RowsIn stop σ w Γ g = Unit {0}
  RowsIn (then c s) σ w Γ g = Rows c σ w Γ g × RowsIn s σ w (after c (by_sets σ w) Γ g) g

-- Every returned set with its guard lies in the result set, at place p.
unfoldable pub Returns : Closing → List ℕ → ℕ → ℕ → List ℕ → ℕ → Type 0
Returns (first c r) σ w p Γ g = Rows c σ w Γ g × Returns r σ w p (after c (by_sets σ w) Γ g) g
Returns (give e) σ w p Γ g = union (flow e (by_sets σ w) Γ) g ⊆ at σ p
Returns (pick e c d) σ w p Γ g =
    Returns c σ w p Γ (union g (flow e (by_sets σ w) Γ)) × Returns d σ w p Γ (union g (flow e (by_sets σ w) Γ))

-- A summary that has the size and satisfies the flow rules.
pub record Satisfies (b : Book) (σ : List ℕ) : Type 0 where
  pub sized : length σ ≡ size b
  pub rules : (p : ℕ) (q : Procedure) → get_elem? b p ≡ some q → Returns q.body σ (variables q) p (start_sets q) empty
  pub legal : (k : ℕ) → k < size b → at σ k ⊆ upto (get_or (limits b) k 0)

-- THE CHECKER IS EXACT: it accepts just the summaries that satisfy the rules.
unfoldable pub CheckerExact : Type 0
CheckerExact = (book σ : List ℕ) → check_answer book σ ≡ 0 ↔ ((b : Book) × (read book ≡ readable b) × Satisfies b σ)

-- The finder is not refused.
unfoldable pub Finds : List ℕ → List ℕ → Type 0
Finds book buffer = (find_answer book buffer).refusal ≡ 0

-- What the finder has written.
unfoldable pub written : List ℕ → List ℕ → List ℕ
written book buffer = take (find_answer book buffer).size (find_answer book buffer).buffer

-- THE FINDER IS LEAST: what it writes is accepted, and lies within every accepted summary, place by place.
unfoldable pub FinderLeast : Type 0
FinderLeast =
    (book buffer : List ℕ) → Finds book buffer →
    (check_answer book (written book buffer) ≡ 0)
    × ((τ : List ℕ) → check_answer book τ ≡ 0 → (k : ℕ) → at (written book buffer) k ⊆ at τ k)

-- The summary after n rounds.
unfoldable pub stage : Book → ℕ → List ℕ
stage b zero = replicate (size b) empty
stage b (suc n) = grow (stage b n) (demands b (stage b n))

-- THE FINDER'S ROUNDS: the last is the first that adds nothing, and they never exceed 8 times the size plus 1.
unfoldable pub FinderRounds : Type 0
FinderRounds =
    (book buffer : List ℕ) (b : Book) → read book ≡ readable b → Finds book buffer →
    (n : ℕ)
    × ((find_answer book buffer).rounds ≡ suc n)
    × (written book buffer ≡ stage b n)
    × (stage b (suc n) ≡ stage b n)
    × ((m : ℕ) → m < n → stage b (suc m) ≢ stage b m)
    × (suc n ≤ most_parameters * size b + 1)

-- THE FINDER'S LEVEL IS LOWEST: at or below the level reported with any accepted summary.
unfoldable pub FinderLowest : Type 0
FinderLowest =
    (book buffer table ls τ : List ℕ) (p l m : ℕ) → Finds book buffer →
    level_answer book table p ls (written book buffer) ≡ record { refusal = 0; level = l } →
    level_answer book table p ls τ ≡ record { refusal = 0; level = m } →
    at_or_below table l m ≡ true

-- The laws of a level table.
pub record Laws (t : List ℕ) : Type 0 where
  pub some_level : 1 ≤ levels t
  pub few_levels : levels t ≤ most_levels
  pub sized : length t ≡ 1 + levels t * levels t
  pub closed : (a b : ℕ) → a < levels t → b < levels t → join t a b < levels t
  pub idempotent : (a : ℕ) → a < levels t → join t a a ≡ a
  pub commutative : (a b : ℕ) → a < levels t → b < levels t → join t a b ≡ join t b a
  pub associative : (a b c : ℕ) → a < levels t → b < levels t → c < levels t → join t (join t a b) c ≡ join t a (join t b c)
  pub a_bottom : (z : ℕ) × (z < levels t) × ((b : ℕ) → b < levels t → join t z b ≡ b)

-- THE TEST OF THE TABLE IS EXACT.
unfoldable pub TableExact : Type 0
TableExact = (t : List ℕ) → valid t ≡ true ↔ Laws t

-- A valid table's 'at or below' is a partial order with join as least upper bound and bottom below all.
pub record Order (t : List ℕ) : Type 0 where
  pub reflexive : (a : ℕ) → a < levels t → at_or_below t a a ≡ true
  pub antisymmetric : (a b : ℕ) → a < levels t → b < levels t → at_or_below t a b ≡ true → at_or_below t b a ≡ true → a ≡ b
  pub transitive : (a b c : ℕ) → a < levels t → b < levels t → c < levels t → at_or_below t a b ≡ true → at_or_below t b c ≡ true → at_or_below t a c ≡ true
  pub join_above_left : (a b : ℕ) → a < levels t → b < levels t → at_or_below t a (join t a b) ≡ true
  pub join_above_right : (a b : ℕ) → a < levels t → b < levels t → at_or_below t b (join t a b) ≡ true
  pub join_least : (a b c : ℕ) → a < levels t → b < levels t → c < levels t → at_or_below t a c ≡ true → at_or_below t b c ≡ true → at_or_below t (join t a b) c ≡ true
  pub bottom_level : bottom t < levels t
  pub bottom_below : (a : ℕ) → a < levels t → at_or_below t (bottom t) a ≡ true

unfoldable pub LevelsOrdered : Type 0
LevelsOrdered = (t : List ℕ) → valid t ≡ true → Order t
