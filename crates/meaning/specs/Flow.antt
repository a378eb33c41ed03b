-- Summaries and the flow rules.
use Rattle.std.specs.Prelude.{Bool, true, false, ◌&&◌, List, [], ◌∷◌, ◌++◌, map, ℕ, zero, suc, ◌+◌, ◌*◌, length, get_or, set, replicate}
use Rattle.meaning.specs.Limits.{most_parameters}
use Rattle.meaning.specs.Lists.{each, every}
use Rattle.meaning.specs.Sets.{empty, single, union, inside, upto, gather}
use Rattle.meaning.specs.Tree.{Expr, Args, Cmd, Run, Closing, Procedure, Book, variables, loops_of}
use Rattle.meaning.specs.Tree.{constant, variable, operation, call, nil, arg, assign, branch, loop, stop, then, first, give, pick}

-- What a walk goes by: the empty set, union, what a call of a procedure gives for its argument sets,
-- the set at each place of the summary, and the width of a row. The sets are of any kind A; document 01's are `by_sets`, below.
pub record Walk (A : Type 0) : Type 0 where
  pub none : A
  pub join : A → A → A
  pub called : ℕ → List A → A
  pub held : ℕ → A
  pub width : ℕ

-- A set that must lie in the set at a place of the summary.
pub record Need (A : Type 0) : Type 0 where
  pub place : ℕ
  pub needed : A

-- A loop's row: one set per variable, from place k on.
unfoldable pub row : {A : Type 0} → Walk A → ℕ → List A
row W k = each W.width λ i. W.held (k + i)

-- Every variable's set must lie in the row at place k.
unfoldable pub arriving : {A : Type 0} → Walk A → ℕ → List A → List (Need A)
arriving W k Γ = each W.width λ i. record { place = k + i; needed = get_or Γ i W.none }

-- Each variable has the union of its two sets.
unfoldable pub joined : {A : Type 0} → (A → A → A) → List A → List A → List A
joined join [] Δ = Δ
joined join (s ∷ Γ) [] = s ∷ Γ
joined join (s ∷ Γ) (t ∷ Δ) = join s t ∷ joined join Γ Δ

-- The set of an expression, where Γ has the variables' sets.
unfoldable mutual
  pub flow : {A : Type 0} → Expr → Walk A → List A → A
  flow (constant c) W Γ = W.none
  flow (variable x) W Γ = get_or Γ x W.none
  flow (operation o a b) W Γ = W.join (flow a W Γ) (flow b W Γ)
  flow (call p es) W Γ = W.called p (flows es W Γ)

  pub flows : {A : Type 0} → Args → Walk A → List A → List A
  flows nil W Γ = []
  flows (arg e es) W Γ = flow e W Γ ∷ flows es W Γ

-- The variables' sets after a command, under the guard g: assignment replaces, an if unites, a loop leaves its row.
unfoldable mutual
  pub after : {A : Type 0} → Cmd → Walk A → List A → A → List A
  after (assign x e) W Γ g = set Γ x (W.join (flow e W Γ) g)
  after (branch e s t) W Γ g =
      joined W.join (afters s W Γ (W.join g (flow e W Γ))) (afters t W Γ (W.join g (flow e W Γ)))
  after (loop k e s) W Γ g = row W k

  pub afters : {A : Type 0} → Run → Walk A → List A → A → List A
  afters stop W Γ g = Γ
  afters (then c s) W Γ g = afters s W (after c W Γ g) g

-- What must lie in the rows of a command's loops: the arriving sets, and the sets at the end of the loop's body.
unfoldable mutual
  pub needs : {A : Type 0} → Cmd → Walk A → List A → A → List (Need A)
  needs (assign x e) W Γ g = []
  needs (branch e s t) W Γ g = needs_in s W Γ (W.join g (flow e W Γ)) ++ needs_in t W Γ (W.join g (flow e W Γ))
  needs (loop k e s) W Γ g =
      arriving W k Γ
      ++ (needs_in s W (row W k) (W.join g (flow e W (row W k)))
      ++ arriving W k (afters s W (row W k) (W.join g (flow e W (row W k)))))

  pub needs_in : {A : Type 0} → Run → Walk A → List A → A → List (Need A)
  needs_in stop W Γ g = []
  needs_in (then c s) W Γ g = needs c W Γ g ++ needs_in s W (after c W Γ g) g

-- The needs of a closing sequence; a returned set with its guard must lie in the result set, at place p.
unfoldable pub ends : {A : Type 0} → Closing → Walk A → ℕ → List A → A → List (Need A)
ends (first c r) W p Γ g = needs c W Γ g ++ ends r W p (after c W Γ g) g
ends (give e) W p Γ g = record { place = p; needed = W.join (flow e W Γ) g } ∷ []
ends (pick e c d) W p Γ g = ends c W p Γ (W.join g (flow e W Γ)) ++ ends d W p Γ (W.join g (flow e W Γ))

-- A summary is its sets in order: a result per procedure, then for each loop one set per variable. The set at a place:
unfoldable pub at : List ℕ → ℕ → ℕ
at σ k = get_or σ k empty

-- The walk of document 01: a call gives the union of those argument sets whose position is in the callee's result set.
abbrev pub by_sets : List ℕ → ℕ → Walk ℕ
by_sets σ w = record { none = empty; join = union; called = λ p sets. gather (at σ p) sets; held = at σ; width = w }

-- At the start parameter i has {i}, and locals are empty.
unfoldable pub start_sets : Procedure → List ℕ
start_sets q = each q.parameters single ++ replicate q.locals empty

-- All that must lie in the summary's sets, from procedure p on; the guard is empty at the start.
unfoldable pub demands_from : ℕ → Book → List ℕ → List (Need ℕ)
demands_from p [] σ = []
demands_from p (q ∷ qs) σ = ends q.body (by_sets σ (variables q)) p (start_sets q) empty ++ demands_from (suc p) qs σ

-- All that the summary as it stands demands.
unfoldable pub demands : Book → List ℕ → List (Need ℕ)
demands b σ = demands_from 0 b σ

-- Everything needed lies in its place.
unfoldable pub meets : List ℕ → List (Need ℕ) → Bool
meets σ [] = true
meets σ (d ∷ ds) = inside d.needed (at σ d.place) && meets σ ds

-- How many parameters the procedure has whose rows these are.
unfoldable pub row_limits : Book → List ℕ
row_limits [] = []
row_limits (q ∷ qs) = replicate (variables q * loops_of q.body) q.parameters ++ row_limits qs

-- For each place of a summary, how many parameters its procedure has.
unfoldable pub limits : Book → List ℕ
limits b = map (λ q. q.parameters) b ++ row_limits b

-- The size of a summary: the sum of its sets' bytes.
unfoldable pub size : Book → ℕ
size b = length (limits b)

-- No set names a parameter its procedure lacks.
unfoldable pub legal : Book → List ℕ → Bool
legal b σ = every (size b) λ i. inside (at σ i) (upto (get_or (limits b) i 0))

-- The summary satisfies the rules.
unfoldable pub satisfies : Book → List ℕ → Bool
satisfies b σ = meets σ (demands b σ) && legal b σ

-- Add what must lie in each set.
unfoldable pub grow : List ℕ → List (Need ℕ) → List ℕ
grow σ [] = σ
grow σ (d ∷ ds) = grow (set σ d.place (union (at σ d.place) d.needed)) ds

-- What the finder answers: the summary, and the number of rounds.
pub record Found : Type 0 where
  pub summary : List ℕ
  pub rounds : ℕ

-- Rounds: each walks every body by the summary as it stood before the round. The last is the first that adds nothing.
unfoldable pub rounds : Book → ℕ → List ℕ → ℕ → Found
rounds b zero σ n = record { summary = σ; rounds = n }
rounds b (suc k) σ n =
    elim (meets σ (demands b σ)) [
      | true ↦ record { summary = σ; rounds = suc n }
      | false ↦ rounds b k (grow σ (demands b σ)) (suc n)
    ]

-- Rounds never exceed 8 times the size plus 1.
unfoldable pub most_rounds : Book → ℕ
most_rounds b = most_parameters * size b + 1

-- The finder begins with all sets empty.
unfoldable pub find : Book → Found
find b = rounds b (most_rounds b) (replicate (size b) empty) 0
