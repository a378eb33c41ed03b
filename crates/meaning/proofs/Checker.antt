-- The checker accepts just the summaries that satisfy the rules.
use mathlib.Core.Path.{◌≡◌, refl, sym, ◌∙◌}
use mathlib.Core.Logic.{inl, inr}
use mathlib.Core.Bool.{true}
use mathlib.Core.List.{List}
use Prim.Native.Nat.{ℕ, ◌+◌, ◌<◌}
use native.Mathlib.Omega.{arith}
use borrow.Author.Tests.{eqb-true, eq-eqb}
use lib.Dec.{eqb}
use lib.ListN.{length, get_or}
use Rattle.meaning.specs.Sets.{empty, union, inside, upto, ◌⊆◌}
use Rattle.meaning.specs.Tree.{Expr, Cmd, Run, Closing, Book, variables, assign, branch, loop, stop, then, first, give, pick}
use Rattle.meaning.specs.Reading.{Reading, refused, readable, read}
use Rattle.meaning.specs.Flow.{at, by_sets, row, arriving, flow, after, needs, needs_in, ends, start_sets, demands, meets, limits, size, legal, satisfies}
use Rattle.meaning.specs.Answers.{check_book, check_answer}
use Rattle.meaning.specs.Promises.{Arrives, Rows, RowsIn, Returns, Satisfies, CheckerExact}
use Rattle.meaning.proofs.Lists.{both, both_left, both_right, Tested, holds_or_fails, every_sound, every_complete}
use Rattle.meaning.proofs.Sets.{inside_sound, inside_complete}
use Rattle.meaning.proofs.Pairs.{All, done, also, all_append, all_left, all_right, all_each, each_all}
use Rattle.meaning.proofs.Needs.{Met, meets_sound, meets_complete}
use Rattle.meaning.proofs.Parts.{parts_demands, demands_parts}
use Rattle.meaning.proofs.Readable.{refused_number}

-- The needs of the tree are met just where its rules hold.
module _ (σ : List ℕ) (w : ℕ) where
  arrives : (k : ℕ) (Γ : List ℕ) → All (Met σ) (arriving (by_sets σ w) k Γ) → Arrives σ w k Γ
  unfolding arriving Arrives
  arrives k Γ h i l = (each_all w (λ j. record { place = k + j; needed = get_or Γ j empty }) h i l).lies

  arrived : (k : ℕ) (Γ : List ℕ) → Arrives σ w k Γ → All (Met σ) (arriving (by_sets σ w) k Γ)
  unfolding arriving Arrives
  arrived k Γ h = all_each w (λ j. record { place = k + j; needed = get_or Γ j empty }) (λ i l. record { lies = h i l })

  -- The guard inside a condition, and a loop's row.
  abbrev under : Expr → List ℕ → ℕ → ℕ
  under e Γ g = union g (flow e (by_sets σ w) Γ)

  abbrev held : ℕ → List ℕ
  held k = row (by_sets σ w) k

  mutual
    unfolding needs needs_in Rows RowsIn

    rows : (c : Cmd) (Γ : List ℕ) (g : ℕ) → All (Met σ) (needs c (by_sets σ w) Γ g) → Rows c σ w Γ g
    rows (assign x e) Γ g h = tt
    rows (branch e s t) Γ g h =
        let first = needs_in s (by_sets σ w) Γ (under e Γ g) in
        (rows_in s Γ (under e Γ g) (all_left first _ h), rows_in t Γ (under e Γ g) (all_right first _ h))
    rows (loop k e s) Γ g h =
        let inner = all_right (arriving (by_sets σ w) k Γ) _ h in
        let body = needs_in s (by_sets σ w) (held k) (under e (held k) g) in (
          arrives k Γ (all_left (arriving (by_sets σ w) k Γ) _ h),
          rows_in s (held k) (under e (held k) g) (all_left body _ inner),
          arrives k _ (all_right body _ inner),
        )

    rows_in : (s : Run) (Γ : List ℕ) (g : ℕ) → All (Met σ) (needs_in s (by_sets σ w) Γ g) → RowsIn s σ w Γ g
    rows_in stop Γ g h = tt
    rows_in (then c s) Γ g h =
        let ahead = needs c (by_sets σ w) Γ g in
        (rows c Γ g (all_left ahead _ h), rows_in s (after c (by_sets σ w) Γ g) g (all_right ahead _ h))

  mutual
    unfolding needs needs_in Rows RowsIn

    rows_met : (c : Cmd) (Γ : List ℕ) (g : ℕ) → Rows c σ w Γ g → All (Met σ) (needs c (by_sets σ w) Γ g)
    rows_met (assign x e) Γ g h = done
    rows_met (branch e s t) Γ g h = all_append (runs_met s Γ (under e Γ g) h.0) (runs_met t Γ (under e Γ g) h.1)
    rows_met (loop k e s) Γ g h =
        all_append (arrived k Γ h.0) (all_append (runs_met s (held k) (under e (held k) g) h.1) (arrived k _ h.2))

    runs_met : (s : Run) (Γ : List ℕ) (g : ℕ) → RowsIn s σ w Γ g → All (Met σ) (needs_in s (by_sets σ w) Γ g)
    runs_met stop Γ g h = done
    runs_met (then c s) Γ g h = all_append (rows_met c Γ g h.0) (runs_met s (after c (by_sets σ w) Γ g) g h.1)

  module _ (p : ℕ) where
    returns : (c : Closing) (Γ : List ℕ) (g : ℕ) → All (Met σ) (ends c (by_sets σ w) p Γ g) → Returns c σ w p Γ g
    unfolding ends Returns
    returns (first c r) Γ g h =
        let ahead = needs c (by_sets σ w) Γ g in
        (rows c Γ g (all_left ahead _ h), returns r (after c (by_sets σ w) Γ g) g (all_right ahead _ h))
    returns (give e) Γ g (also m h) = m.lies
    returns (pick e c d) Γ g h =
        let one = ends c (by_sets σ w) p Γ (under e Γ g) in
        (returns c Γ (under e Γ g) (all_left one _ h), returns d Γ (under e Γ g) (all_right one _ h))

    returns_met : (c : Closing) (Γ : List ℕ) (g : ℕ) → Returns c σ w p Γ g → All (Met σ) (ends c (by_sets σ w) p Γ g)
    unfolding ends Returns
    returns_met (first c r) Γ g h = all_append (rows_met c Γ g h.0) (returns_met r (after c (by_sets σ w) Γ g) g h.1)
    returns_met (give e) Γ g h = also (record { lies = h }) done
    returns_met (pick e c d) Γ g h = all_append (returns_met c Γ (under e Γ g) h.0) (returns_met d Γ (under e Γ g) h.1)

-- All demands are met just where the rules hold of each procedure.
pub satisfies_met : (b : Book) (σ : List ℕ) → length σ ≡ size b → All (Met σ) (demands b σ) →
    ((k : ℕ) → k < size b → at σ k ⊆ upto (get_or (limits b) k 0)) → Satisfies b σ
satisfies_met b σ l m h =
    record {
      sized = l;
      rules = λ p q e. returns σ (variables q) p q.body (start_sets q) empty (demands_parts b σ m p q e);
      legal = h;
    }

pub met_satisfies : (b : Book) (σ : List ℕ) → Satisfies b σ → All (Met σ) (demands b σ)
met_satisfies b σ h =
    parts_demands b σ (λ p q e. returns_met σ (variables q) p q.body (start_sets q) empty (h.rules p q e))

-- The checker's test of a summary of the right size.
pub satisfies_sound : (b : Book) (σ : List ℕ) → length σ ≡ size b → satisfies b σ ≡ true → Satisfies b σ
unfolding satisfies legal
satisfies_sound b σ l h =
    satisfies_met b σ l (meets_sound σ (demands b σ) (both_left _ _ h)) λ k i.
    inside_sound (at σ k) (upto (get_or (limits b) k 0))
    (every_sound (size b) (λ j. inside (at σ j) (upto (get_or (limits b) j 0))) (both_right (meets σ (demands b σ)) _ h) k i)

pub satisfies_complete : (b : Book) (σ : List ℕ) → Satisfies b σ → satisfies b σ ≡ true
unfolding satisfies legal
satisfies_complete b σ h =
    both (meets_complete σ (met_satisfies b σ h))
    (every_complete (size b) (λ j. inside (at σ j) (upto (get_or (limits b) j 0)))
    (λ k i. inside_complete (at σ k) (upto (get_or (limits b) k 0)) (h.legal k i)))

-- The refusal of a summary for a readable book.
pub book_sound : (b : Book) (σ : List ℕ) → check_book b σ ≡ 0 → Satisfies b σ
unfolding check_book
book_sound b σ h = go (holds_or_fails (eqb (length σ) (size b))) (holds_or_fails (satisfies b σ))
  where
    go : Tested (eqb (length σ) (size b)) → Tested (satisfies b σ) → Satisfies b σ
    go (inl p) (inl q) = satisfies_sound b σ (eqb-true (length σ) (size b) p) q
    go (inl p) (inr q) = let z = rw (p, q, check_book) at h in absurd (omega arith)
    go (inr p) q = let z = rw (p, check_book) at h in absurd (omega arith)

pub book_complete : (b : Book) (σ : List ℕ) → Satisfies b σ → check_book b σ ≡ 0
unfolding check_book
book_complete b σ h = rw (eq-eqb (length σ) (size b) h.sized, satisfies_complete b σ h, check_book)

pub accepts : (book σ : List ℕ) {b : Book} → read book ≡ readable b → check_answer book σ ≡ check_book b σ
unfolding check_answer
accepts book σ e = rw (e, check_answer)

pub accepted : (book σ : List ℕ) → check_answer book σ ≡ 0 → (b : Book) × (read book ≡ readable b)
unfolding check_answer
accepted book σ h = go (read book) refl
  where
    go : (r : Reading) → read book ≡ r → (b : Book) × (read book ≡ readable b)
    go (refused f) e = let z = rw (e, check_answer) at h in let y = refused_number book e in absurd (omega arith)
    go (readable b) e = (b, e)

-- An accepted summary of a readable book satisfies the rules, and back.
pub accepted_satisfies : (book σ : List ℕ) {b : Book} → read book ≡ readable b → check_answer book σ ≡ 0 → Satisfies b σ
accepted_satisfies book σ {b} e h = book_sound b σ (sym (accepts book σ e) ∙ h)

pub satisfies_accepted : (book σ : List ℕ) {b : Book} → read book ≡ readable b → Satisfies b σ → check_answer book σ ≡ 0
satisfies_accepted book σ {b} e h = accepts book σ e ∙ book_complete b σ h

pub checker_exact : CheckerExact
unfolding CheckerExact
checker_exact book σ =
    (λ h. let r = accepted book σ h in (r.0, r.1, accepted_satisfies book σ r.1 h), λ r. satisfies_accepted book σ r.1 r.2)
