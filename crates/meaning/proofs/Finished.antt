-- A run that is answered as finished did finish, on inputs that fit.
use mathlib.Core.Path.{◌≡◌, refl, sym, ◌∙◌}
use mathlib.Core.List.{List}
use Prim.Native.Nat.{ℕ}
use native.Mathlib.Omega.{arith}
use lib.Dec.{eqb, leb}
use lib.ListN.{length, get_or, get_elem?}
use borrow.Author.Tests.{eqb-true}
use Rattle.meaning.specs.Limits.{most_calls, most_steps, least_cells}
use Rattle.meaning.specs.Tree.{Book}
use Rattle.meaning.specs.Reading.{readable, read}
use Rattle.meaning.specs.Running.{Ending, out_of_steps, too_deep, Out, done, ended, runs}
use Rattle.meaning.specs.Answers.{RunAnswer, finished, ending_number, ran, run_of, no_run, run_book, run_answer}
use Rattle.meaning.proofs.Cases.{by_test, by_some}
use Rattle.meaning.proofs.Calls.{arity, arity_at}

-- A finished run of a readable book: the inputs fit, and the run gave this value.
pub record Finished (b : Book) (p : ℕ) (inputs : List ℕ) (budget v : ℕ) : Type 0 where
  pub fits : length inputs ≡ get_or (arity b) p 0
  pub left : ℕ
  pub ends : runs b most_calls p inputs budget ≡ done v left

-- No ending but the first is `finished`.
ended_unfinished : (e : Ending) → ending_number e ≡ finished → ⊥
unfolding ending_number
ended_unfinished out_of_steps h = omega arith
ended_unfinished too_deep h = omega arith

module _ (b : Book) (p : ℕ) (inputs : List ℕ) (budget : ℕ) (work : List ℕ) where
  out_finished : length inputs ≡ get_or (arity b) p 0 → (o : Out ℕ) → runs b most_calls p inputs budget ≡ o →
      (ran budget o).ending ≡ finished → Finished b p inputs budget (ran budget o).value
  unfolding ran
  out_finished f (done v n) e h = record { fits = f; left = n; ends = e }
  out_finished f (ended x n) e h = absurd (ended_unfinished x h)

  -- The answer r, if it is of a finished run, tells its value.
  Tells : RunAnswer → Type 0
  Tells r = r.run.ending ≡ finished → Finished b p inputs budget r.run.value

  refused_tells : (n : ℕ) → Tells (no_run n work)
  unfolding Tells no_run
  refused_tells n h = absurd (omega arith)

  book_tells : Tells (run_book b p inputs budget work)
  unfolding Tells run_book run_of
  book_tells =
      by_some Tells (get_elem? b p) (λ e. refused_tells 6) λ q e.
      by_test Tells (eqb (length inputs) q.parameters)
      (λ fit. by_test Tells (leb least_cells (length work))
      (λ cells. by_test Tells (leb budget most_steps)
      (λ steps. out_finished (eqb-true _ _ fit ∙ sym (arity_at b p q e)) (runs b most_calls p inputs budget) refl)
      (λ steps. refused_tells 11)) (λ cells. refused_tells 10)) (λ fit. refused_tells 7)

-- A run that finished, finished by the definition.
pub finishes : (book : List ℕ) {b : Book} → read book ≡ readable b → (p : ℕ) (inputs : List ℕ) (budget : ℕ) (work : List ℕ) →
    (run_answer book p inputs budget work).run.ending ≡ finished →
    Finished b p inputs budget (run_answer book p inputs budget work).run.value
unfolding run_answer Tells
finishes book {b} r p inputs budget work = rw (r, run_answer) (book_tells b p inputs budget work)
