-- The public answer, way by way.
use Rattle.std.proofs.Common.{◌≡◌, ℕ, zero, suc, ◌+◌, ◌-◌, ◌*◌, ◌/◌, ◌<◌, ◌≤◌, List, ◌++◌, length, take, drop, sym, refl, ap, ◌∙◌, arith, length-take-le, eq-eqb, ne_eqb, le-leb}
use borrow.Author.Tests.{lt-leb}
use Rattle.meaning.specs.Limits.{most_steps, least_cells}
use Rattle.meaning.specs.Reading.{entry, procedures}
use Rattle.meaning.specs.Running.{yield}
use Rattle.meaning.specs.Answers.{Ran, RunAnswer, ending_number, ran, run_of, no_run, cleared, run_book, run_answer}
use Rattle.meaning.specs.Entries.{Reads, Runs}
use Rattle.meaning.proofs.Lists.{none_beyond}
use Rattle.book.specs.Here.{BookHere}
use Rattle.book.proofs.Sound.{book_facts, procedure_view}
use Rattle.book.proofs.Answer.{accepted, rejected}
use Rattle.runner.specs.Outcome.{ending_of, outcome}
use Rattle.runner.specs.Opened.{Opened}
use Rattle.runner.specs.Answer.{answer_of, HasLeft, HasResult}
use Rattle.runner.specs.Endings.{ending_of as ending_of_ran, value_of}
use Rattle.runner.specs.Answering.{EndsAs, AnsweredPost, StartPre, StartedPost, JudgedPost}
use Rattle.runner.specs.declared.ran.Ran.{Ran as Answer}
use Rattle.runner.proofs.Packing.{ending_over, not_ended, has_ended}
use Rattle.runner.specs.declared.ran.Ending.TheVariants.{Finished, OutOfSteps, TooDeep}

-- All that is known of a readable book.
abbrev opened : {b : List ℕ} → BookHere b → Opened b
opened g = record { here = g; facts = book_facts g; procedure = procedure_view g }

-- An outcome under a budget, by how it ended: 0 for not, 4 for out of steps, and any other for too deep.
ran_finished : (budget e v l : ℕ) → e ≡ 0 → ran budget (outcome e v l) ≡ record { ending = 1; value = v; steps = budget - l }
unfolding outcome yield ran
ran_finished budget e v l u = rw u

ran_spent : (budget e v l : ℕ) → e ≡ 4 → ran budget (outcome e v l) ≡ record { ending = 2; value = 0; steps = budget - l }
unfolding outcome ending_of ran ending_number
ran_spent budget e v l u = rw u

ran_deep : (budget e v l : ℕ) → (e ≡ 0 → ⊥) → (e ≡ 4 → ⊥) → ran budget (outcome e v l) ≡ record { ending = 3; value = 0; steps = budget - l }
unfolding outcome ending_of ran ending_number
ran_deep budget zero v l u y = absurd (u refl)
ran_deep budget (suc e) v l u y = rw (ne_eqb (suc e) 4 y, ending_of)

-- The same of an answer whose parts were read.
pub finished_answer : {budget a l v : ℕ} → a < 0x2000000000000000 → HasLeft a l → HasResult a v →
    AnsweredPost budget a (record { ending = Finished v; steps = budget - l })
finished_answer {budget} u i k = record { same = rw (i.is, k.is) (ran_finished budget _ _ _ (not_ended u)) }

module _ {a : ℕ} (h : 0x8000000000000000 ≤ a) where
  pub ends_spent : a / 0x2000000000000000 ≡ 4 → EndsAs a OutOfSteps
  ends_spent e = record { same = λ budget. ran_spent budget _ (answer_of a).value _ (ending_over a h ∙ e) }

  pub ends_deep : (a / 0x2000000000000000 ≡ 4 → ⊥) → EndsAs a TooDeep
  ends_deep u =
      record { same = λ budget. ran_deep budget _ (answer_of a).value _ (has_ended h) (λ z. u (sym (ending_over a h) ∙ z)) }

-- A readable book's run, test by test: one that fails refuses.
module _ {b : List ℕ} (g : BookHere b) where
  -- The byte that counts the procedures is there.
  pub first_byte : 0 < length b
  first_byte = omega (arith, (book_facts g).some_bytes)

  -- Since the book is readable, only its run's own refusals are left.
  refuses : {p inputs budget cells r : ℕ} → (r ≡ 0 → ⊥) →
      ((xs work : List ℕ) → inputs ≡ length xs → cells ≡ length work → run_book g.book p xs budget work ≡ no_run r work) →
      JudgedPost b p inputs budget cells r
  unfolding run_answer
  refuses u f = record { allows = λ z. absurd (u z); refuses = λ v xs work i j. rw (g.is, run_answer) (f xs work i j) }

  module _ {p n : ℕ} (e : n ≡ procedures b) where
    -- 6: there is no such procedure.
    pub unknown : {inputs budget cells : ℕ} → n ≤ p → JudgedPost b p inputs budget cells 6
    unfolding run_book
    unknown h =
        refuses (λ z. omega arith) (λ xs work i j. rw (none_beyond g.book p (omega (arith, (book_facts g).counted)), run_book))

    module _ (h : p < n) where
      known : p < procedures b
      known = omega arith

      -- Its entry of the contents is there.
      pub within : 7 + 6 * p ≤ length b
      within = omega (arith, known, (book_facts g).contents)

      module _ {m : ℕ} (k : m ≡ (entry b p).parameters) where
        -- 7: the inputs are not as many as its parameters.
        pub miscounted : {inputs budget cells : ℕ} → (inputs ≡ m → ⊥) → JudgedPost b p inputs budget cells 7
        unfolding run_book
        miscounted u =
            let v = procedure_view g p known in
            refuses (λ z. omega arith)
            (λ xs work i j. rw (v.found, run_book, ne_eqb (length xs) v.procedure.parameters (λ z. u (i ∙ (z ∙ (v.parameters ∙ sym k))))))

        module _ {inputs : ℕ} (c : inputs ≡ m) where
          -- As many as the tree's procedure has.
          counted : (xs : List ℕ) → inputs ≡ length xs → length xs ≡ (procedure_view g p known).procedure.parameters
          counted xs i = sym i ∙ (c ∙ (k ∙ sym (procedure_view g p known).parameters))

          -- 10: too few cells.
          pub cramped : {budget cells : ℕ} → cells < 1024 → JudgedPost b p inputs budget cells 10
          unfolding run_book
          cramped s =
              let v = procedure_view g p known in
              refuses (λ z. omega arith)
              (λ xs work i j.
              rw (v.found, run_book, eq-eqb (length xs) v.procedure.parameters (counted xs i), lt-leb least_cells (length work) (omega arith)))

          module _ {budget cells : ℕ} (s : 1024 ≤ cells) where
            -- 11: too large a budget.
            pub over_budget : 1000000 < budget → JudgedPost b p inputs budget cells 11
            unfolding run_book
            over_budget t =
                let v = procedure_view g p known in
                refuses (λ z. omega arith)
                (λ xs work i j.
                rw (
                  v.found,
                  run_book,
                  eq-eqb (length xs) v.procedure.parameters (counted xs i),
                  le-leb least_cells (length work) (omega arith),
                  lt-leb budget most_steps t,
                ))

            -- None of them.
            pub allowed : budget ≤ 1000000 → JudgedPost b p inputs budget cells 0
            allowed t = record { allows = λ z. record { known = known; counted = c ∙ k; enough = s; few = t }; refuses = λ z. absurd (z refl) }

-- What holds of a run that is not refused.
module _ {b : List ℕ} {p inputs budget cells : ℕ} (j : JudgedPost b p inputs budget cells 0) where
  -- The inputs are as many as a procedure's parameters, so they fit the eight values of a call.
  pub inputs_few : BookHere b → inputs ≤ 8
  inputs_few g = let a = j.allows refl in omega (arith, a.counted, (book_facts g).few_parameters p a.known)

  pub budget_small : budget < 0x100000000
  budget_small = omega (arith, (j.allows refl).few)

  pub cells_enough : 1024 ≤ cells
  cells_enough = (j.allows refl).enough

-- The first 1,024 cells of those that are lent.
module _ {b : List ℕ} {p inputs budget : ℕ} (work : List ℕ) (j : JudgedPost b p inputs budget (length work) 0) where
  pub part_long : 1024 ≡ length (take 1024 work)
  part_long = sym (length-take-le 1024 work (cells_enough j))

  pub start_pre : {given : List ℕ} → BookHere b → length given ≡ 8 → StartPre b p given budget (take 1024 work)
  start_pre g i = let a = j.allows refl in record { book = opened g; known = a.known; eight = i; few = a.few; cells = sym part_long }

-- The contract's five equations from an equation of whole answers.
told : {b : List ℕ} {p : ℕ} {inputs : List ℕ} {budget : ℕ} {work after : List ℕ} {n e v s : ℕ} (x : RunAnswer) → run_answer b p inputs budget work ≡ x →
    n ≡ x.refusal → record { ending = e; value = v; steps = s } ≡ x.run → after ≡ x.work →
    Runs b p inputs budget work n e v s after
told x e i j k =
    let f = j ∙ ap (λ (y : RunAnswer). y.run) (sym e) in
    record {
      refusal_is = i ∙ ap (λ (y : RunAnswer). y.refusal) (sym e);
      ending_is = ap (λ (y : Ran). y.ending) f;
      value_is = ap (λ (y : Ran). y.value) f;
      steps_is = ap (λ (y : Ran). y.steps) f;
      work_is = k ∙ ap (λ (y : RunAnswer). y.work) (sym e);
    }

-- Refusals leave the cells as they were: those of reading come first, and then those of the run.
module _ {b : List ℕ} {p : ℕ} {inputs : List ℕ} {budget : ℕ} {work : List ℕ} {r : ℕ} where
  told_refused : run_answer b p inputs budget work ≡ no_run r work → Runs b p inputs budget work r 0 0 0 work
  unfolding no_run
  told_refused e = told _ e refl refl refl

  pub read_refused : {s : ℕ} → Reads b r s → (r ≡ 0 → ⊥) → Runs b p inputs budget work r 0 0 0 work
  unfolding run_answer
  read_refused h n = let x = rejected h n in told_refused (rw (x.is, run_answer, ← x.number))

  pub judge_refused : JudgedPost b p (length inputs) budget (length work) r → (r ≡ 0 → ⊥) → Runs b p inputs budget work r 0 0 0 work
  judge_refused j n = told_refused (j.refuses n inputs work refl refl)

-- A book without a refusal is readable.
pub read_accepted : {b : List ℕ} {s : ℕ} → Reads b 0 s → BookHere b
read_accepted h = (accepted h).book

-- A run that is not refused.
module _ {b : List ℕ} (g : BookHere b) {p : ℕ} (inputs : List ℕ) {budget : ℕ} (work : List ℕ)
    (j : JudgedPost b p (length inputs) budget (length work) 0) where
  -- Every test of the definition is passed.
  let_through : run_answer b p inputs budget work ≡ record { refusal = 0; run = run_of g.book p inputs budget; work = cleared work }
  unfolding run_answer run_book
  let_through =
      let a = j.allows refl in
      let v = procedure_view g p a.known in
      rw (
        g.is,
        run_answer,
        v.found,
        run_book,
        eq-eqb (length inputs) v.procedure.parameters (a.counted ∙ sym v.parameters),
        le-leb least_cells (length work) a.enough,
        le-leb budget most_steps a.few,
      )

  -- Its answer is the outcome's, and its cells are 0 before the others, which are as they were.
  pub run_done : {given : List ℕ} (ys : List ℕ) {a : ℕ} {r : Answer} → take (length inputs) given ≡ inputs → StartedPost b p given budget ys a →
      length ys ≡ length (take 1024 work) → AnsweredPost budget a r →
      Runs b p inputs budget work 0 (ending_of_ran r) (value_of r) r.steps (ys ++ drop 1024 work)
  unfolding run_of cleared
  run_done {given} ys {a} {r} i s l q =
      let z : length ys ≡ 1024 = l ∙ sym (part_long work j) in
      told
      (record { refusal = 0; run = run_of g.book p inputs budget; work = cleared work })
      let_through
      refl
      (sym q.same ∙ ap (ran budget) (rw (← (j.allows refl).counted, i) at (s.begun.ran (opened g))))
      (rw z at (ap (λ (l : List ℕ). l ++ drop 1024 work) s.zeros))
