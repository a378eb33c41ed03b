-- What the reporter answers, way by way through its tests.
use mathlib.Core.Path.{◌≡◌, refl, sym, ◌∙◌}
use mathlib.Core.Bool.{Bool, true, false, not}
use mathlib.Core.List.{List}
use Prim.Native.Nat.{ℕ, zero, suc, ◌+◌, ◌*◌, ◌≤◌, ◌<◌}
use native.Mathlib.Omega.{arith}
use borrow.Author.Tests.{not-true, eqb-true}
use lib.Dec.{eqb}
use lib.ListN.{length, get_or}
use Rattle.meaning.specs.Limits.{most_parameters}
use Rattle.meaning.specs.Sets.{empty}
use Rattle.meaning.specs.Reading.{procedures}
use Rattle.meaning.specs.Flow.{at, size}
use Rattle.meaning.specs.Levels.{valid, reported}
use Rattle.meaning.specs.Answers.{check_book, check_answer, no_level, fitting, level_of, level_book, level_answer}
use Rattle.meaning.specs.Entries.{Reads, Checks, Reports}
use Rattle.meaning.proofs.Lists.{none_beyond, both_left}
use Rattle.meaning.proofs.Places.{result_place}
use Rattle.book.proofs.Readable.{ProcedureView}
use Rattle.book.proofs.Sound.{book_facts, procedure_view}
use Rattle.book.proofs.Answer.{accepted, rejected}
use Rattle.std.specs.Prelude.{Result}
use Rattle.meaning.proofs.OneAnswer.{one_level}
use Rattle.refusals.specs.declared.Refusal.{Refusal}
use Rattle.refusals.specs.Numbers.{refusal, field}
use Rattle.refusals.proofs.OneNumber.{one_answer}
use Rattle.book.specs.Here.{BookHere}
use Rattle.reporter.specs.Parts.{all_below, fitting_here}

-- The definition's answer for a readable book, test by test.
module _ (b t ls σ : List ℕ) (p : ℕ) (g : BookHere b) where
  of_book : level_answer b t p ls σ ≡ level_book g.book t p ls σ
  unfolding level_answer
  of_book = rw (g.is, level_answer)

  no_table : valid t ≡ false → level_answer b t p ls σ ≡ no_level 5
  unfolding level_book
  no_table v = of_book ∙ rw (v, level_book)

  module _ (v : valid t ≡ true) where
    no_procedure : procedures b ≤ p → level_answer b t p ls σ ≡ no_level 6
    unfolding level_book
    no_procedure h = of_book ∙ rw (v, level_book, none_beyond g.book p (omega (arith, (book_facts g).counted)))

    module _ (k : p < procedures b) where
      view : ProcedureView b g p
      view = procedure_view g p k

      fits : (f : Bool) → fitting_here b t p ls ≡ f →
          level_answer b t p ls σ ≡ (elim f [ false ↦ no_level 7 | true ↦ level_of g.book t p view.procedure ls σ ])
      unfolding level_book fitting all_below
      fits f e = of_book ∙ rw (v, level_book, view.found, view.parameters, e)

      no_summary : fitting_here b t p ls ≡ true → {n : ℕ} → check_answer b σ ≡ suc n → level_answer b t p ls σ ≡ no_level (suc n)
      unfolding check_answer level_of
      no_summary e h = fits true e ∙ rw ((rw (g.is, check_answer) at h), level_of)

      reported_as : fitting_here b t p ls ≡ true → check_answer b σ ≡ 0 →
          level_answer b t p ls σ ≡ record { refusal = 0; level = reported t ls (length ls) (at σ p) }
      unfolding check_answer level_of
      reported_as e h =
          let c : view.procedure.parameters ≡ length ls = view.parameters ∙ sym (eqb-true _ _ (both_left _ (all_below t ls) e)) in
          fits true e ∙ rw ((rw (g.is, check_answer) at h), level_of, c)

-- What the contract asks at each end of the code.
module _ (b t ls σ : List ℕ) (p : ℕ) where
  told_refused : (n : ℕ) → level_answer b t p ls σ ≡ no_level n → Reports b t p ls σ n 0
  unfolding no_level
  told_refused n e = record { refusal_is = rw e; level_is = rw e }

  pub book_refused : {r s : ℕ} → Reads b r s → (r ≡ 0 → ⊥) → Reports b t p ls σ r 0
  unfolding level_answer
  book_refused {r} h n = let w = rejected h n in told_refused r (rw (w.is, level_answer, ← w.number))

  module _ {s : ℕ} (h : Reads b 0 s) where
    here : BookHere b
    here = (accepted h).book

    pub table_refused : {v : Bool} → v ≡ valid t → not v ≡ true → Reports b t p ls σ 5 0
    table_refused {v} e u = told_refused 5 (no_table b t ls σ p here (sym e ∙ not-true v u))

    module _ (v : valid t ≡ true) {n : ℕ} (c : n ≡ procedures b) where
      pub procedure_refused : n ≤ p → Reports b t p ls σ 6 0
      procedure_refused k = told_refused 6 (no_procedure b t ls σ p here v (omega arith))

      -- The refusal that is told has this number.
      pub procedure_told : n ≤ p → {k : ℕ} → k ≡ 6 → Reports b t p ls σ k 0
      procedure_told l e = rw e (procedure_refused l)

      pub levels_refused : p < n → {f : Bool} → f ≡ fitting_here b t p ls → not f ≡ true → Reports b t p ls σ 7 0
      levels_refused k {f} d m = told_refused 7 (fits b t ls σ p here v (omega arith) false (sym d ∙ not-true f m))

      module _ (k : p < n) (f : fitting_here b t p ls ≡ true) where
        known : p < procedures b
        known = omega arith

        pub summary_refused : {r : ℕ} → Checks b σ r → (r ≡ 0 → ⊥) → Reports b t p ls σ r 0
        summary_refused {r} q w = go r (sym q.refusal_is) w
          where
            go : (n : ℕ) → check_answer b σ ≡ n → (n ≡ 0 → ⊥) → Reports b t p ls σ n 0
            go zero q w = absurd (w refl)
            go (suc n) q w = told_refused (suc n) (no_summary b t ls σ p here v known f q)

        pub level_reported : Checks b σ 0 → {l : ℕ} → l ≡ reported t ls (length ls) (get_or σ p 0) → Reports b t p ls σ 0 l
        unfolding at empty
        level_reported q i =
            let x = reported_as b t ls σ p here v known f (sym q.refusal_is) in
            record { refusal_is = rw x; level_is = rw x i }

        pub few_levels : length ls ≤ most_parameters
        few_levels = rw (eqb-true _ _ (both_left _ (all_below t ls) f)) ((book_facts here).few_parameters p known)

        -- An accepted summary has a set for each procedure.
        pub result_there : Checks b σ 0 → p < length σ
        unfolding check_answer check_book
        result_there q = go (eqb (length σ) (size here.book)) refl
          where
            go : (x : Bool) → eqb (length σ) (size here.book) ≡ x → p < length σ
            go true w =
                let z = eqb-true (length σ) (size here.book) w in
                omega (arith, result_place here.book p (procedure_view here p known).found)
            go false w = let z : ◌≡◌ {A = ℕ} 0 8 = q.refusal_is ∙ rw (here.is, check_answer, w, check_book) in absurd (omega arith)

-- The first byte and the entries of a readable book.
pub first_there : {b : List ℕ} {s : ℕ} → Reads b 0 s → 0 < length b
first_there h = (book_facts (accepted h).book).some_bytes

pub entry_there : {b : List ℕ} {p n s : ℕ} → Reads b 0 s → n ≡ procedures b → p < n → 7 + 6 * p ≤ length b
entry_there h e k = omega (arith, (book_facts (accepted h).book).contents)

-- As `one_level` has it of the numbers, of the answer itself.
pub one_level_answer : {b t ls σ : List ℕ} {p : ℕ} (r s : Result ℕ Refusal) → Reports b t p ls σ (refusal r) (field (λ l. l) r) →
    Reports b t p ls σ (refusal s) (field (λ l. l) s) → r ≡ s
one_level_answer r s x y = let o = one_level x y in one_answer r s o.0 (λ a b p q. rw (p, q) at o.1)
