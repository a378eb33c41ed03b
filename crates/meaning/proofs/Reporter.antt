-- What it takes that the level reporter answers a level.
use mathlib.Core.Path.{◌≡◌, refl, ap}
use mathlib.Core.Bool.{Bool, true, false}
use mathlib.Core.List.{List}
use mathlib.Core.Option.{Option, some, none}
use Prim.Native.Nat.{ℕ, zero, suc, ◌≤◌, ◌<◌}
use native.Mathlib.Omega.{arith}
use lib.Dec.{eqb, ltb}
use lib.ListN.{length, get_or, get_elem?}
use borrow.Author.Tests.{eqb-true, ltb-true}
use Rattle.meaning.specs.Tree.{Procedure, Book}
use Rattle.meaning.specs.Reading.{Reading, refused, readable, read}
use Rattle.meaning.specs.Flow.{at}
use Rattle.meaning.specs.Levels.{levels, valid, reported}
use Rattle.meaning.specs.Answers.{check_book, check_answer, no_level, fitting, level_of, level_book, level_answer}
use Rattle.meaning.proofs.Readable.{refused_number}
use Rattle.meaning.proofs.Lists.{both_left, both_right, every_sound}

-- The level l is reported of procedure p.
pub record Reports (book table ls σ : List ℕ) (p l : ℕ) : Type 0 where
  pub tree : Book
  pub read_as : read book ≡ readable tree
  pub procedure : Procedure
  pub found : get_elem? tree p ≡ some procedure
  pub valid_table : valid table ≡ true
  pub sized : length ls ≡ procedure.parameters
  pub below : (j : ℕ) → j < procedure.parameters → get_or ls j 0 < levels table
  pub accepted : check_answer book σ ≡ 0
  pub level : reported table ls procedure.parameters (at σ p) ≡ l

-- A refusal other than 0 is no level.
no_level_lem : {A : Type 0} (n : ℕ) {l : ℕ} → 1 ≤ n → no_level n ≡ record { refusal = 0; level = l } → A
unfolding no_level
no_level_lem n h e = let z : n ≡ 0 = ap (λ r. r.refusal) e in absurd (omega arith)

-- Where a level is answered, none of the tests has failed.
module _ (book table ls σ : List ℕ) (p l : ℕ) where
  summary_tested : (b : Book) → read book ≡ readable b → valid table ≡ true → (q : Procedure) → get_elem? b p ≡ some q →
      fitting table q ls ≡ true → (n : ℕ) → check_book b σ ≡ n → level_of b table p q ls σ ≡ record { refusal = 0; level = l } →
      Reports book table ls σ p l
  unfolding level_of fitting check_answer
  summary_tested b r v q f h zero k e =
      let s = eqb-true (length ls) q.parameters (both_left (eqb (length ls) q.parameters) _ h) in
      record {
        tree = b;
        read_as = r;
        procedure = q;
        found = f;
        valid_table = v;
        sized = s;
        below = λ j i. ltb-true (get_or ls j 0) (levels table)
            (every_sound (length ls) (λ i. ltb (get_or ls i 0) (levels table))
            (both_right (eqb (length ls) q.parameters) _ h) j (omega arith));
        accepted = rw (r, check_answer) k;
        level = ap (λ r. r.level) (rw (k, level_of) at e);
      }
  summary_tested b r v q f h (suc n) k e = no_level_lem (suc n) (omega arith) (rw (k, level_of) at e)

  levels_tested : (b : Book) → read book ≡ readable b → valid table ≡ true → (q : Procedure) → get_elem? b p ≡ some q →
      (h : Bool) → fitting table q ls ≡ h → level_book b table p ls σ ≡ record { refusal = 0; level = l } → Reports book table ls σ p l
  unfolding level_book
  levels_tested b r v q f true h e = summary_tested b r v q f h (check_book b σ) refl (rw (v, level_book, f, h) at e)
  levels_tested b r v q f false h e = no_level_lem 7 (omega arith) (rw (v, level_book, f, h) at e)

  procedure_tested : (b : Book) → read book ≡ readable b → valid table ≡ true → (o : Option Procedure) → get_elem? b p ≡ o →
      level_book b table p ls σ ≡ record { refusal = 0; level = l } → Reports book table ls σ p l
  unfolding level_book
  procedure_tested b r v (some q) f e = levels_tested b r v q f (fitting table q ls) refl e
  procedure_tested b r v none f e = no_level_lem 6 (omega arith) (rw (v, level_book, f) at e)

  table_tested : (b : Book) → read book ≡ readable b → (h : Bool) → valid table ≡ h →
      level_book b table p ls σ ≡ record { refusal = 0; level = l } → Reports book table ls σ p l
  unfolding level_book
  table_tested b r true h e = procedure_tested b r h (get_elem? b p) refl e
  table_tested b r false h e = no_level_lem 5 (omega arith) (rw (h, level_book) at e)

  book_tested : (k : Reading) → read book ≡ k → level_answer book table p ls σ ≡ record { refusal = 0; level = l } →
      Reports book table ls σ p l
  unfolding level_answer
  book_tested (refused f) r e = no_level_lem f.number (refused_number book r) (rw (r, level_answer) at e)
  book_tested (readable b) r e = table_tested b r (valid table) refl (rw (r, level_answer) at e)

  pub reports : level_answer book table p ls σ ≡ record { refusal = 0; level = l } → Reports book table ls σ p l
  reports e = book_tested (read book) refl e
