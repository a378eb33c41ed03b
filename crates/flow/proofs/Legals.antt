-- A loop over the procedures of a book, left at the first whose sets name a parameter that it lacks.
use mathlib.Core.Path.{◌≡◌, sym, ap, ◌∙◌}
use mathlib.Core.Logic.{inl, inr}
use mathlib.Core.Bool.{Bool, true, false, ◌&&◌}
use mathlib.Core.List.{List}
use Prim.Native.Nat.{ℕ, suc, ◌+◌, ◌-◌, ◌≤◌, ◌<◌}
use Rattle.meaning.specs.Limits.{most_parameters}
use native.Mathlib.Numerals.{add-one}
use native.Mathlib.Omega.{arith}
use native.Mathlib.Decide.{ℕ_discrete}
use lib.ListN.{length, get_or}
use Rattle.meaning.specs.Sets.{empty, inside, upto}
use Rattle.meaning.specs.Tree.{Book}
use Rattle.meaning.specs.Reading.{entry, procedures}
use Rattle.meaning.specs.Flow.{at, size, limits, legal}
use Rattle.meaning.proofs.Lists.{Tested, holds_or_fails, both, both_left, both_right, every_sound, every_complete}
use Rattle.meaning.proofs.Places.{result_place, result_limit}
use Rattle.book.specs.Here.{BookHere}
use Rattle.book.proofs.Sound.{book_facts, procedure_view}
use Rattle.flow.specs.Rounds.{Begins, Rowed, rows_of}
use Rattle.flow.specs.Copies.{most_places}
use Rattle.flow.specs.Legality.{LegalPre, LegalPost}
use Rattle.flow.proofs.Names.{names_only, names_sound, names_complete}
use Rattle.flow.proofs.Spans.{rows_start, rows_next, rows_below, rows_all, size_rows, limit_row}
use Rattle.flow.proofs.Numbers.{Numbered, numbered}
use Rattle.flow.proofs.Starts.{row_at, begin_is, end_is, rowed}

-- The set at a place names parameters of its procedure alone.
abbrev ok_at : Book → List ℕ → ℕ → Bool
ok_at qs σ i = inside (at σ i) (upto (get_or (limits qs) i 0))

-- The same at a place of procedure p, by its entry in the contents.
abbrev ok_of : List ℕ → List ℕ → ℕ → ℕ → Bool
ok_of b σ p i = inside (get_or σ i 0) (upto (entry b p).parameters)

module _ {b : List ℕ} (σ : List ℕ) (g : BookHere b) (p : ℕ) (h : p < procedures b) where
  result_ok : ok_at g.book σ p ≡ ok_of b σ p p
  unfolding at empty
  result_ok = let y = procedure_view g p h in rw (result_limit g.book p y.found, y.parameters)

  row_ok : (k : ℕ) → row_at g p ≤ k → k < row_at g (suc p) → ok_at g.book σ k ≡ ok_of b σ p k
  unfolding at empty
  row_ok k l m =
      let y = procedure_view g p h in
      let e : row_at g p + (k - row_at g p) ≡ k = omega arith in
      let n = rows_next (length g.book) g.book p y.found in
      let f : get_or (limits g.book) k 0 ≡ (entry b p).parameters =
      ap (λ (i : ℕ). get_or (limits g.book) i 0) (sym e) ∙ limit_row g.book p (k - row_at g p) y.found (omega arith) ∙ y.parameters in
      rw f

  -- The places of procedure p lie within the summary.
  result_below : p < size g.book
  result_below = result_place g.book p (procedure_view g p h).found

  row_below : (k : ℕ) → k < row_at g (suc p) → k < size g.book
  row_below k l = omega (arith, rows_below (length g.book) g.book (suc p), size_rows g.book)

-- The sets of the first p procedures pass.
pub record Judging (b σ starts : List ℕ) (n p : ℕ) : Type 0 where
  pub counted : Numbered b n
  pub begins : Begins b starts
  pub wide : length σ ≡ most_places
  pub below : p ≤ n
  pub results : (g : BookHere b) (k : ℕ) → k < p → ok_at g.book σ k ≡ true
  pub rows : (g : BookHere b) (k : ℕ) → length g.book ≤ k → k < row_at g p → ok_at g.book σ k ≡ true

pub judging_none : {b σ starts : List ℕ} {n : ℕ} → LegalPre b starts → length σ ≡ most_places → n ≡ procedures b → Judging b σ starts n 0
judging_none c w e =
    record {
      counted = numbered c.book e;
      begins = c.begins;
      wide = w;
      below = omega arith;
      results = λ g k l. absurd (omega arith);
      rows = λ g k l m. absurd (omega (arith, rows_start (length g.book) g.book));
    }

-- The rows of procedure p lie within the places, and its entry within the book, whose parameters are few.
module _ {b σ starts : List ℕ} {n p : ℕ} (s : Judging b σ starts n p) (l : p < n) where
  pub judging_rows : Rowed starts p
  judging_rows = rowed s.begins s.counted l

  pub judging_few : {m : ℕ} → m ≡ (entry b p).parameters → m ≤ most_parameters
  judging_few e = omega (arith, (book_facts s.counted.book).few_parameters p (omega (arith, s.counted.is)))

-- What the test of procedure p is of.
abbrev passed : List ℕ → List ℕ → ℕ → ℕ → Bool
passed σ starts p m = inside (get_or σ p 0) (upto m) && names_only (rows_of σ starts p) m

module _ {b σ starts : List ℕ} {n p m : ℕ} (s : Judging b σ starts n p) (l : p < n) (d : m ≡ (entry b p).parameters) (g : BookHere b) where
  tried : p < procedures b
  tried = omega (arith, s.counted.is)

  first : get_or starts p 0 ≡ row_at g p
  first = begin_is s.begins g p tried

  last : get_or starts (p + 1) 0 ≡ row_at g (suc p)
  last = end_is s.begins g p tried

  within : get_or starts (p + 1) 0 ≤ length σ
  within = omega (arith, (judging_rows s l).fit, s.wide)

  -- Where its own sets pass, those of procedure p do by the rules, and the other way round.
  result_passes : passed σ starts p m ≡ true → ok_at g.book σ p ≡ true
  result_passes e =
      result_ok σ g p tried ∙ rw d at (both_left (inside (get_or σ p 0) (upto m)) (names_only (rows_of σ starts p) m) e)

  row_passes : passed σ starts p m ≡ true → (k : ℕ) → row_at g p ≤ k → k < row_at g (suc p) → ok_at g.book σ k ≡ true
  row_passes e k f h =
      let a = first in
      let c = last in
      let x =
      names_sound σ (get_or starts p 0) (get_or starts (p + 1) 0) m within
      (both_right (inside (get_or σ p 0) (upto m)) (names_only (rows_of σ starts p) m) e) k (omega arith) (omega arith) in
      row_ok σ g p tried k f h ∙ rw d at x

  legal_passes : legal g.book σ ≡ true → passed σ starts p m ≡ true
  unfolding legal
  legal_passes e =
      let a = first in
      let c = last in
      let each = every_sound (size g.book) (ok_at g.book σ) e in
      let x : inside (get_or σ p 0) (upto m) ≡ true =
      rw d (sym (result_ok σ g p tried) ∙ each p (result_below σ g p tried)) in
      let own : (k : ℕ) → get_or starts p 0 ≤ k → k < get_or starts (p + 1) 0 → inside (get_or σ k 0) (upto m) ≡ true =
      λ k f h.
      rw d (sym (row_ok σ g p tried k (omega arith) (omega arith)) ∙ each k (row_below σ g p tried k (omega arith))) in
      both x (names_complete σ (get_or starts p 0) (get_or starts (p + 1) 0) m within own (judging_rows s l).on)

pub judging_more : {b σ starts : List ℕ} {n p m : ℕ} {r : Bool} → Judging b σ starts n p → p < n → m ≡ (entry b p).parameters →
    r ≡ passed σ starts p m → r ≡ true → Judging b σ starts n (p + 1)
judging_more {b} {σ} {starts} {n} {p} {m} {r} s t d o e =
    record {
      counted = s.counted;
      begins = s.begins;
      wide = s.wide;
      below = omega arith;
      results = λ g k l. result g k l (ℕ_discrete k p);
      rows = λ g k l h. row g k l (rw (add-one p) at h) (ℕ_discrete (row_at g p - k) 0);
    }
  where
    passes : passed σ starts p m ≡ true
    passes = sym o ∙ e

    result : (g : BookHere b) (k : ℕ) → k < p + 1 → Dec (k ≡ p) → ok_at g.book σ k ≡ true
    result g k l (yes q) = rw q (result_passes s t d g passes)
    result g k l (no q) = s.results g k (omega arith)

    row : (g : BookHere b) (k : ℕ) → length g.book ≤ k → k < row_at g (suc p) → Dec (row_at g p - k ≡ 0) → ok_at g.book σ k ≡ true
    row g k l h (yes q) = row_passes s t d g passes k (omega arith) h
    row g k l h (no q) = s.rows g k l (omega arith)

-- Sets that do not pass make the whole summary illegal: were it legal, they would pass.
pub judging_broken : {b σ starts : List ℕ} {n p m : ℕ} {r : Bool} → Judging b σ starts n p → p < n → m ≡ (entry b p).parameters →
    r ≡ passed σ starts p m → r ≡ false → LegalPost b σ false
judging_broken {b} {σ} s t d o e = record { is = λ g. go g (holds_or_fails (legal g.book σ)) }
  where
    go : (g : BookHere b) → Tested (legal g.book σ) → false ≡ legal g.book σ
    go g (inl h) = let y = legal_passes s t d g h in let z : ◌≡◌ {A = ℕ} 0 1 = cc in absurd (omega arith)
    go g (inr h) = sym h

-- Every place is a result or in some row, so all pass.
pub judging_done : {b σ starts : List ℕ} {n p : ℕ} → Judging b σ starts n p → n ≤ p → LegalPost b σ true
unfolding legal
judging_done {b} {σ} {starts} {n} {p} s l =
    record { is = λ g. sym (every_complete (size g.book) (ok_at g.book σ) λ k h. go g k h (ℕ_discrete (p - k) 0)) }
  where
    all : (g : BookHere b) → p ≡ length g.book
    all g = omega (arith, s.counted.is, s.below, (book_facts g).counted)

    go : (g : BookHere b) (k : ℕ) → k < size g.book → Dec (p - k ≡ 0) → ok_at g.book σ k ≡ true
    go g k h (yes q) =
        let a = all g in
        let e = ap (row_at g) a in
        s.rows g k (omega arith) (omega (arith, rows_all (length g.book) g.book, size_rows g.book))
    go g k h (no q) = s.results g k (omega arith)
