-- A loop over the procedures of a book that walks every body: what is walked so far, and what is left.
use mathlib.Core.Path.{◌≡◌, refl, sym, ap, ◌∙◌}
use mathlib.Core.List.{List, [], ◌∷◌}
use mathlib.Core.Option.{some}
use Prim.Native.Nat.{ℕ, zero, suc, ◌+◌, ◌*◌, ◌≤◌, ◌<◌}
use native.Mathlib.Numerals.{add-one}
use native.Mathlib.Omega.{arith}
use native.Mathlib.Decide.{ℕ_discrete}
use lib.ListN.{length, get_or, set, drop, replicate, get_elem?, length-set, length-replicate}
use lib.Seq.{get_or-set_same, get_or-set_other, drop-length}
use Rattle.meaning.specs.Limits.{most_procedures}
use Rattle.meaning.specs.Sets.{empty}
use Rattle.meaning.specs.Tree.{Procedure, Book, variables, loops_of}
use Rattle.meaning.specs.Reading.{procedures}
use Rattle.meaning.specs.Flow.{by_sets, start_sets, ends as returned, demands_from, demands, grow}
use Rattle.meaning.proofs.Needs.{grow_append}
use Rattle.book.specs.Here.{BookHere}
use Rattle.book.proofs.Sound.{book_facts, procedure_view}
use Rattle.flow.specs.Copies.{most_places}
use Rattle.flow.specs.Rounds.{RoundPre, RoundPost, BodyPre, BodyPost}
use Rattle.flow.proofs.Spans.{rows_start, rows_next}
use Rattle.flow.proofs.Numbers.{Numbered, numbered}
use Rattle.flow.proofs.Starts.{row_at}
use Rattle.flow.proofs.Bodies.{entry_here}

-- The most procedures, and one more.
abbrev most_starts : ℕ
most_starts = most_procedures + 1

-- The procedures from p on are p and those behind it.
pub drop_here : (qs : Book) (p : ℕ) {q : Procedure} → get_elem? qs p ≡ some q → drop p qs ≡ q ∷ drop (suc p) qs
drop_here [] p e = let z : ◌≡◌ {A = ℕ} 0 1 = cc in absurd (omega arith)
drop_here (r ∷ qs) zero {q} e = let h : r ≡ q = cc in rw h
drop_here (r ∷ qs) (suc p) e = drop_here qs p e

-- The first p bodies are walked, and it is known where their rows begin, and the next.
pub record Opening (b σ new : List ℕ) (n p row : ℕ) (starts new' : List ℕ) : Type 0 where
  pub pre : RoundPre b σ new
  pub counted : Numbered b n
  pub below : p ≤ n
  pub wide : length new' ≡ most_places
  pub long : length starts ≡ most_starts
  pub place : (g : BookHere b) → row ≡ row_at g p
  pub begun : (g : BookHere b) (q : ℕ) → q ≤ p → get_or starts q 0 ≡ row_at g q
  pub added : (g : BookHere b) → grow new' (demands_from p (drop p g.book) σ) ≡ grow new (demands g.book σ)

-- Before the first turn the rows of procedure 0 begin behind the results.
pub opening_none : {b σ new : List ℕ} {n : ℕ} → RoundPre b σ new → n ≡ procedures b → Opening b σ new n 0 n (set (replicate most_starts 0) 0 n) new
unfolding demands
opening_none {b} {σ} {new} {n} c h =
    record {
      pre = c;
      counted = numbered c.book h;
      below = omega arith;
      wide = c.new_wide;
      long = length-set (replicate most_starts 0) 0 n ∙ length-replicate {A = ℕ} most_starts 0;
      place = λ g. first g;
      begun = λ g q l. let z : q ≡ 0 = omega arith in rw z (first g);
      added = λ g. refl;
    }
  where
    first : (g : BookHere b) → n ≡ row_at g 0
    first g = omega (arith, (book_facts g).counted, rows_start (length g.book) g.book)

pub opening_pre : {b σ new starts new' : List ℕ} {n p row : ℕ} → Opening b σ new n p row starts new' → p < n → BodyPre b σ new' p row
opening_pre {b} {p = p} s l =
    let h : p < procedures b = omega (arith, s.counted.is) in
    record {
      round = record { book = s.counted.book; old_wide = s.pre.old_wide; new_wide = s.wide };
      known = h;
      entry = entry_here s.counted.book h;
      place = s.place s.counted.book;
    }

-- A body that is walked adds its demands, and tells where the next rows begin.
pub opening_more : {b σ new starts new' new'' : List ℕ} {n p row row'' : ℕ} → Opening b σ new n p row starts new' → p < n →
    BodyPost b σ new' p row new'' row'' → Opening b σ new n (p + 1) row'' (set starts (p + 1) row'') new''
unfolding demands_from
opening_more {b} {σ} {new} {starts} {new'} {new''} {n} {p} {row} {row''} s l z =
    record {
      pre = s.pre;
      counted = s.counted;
      below = omega arith;
      wide = z.wide;
      long = length-set starts (p + 1) row'' ∙ s.long;
      place = λ g. rw (add-one p) (next g);
      begun = λ g q h. go g q h (ℕ_discrete q (p + 1));
      added = λ g. rw (add-one p) (more_added g);
    }
  where
    known : p < procedures b
    known = omega (arith, s.counted.is)

    next : (g : BookHere b) → row'' ≡ row_at g (suc p)
    next g =
        let y = procedure_view g p known in
        z.rows g y.procedure y.found (s.place g)
        ∙ ap (λ (k : ℕ). k + variables y.procedure * loops_of y.procedure.body) (s.place g)
        ∙ sym (rows_next (length g.book) g.book p y.found)

    go : (g : BookHere b) (q : ℕ) → q ≤ p + 1 → Dec (q ≡ p + 1) → get_or (set starts (p + 1) row'') q 0 ≡ row_at g q
    go g q h (yes d) = rw d (get_or-set_same starts (p + 1) row'' 0 (omega (arith, s.long, s.counted.few)) ∙ rw (add-one p) (next g))
    go g q h (no d) = get_or-set_other starts (p + 1) q row'' 0 d ∙ s.begun g q (omega arith)

    more_added : (g : BookHere b) → grow new'' (demands_from (suc p) (drop (suc p) g.book) σ) ≡ grow new (demands g.book σ)
    more_added g =
        let y = procedure_view g p known in
        let t = y.procedure in
        let others = demands_from (suc p) (drop (suc p) g.book) σ in
        ap (λ (τ : List ℕ). grow τ others) (z.added g t y.found (s.place g))
        ∙ sym (grow_append new' (returned t.body (by_sets σ (variables t)) p (start_sets t) empty) others)
        ∙ ap (λ qs. grow new' (demands_from p qs σ)) (sym (drop_here g.book p y.found))
        ∙ s.added g

-- With no body left, all demands are added and the whole table is known.
pub opening_done : {b σ new starts new' : List ℕ} {n p row : ℕ} → Opening b σ new n p row starts new' → n ≤ p → RoundPost b σ new new' starts
unfolding demands_from grow
opening_done {b} {σ} {new} {starts} {new'} {n} {p} {row} s l =
    record {
      added = λ g. all_added g;
      wide = s.wide;
      begins = record { at = λ g q h. s.begun g q (omega (arith, s.counted.is)) };
    }
  where
    all_added : (g : BookHere b) → new' ≡ grow new (demands g.book σ)
    all_added g =
        let a : p ≡ length g.book = omega (arith, s.below, s.counted.is, (book_facts g).counted) in
        let e : drop p g.book ≡ [] = rw a (drop-length g.book) in
        ap (λ qs. grow new' (demands_from p qs σ)) (sym e) ∙ s.added g
