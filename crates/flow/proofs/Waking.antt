-- What tells which procedures read a place where two summaries differ.
use mathlib.Core.Path.{◌≡◌, refl, sym, ◌∙◌}
use mathlib.Core.Logic.{inl, inr}
use mathlib.Core.Bool.{Bool, true, false, not, ◌||◌}
use mathlib.Core.List.{List}
use Prim.Native.Nat.{ℕ, ◌+◌, ◌-◌, ◌≤◌, ◌<◌}
use native.Mathlib.Omega.{arith}
use native.Mathlib.Decide.{ℕ_discrete}
use borrow.Author.Tests.{eqb-true, not-false}
use lib.Dec.{eqb}
use lib.ListN.{length, get_or, set, replicate, length-set, length-replicate}
use lib.Seq.{get_or-set_same, get_or-set_other}
use Rattle.std.specs.Cmp.Lexicographic.{pointwise}
use Rattle.std.proofs.lemmas.Bool.Decides.{Decides-eqb}
use Rattle.std.proofs.lemmas.Slice.Eq.{slice_eq-Decides}
use Rattle.meaning.specs.Limits.{most_procedures}
use Rattle.meaning.specs.Sets.{empty, member, union, single, inside}
use Rattle.meaning.specs.Reading.{procedures}
use Rattle.meaning.specs.Flow.{at}
use Rattle.meaning.proofs.Lists.{Tested, holds_or_fails}
use Rattle.meaning.proofs.Sets.{member_empty, member_union, member_single, inside_sound}
use Rattle.meaning.proofs.Frame.{Unmoved}
use Rattle.meaning.proofs.Skipping.{Among}
use Rattle.book.specs.Here.{BookHere}
use Rattle.book.proofs.Sound.{book_facts}
use Rattle.flow.specs.Waking.{walked, named, WakePre, WakePost, QuietPost}
use Rattle.flow.specs.Rounds.{Rowed, rows_of}
use Rattle.flow.proofs.Numbers.{Numbered, numbered}
use Rattle.flow.proofs.Copies.{parts_agree}
use Rattle.flow.proofs.Starts.{begin_is, end_is, rowed}

-- After p turns the summaries agree at the results in the set.
pub record Quieting (σ τ : List ℕ) (n p s : ℕ) : Type 0 where
  pub few : n ≤ most_procedures
  pub quiet : QuietPost σ τ s

pub quieting_none : {n : ℕ} (σ τ : List ℕ) → n ≤ most_procedures → Quieting σ τ n 0 0
unfolding empty
quieting_none σ τ h =
    record {
      few = h;
      quiet = record { quiet = λ p m. let e = member_empty p in let z : ◌≡◌ {A = ℕ} 0 1 = cc in absurd (omega arith) };
    }

-- A result that did not change is put into the set.
pub quieting_more : {σ τ : List ℕ} {n p s t s' : ℕ} → Quieting σ τ n p s → get_or σ p 0 ≡ get_or τ p 0 → t ≡ union s (single p) → s' ≡ t →
    Quieting σ τ n (p + 1) s'
unfolding at empty
quieting_more {σ} {τ} {n} {p} {s} {t} {s'} c e u v =
    record { few = c.few; quiet = record { quiet = λ r m. go r (rw (v, u, member_union r s (single p)) at m) (holds_or_fails (member r s)) } }
  where
    go : (r : ℕ) → (member r s || member r (single p)) ≡ true → Tested (member r s) → get_or σ r 0 ≡ get_or τ r 0
    go r m (inl h) = c.quiet.quiet r h
    go r m (inr h) =
        let k : member r (single p) ≡ true = rw h at m in
        let q : r ≡ p = eqb-true r p (rw member_single at k) in
        rw q e

pub quieting_same : {σ τ : List ℕ} {n p s s' : ℕ} → Quieting σ τ n p s → s' ≡ s → Quieting σ τ n (p + 1) s'
quieting_same c e = rw e (record { few = c.few; quiet = c.quiet })

-- Whether each of the first p procedures that read a place where the summaries differ is walked next.
pub record Rousing (b σ τ called starts : List ℕ) (walks : List Bool) (n s p : ℕ) (next : List Bool) : Type 0 where
  pub pre : WakePre b σ τ starts walks
  pub counted : Numbered b n
  pub quiet : QuietPost σ τ s
  pub long : length next ≡ most_procedures
  pub asleep : (g : BookHere b) (q : ℕ) → q < p → walked next q ≡ false → Unmoved g.book (Among g.book (named called) q) q σ τ

pub rousing_none : {b σ τ starts : List ℕ} {walks : List Bool} {n s : ℕ} (called : List ℕ) → WakePre b σ τ starts walks → n ≡ procedures b →
    QuietPost σ τ s → Rousing b σ τ called starts walks n s 0 (replicate most_procedures false)
rousing_none called c e q =
    record {
      pre = c;
      counted = numbered c.round.book e;
      quiet = q;
      long = length-replicate most_procedures false;
      asleep = λ g q h. absurd (omega arith);
    }

-- One turn says of procedure p whether it is walked next.
module _ {b σ τ called starts : List ℕ} {walks next : List Bool} {n s p : ℕ} (c : Rousing b σ τ called starts walks n s p next) (l : p < n) where
  rousing_turn : (v : Bool) → (v ≡ false → (g : BookHere b) → Unmoved g.book (Among g.book (named called) p) p σ τ) →
      Rousing b σ τ called starts walks n s (p + 1) (set next p v)
  rousing_turn v new =
      record {
        pre = c.pre;
        counted = c.counted;
        quiet = c.quiet;
        long = length-set next p v ∙ c.long;
        asleep = λ g q h u. go g q h u (ℕ_discrete q p);
      }
    where
      go : (g : BookHere b) (q : ℕ) → q < p + 1 → walked (set next p v) q ≡ false → Dec (q ≡ p) → Unmoved g.book (Among g.book (named called) q) q σ τ
      go g q h u (yes d) =
          rw d (new (sym (get_or-set_same next p v false (omega (arith, c.long, c.counted.few, l))) ∙ rw d at u) g)
      go g q h u (no d) = c.asleep g q (omega arith) (sym (get_or-set_other next p q v false d) ∙ u)

  -- All that it may call are quiet.
  results_quiet : {t : Bool} → t ≡ inside (get_or called p 0) s → t ≡ true → (r : ℕ) → named called p r ≡ true → at σ r ≡ at τ r
  results_quiet e t r m = c.quiet.quiet r ((inside_sound (get_or called p 0) s (sym e ∙ t)).each r m)

  -- A procedure is walked next that may call one whose result changed.
  pub rousing_called : {v : Bool} → v ≡ true → Rousing b σ τ called starts walks n s (p + 1) (set next p v)
  rousing_called {v} e = rousing_turn v (λ f. let z : ◌≡◌ {A = ℕ} 0 1 = cc in absurd (omega arith))

  -- So is one whose own rows changed: else it reads no place that did.
  pub rousing_moved : {t v : Bool} → t ≡ inside (get_or called p 0) s → t ≡ true →
      v ≡ not (pointwise eqb (rows_of σ starts p) (rows_of τ starts p)) → Rousing b σ τ called starts walks n s (p + 1) (set next p v)
  unfolding at empty
  rousing_moved {t} {v} e f m =
      rousing_turn v
      (λ u g.
      let h : p < procedures b = omega (arith, c.counted.is, l) in
      let i = begin_is c.pre.begins g p h in
      let j = end_is c.pre.begins g p h in
      let d = slice_eq-Decides Decides-eqb (rows_of σ starts p) (rows_of τ starts p) _ refl in
      let y : rows_of σ starts p ≡ rows_of τ starts p = d.0 (not-false (pointwise eqb (rows_of σ starts p) (rows_of τ starts p)) (sym m ∙ u)) in
      record {
        results = λ r k. results_quiet e f r k.1;
        rows = λ k x y'. parts_agree σ τ (get_or starts p 0) (get_or starts (p + 1) 0 - get_or starts p 0) y k (omega arith) (omega arith);
      })

  -- The rows of a procedure that was not walked are as they were.
  pub rousing_kept : {t : Bool} (v : Bool) → t ≡ inside (get_or called p 0) s → t ≡ true → walked walks p ≡ false →
      Rousing b σ τ called starts walks n s (p + 1) (set next p v)
  rousing_kept {t} v e f w =
      rousing_turn v
      (λ u g.
      let h : p < procedures b = omega (arith, c.counted.is, l) in
      record {
        results = λ r k. results_quiet e f r k.1;
        rows = λ k x y. c.pre.kept.rows g p h w k x y;
      })

  pub rousing_row : Rowed starts p
  rousing_row = rowed c.pre.begins c.counted l

pub rousing_done : {b σ τ called starts : List ℕ} {walks next : List Bool} {n s p : ℕ} → Rousing b σ τ called starts walks n s p next → n ≤ p →
    WakePost b σ τ called next
rousing_done c l =
    record {
      woken = λ g. record { unmoved = λ q h t. c.asleep g q (omega (arith, c.counted.is, (book_facts g).counted)) t };
    }
