-- What the checker and the finder answer, way by way through their tests.
use mathlib.Core.Path.{◌≡◌, refl, ap, ◌∙◌}
use mathlib.Core.Bool.{Bool, true, false}
use mathlib.Core.List.{List, [], ◌++◌}
use Prim.Native.Nat.{ℕ, ◌≤◌, ◌<◌}
use native.Mathlib.Omega.{arith}
use borrow.Author.Tests.{eq-eqb, ne_eqb, le-leb, lt-leb}
use lib.Dec.{leb}
use lib.ListN.{length, take, drop, replicate}
use Rattle.meaning.specs.Reading.{Reading, refused, readable, read}
use Rattle.meaning.specs.Flow.{size}
use Rattle.meaning.specs.Answers.{check_answer, check_book, find_answer, find_book, no_find}
use Rattle.meaning.specs.Entries.{Reads, Checks, FindsIn}
use Rattle.meaning.proofs.Readable.{refused_number}
use Rattle.std.specs.Prelude.{Result, ⊤}
use Rattle.meaning.proofs.OneAnswer.{one_check, one_find}
use Rattle.refusals.specs.declared.Refusal.{Refusal}
use Rattle.refusals.specs.Numbers.{refusal, field}
use Rattle.refusals.proofs.OneNumber.{one_answer}
use Rattle.book.proofs.Answer.{accepted, rejected}
use Rattle.flow.specs.declared.Found.{Found}
use Rattle.book.specs.Here.{Sized}
use Rattle.flow.specs.Settling.{SettlePre, SettlePost, SatisfiedPost}

-- The checker.
pub check_refused : {b σ : List ℕ} {k s : ℕ} → Reads b k s → (k ≡ 0 → ⊥) → Checks b σ k
unfolding check_answer
check_refused {b} {σ} h n = let x = rejected h n in record { refusal_is = x.number ∙ rw (x.is, check_answer) }

module _ {b σ : List ℕ} {s : ℕ} (h : Reads b 0 s) where
  pub check_unsized : (length σ ≡ s → ⊥) → Checks b σ 8
  unfolding check_answer check_book
  check_unsized n =
      let y = accepted h in
      let g = y.book in
      let m = ne_eqb (length σ) (size g.book) (λ e. n (cc (e, y.size_is))) in
      record { refusal_is = rw (g.is, check_answer, m, check_book) }

  module _ (l : length σ ≡ s) where
    pub settle_pre : SettlePre b σ
    settle_pre = let y = accepted h in record { book = y.book; sized = l ∙ y.size_is }

    tested : {r : Bool} {a : ℕ} → SatisfiedPost b σ r → a ≡ (elim r [ false ↦ 9 | true ↦ 0 ]) → Checks b σ a
    unfolding check_answer check_book
    tested p e =
        let y = accepted h in
        let g = y.book in
        let m = eq-eqb (length σ) (size g.book) (l ∙ y.size_is) in
        record { refusal_is = e ∙ rw (p.is g, g.is, check_answer, m, check_book) }

    pub check_good : {r : Bool} → SatisfiedPost b σ r → r ≡ true → Checks b σ 0
    check_good p e = tested p (rw e)

    pub check_bad : {r : Bool} → SatisfiedPost b σ r → r ≡ false → Checks b σ 9
    check_bad p e = tested p (rw e)

-- The finder.
pub find_refused : {b buffer : List ℕ} {k s : ℕ} → Reads b k s → (k ≡ 0 → ⊥) → FindsIn b buffer k 0 0 buffer
unfolding find_answer no_find
find_refused {b} {buffer} h n =
    let x = rejected h n in
    record {
      refusal_is = x.number ∙ rw (x.is, find_answer);
      size_is = rw (x.is, find_answer);
      rounds_is = rw (x.is, find_answer);
      buffer_is = rw (x.is, find_answer);
    }

-- A buffer that is the same is left the same.
pub find_left : {b buffer w after : List ℕ} {k s n : ℕ} → FindsIn b w k s n after → w ≡ buffer → FindsIn b buffer k s n after
find_left f e = rw e at f

-- A buffer of which no byte is filled is the same.
pub unfilled : (w : List ℕ) {y : List ℕ} (n : ℕ) → y ≡ replicate (length (take n w)) 0 → n ≡ 0 → y ++ drop n w ≡ w
unfilled w {y} n e z = let q : y ≡ [] = rw z at e in rw (z, q) refl

module _ {b buffer : List ℕ} {s : ℕ} (h : Reads b 0 s) where
  pub find_short : length buffer < s → FindsIn b buffer 8 0 0 buffer
  unfolding find_answer find_book no_find
  find_short l =
      let y = accepted h in
      let g = y.book in
      let m = lt-leb (size g.book) (length buffer) (omega (arith, y.size_is)) in
      record {
        refusal_is = rw (g.is, find_answer, m, find_book);
        size_is = rw (g.is, find_answer, m, find_book);
        rounds_is = rw (g.is, find_answer, m, find_book);
        buffer_is = rw (g.is, find_answer, m, find_book);
      }

  pub find_found : s ≤ length buffer → {σ : List ℕ} {n : ℕ} → SettlePost b σ n → FindsIn b buffer 0 s n (σ ++ drop s buffer)
  unfolding find_answer find_book
  find_found l {σ} {n} p =
      let y = accepted h in
      let g = y.book in
      let m = le-leb (size g.book) (length buffer) (omega (arith, y.size_is)) in
      record {
        refusal_is = rw (g.is, find_answer, m, find_book);
        size_is = y.size_is ∙ rw (g.is, find_answer, m, find_book);
        rounds_is = p.rounds_are g ∙ rw (g.is, find_answer, m, find_book);
        buffer_is = rw (y.size_is, p.summary_is g, g.is, find_answer, m, find_book);
      }

-- A book in which the finder has found a summary is readable, and its summaries have the size found.
pub found_here : {b buffer after : List ℕ} {r s n : ℕ} → FindsIn b buffer r s n after → r ≡ 0 → Sized b s
unfolding find_answer find_book no_find
found_here {b} {buffer} {after} {r} {s} f z = go (read b) refl
  where
    go : (x : Reading) → read b ≡ x → Sized b s
    go (refused y) e =
        let w = rw (e, find_answer) at f.refusal_is in
        let m = refused_number b e in
        absurd (omega arith)
    go (readable q) e = fits (leb (size q) (length buffer)) refl
      where
        fits : (t : Bool) → leb (size q) (length buffer) ≡ t → Sized b s
        fits true t = record { book = record { book = q; is = e }; size_is = f.size_is ∙ rw (e, find_answer, t, find_book) }
        fits false t = let w = rw (e, find_answer, t, find_book) at f.refusal_is in absurd (omega arith)

-- As `one_check` and `one_find` have it of the numbers, of the answers themselves.
pub one_check_answer : {b σ : List ℕ} (r s : Result ⊤ Refusal) → Checks b σ (refusal r) → Checks b σ (refusal s) → r ≡ s
one_check_answer r s x y = one_answer r s (one_check x y) (λ a b p q. refl)

one_found : (a b : Found) → a.size ≡ b.size → a.rounds ≡ b.rounds → a ≡ b
one_found a b s n = ap (λ k. record { size = k; rounds = a.rounds }) s ∙ ap (λ k. record { size = b.size; rounds = k }) n

pub one_find_answer : {b buffer w w' : List ℕ} (r s : Result Found Refusal) →
    FindsIn b buffer (refusal r) (field (λ f. f.size) r) (field (λ f. f.rounds) r) w →
    FindsIn b buffer (refusal s) (field (λ f. f.size) s) (field (λ f. f.rounds) s) w' →
    (r ≡ s) × (w ≡ w')
one_find_answer r s x y =
    let o = one_find x y in
    (one_answer r s o.0 (λ a b p q. one_found a b (rw (p, q) at o.1) (rw (p, q) at o.2)), o.3)
