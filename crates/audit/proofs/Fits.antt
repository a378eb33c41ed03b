-- The summary that the finder answers lies within the buffer.
use mathlib.Core.Path.{◌≡◌, refl, sym, ap, ◌∙◌}
use mathlib.Core.Bool.{true}
use mathlib.Core.List.{List, [], ◌++◌, append-nil}
use mathlib.Core.Logic.{inl, inr}
use Prim.Native.Nat.{ℕ, ◌≤◌}
use native.Mathlib.Omega.{arith}
use borrow.Author.Tests.{leb-true, le-leb}
use lib.Dec.{leb}
use lib.ListN.{length, take, drop}
use lib.Seq.{take_at}
use Rattle.std.proofs.Math.ListN.{drop_of_length-le}
use Rattle.meaning.specs.Tree.{Book}
use Rattle.meaning.specs.Reading.{Reading, refused, readable, read}
use Rattle.meaning.specs.Flow.{size, find}
use Rattle.meaning.specs.Answers.{find_answer, find_book, no_find}
use Rattle.meaning.specs.Entries.{Reads, FindsIn}
use Rattle.meaning.proofs.Lists.{Tested, holds_or_fails}
use Rattle.meaning.proofs.Places.{laid}
use Rattle.meaning.proofs.Finder.{length_found}
use Rattle.book.specs.Here.{BookHere}
use Rattle.book.proofs.Answer.{accepted}

book_fits : (b : Book) (buffer : List ℕ) → (find_book b buffer).size ≤ length buffer
unfolding find_book no_find
book_fits b buffer = go (holds_or_fails (leb (size b) (length buffer)))
  where
    go : Tested (leb (size b) (length buffer)) → (find_book b buffer).size ≤ length buffer
    go (inl t) = rw (t, find_book) (leb-true (size b) (length buffer) t)
    go (inr f) = rw (f, find_book) (omega arith)

answer_fits : (book buffer : List ℕ) → (find_answer book buffer).size ≤ length buffer
unfolding find_answer no_find
answer_fits book buffer = go (read book) refl
  where
    go : (r : Reading) → read book ≡ r → (find_answer book buffer).size ≤ length buffer
    go (refused f) e = rw (e, find_answer) (omega arith)
    go (readable b) e = rw (e, find_answer) (book_fits b buffer)

pub find_fits : {book buffer after : List ℕ} {refusal places rounds : ℕ} → length after ≡ length buffer →
    FindsIn book buffer refusal places rounds after → places ≤ length after
find_fits {book} {buffer} h f = omega (arith, f.size_is, answer_fits book buffer)

-- Lent just the summary that it has found in a longer room, the finder leaves that.
module _ {book room after : List ℕ} {s n k : ℕ} (h : Reads book 0 s) (f : FindsIn book room 0 n k after) where
  g : BookHere book
  g = (accepted h).book

  few : length (find g.book).summary ≡ size g.book
  few = length_found (laid book g.is)

  -- What it answers in a buffer that is long enough.
  answers : (w : List ℕ) → leb (size g.book) (length w) ≡ true →
      find_answer book w
      ≡ record { refusal = 0; size = size g.book; rounds = (find g.book).rounds; buffer = (find g.book).summary ++ drop (size g.book) w }
  unfolding find_answer find_book
  answers w t = rw (g.is, find_answer, t, find_book)

  enough : leb (size g.book) (length room) ≡ true
  unfolding find_answer find_book no_find
  enough = go (holds_or_fails (leb (size g.book) (length room)))
    where
      go : Tested (leb (size g.book) (length room)) → leb (size g.book) (length room) ≡ true
      go (inl t) = t
      go (inr q) = let z : ◌≡◌ {A = ℕ} 0 8 = f.refusal_is ∙ rw (g.is, find_answer, q, find_book) in absurd (omega arith)

  summary_is : take n after ≡ (find g.book).summary
  summary_is =
      let e = answers room enough in
      let i : n ≡ size g.book = f.size_is ∙ ap (λ a. a.size) e in
      let j : after ≡ (find g.book).summary ++ drop (size g.book) room = f.buffer_is ∙ ap (λ a. a.buffer) e in
      ap (λ n. take n after) i ∙ ap (take (size g.book)) j ∙ take_at (find g.book).summary (drop (size g.book) room) (size g.book) few

  pub found_alone : FindsIn book (take n after) 0 (length (take n after)) k (take n after)
  found_alone =
      let e = answers room enough in
      let l : length (take n after) ≡ size g.book = ap length summary_is ∙ few in
      let t : leb (size g.book) (length (take n after)) ≡ true = le-leb (size g.book) (length (take n after)) (omega (arith, l)) in
      let w = answers (take n after) t in
      let d : drop (size g.book) (take n after) ≡ [] = drop_of_length-le (take n after) (omega (arith, l)) in
      record {
        refusal_is = rw w;
        size_is = l ∙ sym (ap (λ a. a.size) w);
        rounds_is = f.rounds_is ∙ ap (λ a. a.rounds) e ∙ sym (ap (λ a. a.rounds) w);
        buffer_is = summary_is ∙ sym (ap (λ a. a.buffer) w ∙ ap (λ x. (find g.book).summary ++ x) d ∙ append-nil (find g.book).summary);
      }
