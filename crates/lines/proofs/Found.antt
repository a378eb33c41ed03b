-- The listing by what the finder left in a buffer that is long enough for every book.
use mathlib.Core.Path.{◌≡◌, ap, ◌∙◌}
use mathlib.Core.Bool.{true}
use mathlib.Core.List.{List, [], ◌∷◌, ◌++◌}
use Prim.Native.Nat.{ℕ, ◌≤◌}
use native.Mathlib.Omega.{arith}
use lib.Dec.{leb}
use lib.ListN.{length, take, drop, length-append, length-map}
use lib.Seq.{take_at}
use borrow.Author.Tests.{le-leb}
use Rattle.meaning.specs.Reading.{procedures}
use Rattle.meaning.specs.Flow.{size, limits, find}
use Rattle.meaning.specs.Answers.{find_answer, find_book, decimal, refused_text, listing}
use Rattle.meaning.specs.Entries.{Reads, FindsIn}
use Rattle.meaning.proofs.Places.{laid}
use Rattle.meaning.proofs.Finder.{length_found}
use Rattle.refusals.specs.declared.Refusal.{Refusal}
use Rattle.refusals.specs.Numbers.{number}
use Rattle.refusals.proofs.OneNumber.{some_number}
use Rattle.book.specs.Here.{BookHere}
use Rattle.book.proofs.Sound.{book_facts, size_of}
use Rattle.book.proofs.Answer.{accepted, rejected}
use Rattle.lines.specs.Listed.{Listed}

-- What the listing of a refused book says.
pub refused_says : {book : List ℕ} {r s : ℕ} → Reads book r s → (r ≡ 0 → ⊥) → listing book ≡ refused_text ++ (decimal r ++ (10 ∷ []))
unfolding listing
refused_says h n = let w = rejected h n in rw (w.is, listing, ← w.number)

module _ {book : List ℕ} {s : ℕ} (h : Reads book 0 s) where
  here : BookHere book
  here = (accepted h).book

  found_length : length (find here.book).summary ≡ size here.book
  found_length = length_found (laid book here.is)

  -- The finder in a buffer of 1,056 places.
  module _ {buffer after : List ℕ} {refusal places rounds : ℕ} (l : length buffer ≡ 1056)
      (f : FindsIn book buffer refusal places rounds after) where
    same : find_answer book buffer
        ≡ record {
          refusal = 0;
          size = size here.book;
          rounds = (find here.book).rounds;
          buffer = (find here.book).summary ++ drop (size here.book) buffer;
        }
    unfolding find_answer find_book
    same =
        let room : leb (size here.book) (length buffer) ≡ true = le-leb (size here.book) (length buffer) (omega (arith, size_of here)) in
        rw (here.is, find_answer, room, find_book)

    -- It refuses none.
    pub never_refused : (r : Refusal) → refusal ≡ number r → ⊥
    never_refused r e = let z : refusal ≡ 0 = f.refusal_is ∙ ap (λ a. a.refusal) same in let m = some_number r in omega arith

    place_count : places ≡ size here.book
    place_count = f.size_is ∙ ap (λ a. a.size) same

    left : after ≡ (find here.book).summary ++ drop (size here.book) buffer
    left = f.buffer_is ∙ ap (λ a. a.buffer) same

    summary : take places after ≡ (find here.book).summary
    summary =
        ap (λ n. take n after) place_count ∙ ap (take (size here.book)) left
        ∙ take_at (find here.book).summary (drop (size here.book) buffer) (size here.book) found_length

    pub fits : places ≤ length after
    fits = omega (arith, found_length, place_count, ap length left, length-append (find here.book).summary (drop (size here.book) buffer))

    -- The summary has a result for each procedure.
    pub results : procedures book ≤ length (take places after)
    unfolding size limits
    results =
        let n : length (take places after) ≡ size here.book = ap length summary ∙ found_length in
        let m = simp (length-append, length-map) at n in
        omega (arith, (book_facts here).counted)

    pub listed_says : {text : List ℕ} → Listed book (take places after) text → text ≡ listing book
    unfolding listing
    listed_says t = rw (here.is, listing) (rw summary at (t.lists here))
