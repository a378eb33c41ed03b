-- The table of where the rows of each procedure begin: what it says of the rows of one procedure, and that they lie within the places.
use mathlib.Core.Path.{◌≡◌, ap, ◌∙◌}
use mathlib.Core.List.{List}
use Prim.Native.Nat.{ℕ, suc, ◌+◌, ◌≤◌, ◌<◌}
use native.Mathlib.Numerals.{add-one}
use native.Mathlib.Omega.{arith}
use lib.ListN.{length, get_or}
use Rattle.meaning.specs.Reading.{procedures}
use Rattle.meaning.proofs.Places.{row_of}
use Rattle.book.specs.Here.{BookHere}
use Rattle.book.proofs.Sound.{procedure_view, size_of}
use Rattle.flow.specs.Copies.{most_places}
use Rattle.flow.specs.Rounds.{Begins, Rowed}
use Rattle.flow.proofs.Spans.{rows_next, rows_below, size_rows}
use Rattle.flow.proofs.Numbers.{Numbered}

-- Where the rows of procedure p of a readable book begin.
abbrev pub row_at : {b : List ℕ} → BookHere b → ℕ → ℕ
row_at g p = row_of (length g.book) g.book p

-- The rows of a procedure come before those of the next, and all lie within the places.
pub rows_on : {b : List ℕ} (g : BookHere b) (p : ℕ) → p < procedures b → row_at g p ≤ row_at g (suc p)
rows_on g p h = omega (arith, rows_next (length g.book) g.book p (procedure_view g p h).found)

pub rows_fit : {b : List ℕ} (g : BookHere b) (p : ℕ) → row_at g p ≤ most_places
rows_fit g p = omega (arith, rows_below (length g.book) g.book p, size_rows g.book, size_of g)

-- The table's entry for p, and the one behind it.
pub begin_is : {b starts : List ℕ} → Begins b starts → (g : BookHere b) (p : ℕ) → p < procedures b → get_or starts p 0 ≡ row_at g p
begin_is c g p h = c.at g p (omega arith)

pub end_is : {b starts : List ℕ} → Begins b starts → (g : BookHere b) (p : ℕ) → p < procedures b → get_or starts (p + 1) 0 ≡ row_at g (suc p)
end_is c g p h = c.at g (p + 1) (omega arith) ∙ ap (row_at g) (add-one p)

-- The same of the numbers in the table.
pub rowed : {b starts : List ℕ} {n p : ℕ} → Begins b starts → Numbered b n → p < n → Rowed starts p
rowed {b} {starts} {n} {p} c u h =
    let g = u.book in
    let k : p < procedures b = omega (arith, u.is) in
    let i = begin_is c g p k in
    let j = end_is c g p k in
    record { known = omega (arith, u.few); on = omega (arith, rows_on g p k); fit = omega (arith, rows_fit g (suc p)) }
