-- What the loops over the procedures of a readable book know of their number.
use mathlib.Core.Path.{◌≡◌}
use mathlib.Core.List.{List}
use Prim.Native.Nat.{ℕ, ◌+◌, ◌*◌, ◌≤◌, ◌<◌}
use native.Mathlib.Omega.{arith}
use lib.ListN.{length}
use Rattle.meaning.specs.Limits.{most_bytes, most_procedures, entry_bytes}
use Rattle.meaning.specs.Reading.{procedures}
use Rattle.book.specs.Here.{BookHere}
use Rattle.book.proofs.Sound.{book_facts}

-- The readable book has n procedures, which are few, and their entries lie within its bytes, which are few too.
pub record Numbered (b : List ℕ) (n : ℕ) : Type 0 where
  pub book : BookHere b
  pub is : n ≡ procedures b
  pub few : n ≤ most_procedures
  pub room : 1 + entry_bytes * n ≤ length b
  pub short : length b ≤ most_bytes

pub some_bytes : {b : List ℕ} → BookHere b → 0 < length b
some_bytes g = (book_facts g).some_bytes

-- There are at most 32, so that a table of 32 has room for each.
pub few_procedures : {b : List ℕ} {n : ℕ} → BookHere b → n ≡ procedures b → n ≤ most_procedures
few_procedures g e = omega (arith, (book_facts g).few)

pub numbered : {b : List ℕ} {n : ℕ} → BookHere b → n ≡ procedures b → Numbered b n
numbered g e =
    let f = book_facts g in
    record { book = g; is = e; few = few_procedures g e; room = omega arith; short = f.few_bytes }
