-- What the code answers for the bodies: the definition's result without its trees.
use Rattle.std.specs.Prelude.{◌≡◌, true, List, [], ◌∷◌, ℕ, ◌+◌, ◌*◌, ◌≤◌, length, Result, Ok, Err}
use Rattle.meaning.specs.Limits.{most_bytes}
use Rattle.meaning.specs.Tree.{Book, variables, loops_of}
use Rattle.meaning.specs.Reading.{Parsed, got, bad, entries, arities, contents, bodies, loops_all}
use Rattle.book.specs.declared.bodies.Counted as C
use Rattle.book.specs.declared.fault.Fault as F
use Rattle.book.specs.Faults.{number}

-- The sets of all rows: for each loop one per variable of its procedure.
unfoldable pub sets_all : Book → ℕ
sets_all [] = 0
sets_all (q ∷ qs) = variables q * loops_of q.body + sets_all qs

-- The loops and the sets; or the reason's number, and the place in the book.
pub data Counted : Type 0 where
  Sets : ℕ → ℕ → Counted
  Fault : ℕ → ℕ → Counted

-- What the code's answer says, in the numbers of the rules.
abbrev pub told : Result C.Counted F.Fault → Counted
told (Ok c) = Sets c.loops c.sets
told (Err f) = Fault (number f.reason) f.place

unfoldable pub counted : Parsed Book → Counted
counted (got qs n) = Sets (loops_all qs) (sets_all qs)
counted (bad r p) = Fault r p

abbrev pub counted_of : List ℕ → Counted
counted_of b = counted (bodies b (arities (entries b)) (entries b))

abbrev pub sets_in : Counted → ℕ
sets_in (Sets l k) = k
sets_in (Fault r p) = 0

-- What the code answers for the bodies of a book.
pub record Summed (b : List ℕ) (r : Result C.Counted F.Fault) : Type 0 where
  pub is : told r ≡ counted_of b
  pub room : sets_in (told r) ≤ 16 * most_bytes

-- What is known of a book before its bodies are read.
pub record Judged (b : List ℕ) : Type 0 where
  pub few : length b ≤ most_bytes
  pub kept : contents b ≡ true
