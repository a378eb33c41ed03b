-- What the code answers for a part: the definition's result without its tree.
use Rattle.std.specs.Prelude.{ℕ, ◌+◌, Result, Ok, Err}
use Rattle.meaning.specs.Reading.{Parsed, got, bad}
use Rattle.book.specs.declared.taken.Taken as T
use Rattle.book.specs.declared.fault.Fault as F
use Rattle.book.specs.Faults.{number}

-- The bytes of a part that was read, and the loops among them; or the reason's number, and the place from the part's start.
pub data Taken : Type 0 where
  Bytes : ℕ → ℕ → Taken
  Fault : ℕ → ℕ → Taken

-- What the code's answer says, in the numbers of the rules.
abbrev pub told : Result T.Taken F.Fault → Taken
told (Ok t) = Bytes t.bytes t.loops
told (Err f) = Fault (number f.reason) f.place

-- The same of the definition's result.
unfoldable pub taken : {A : Type 0} → (A → ℕ) → Parsed A → Taken
taken loops (got a n) = Bytes n (loops a)
taken loops (bad r p) = Fault r p

-- The same, after n bytes that hold l loops.
abbrev pub plus : ℕ → ℕ → Taken → Taken
plus n l (Bytes m k) = Bytes (n + m) (l + k)
plus n l (Fault r p) = Fault r (n + p)

-- How far an answer reaches into its part.
abbrev pub span : Taken → ℕ
span (Bytes n l) = n
span (Fault r p) = p

abbrev pub loops_taken : Taken → ℕ
loops_taken (Bytes n l) = l
loops_taken (Fault r p) = 0
