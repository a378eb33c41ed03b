-- The numbers of the refusals, as the rules have them.
use Rattle.std.specs.Prelude.{ℕ, Result, Ok, Err}
use Rattle.refusals.specs.declared.Refusal.{Refusal}
use Rattle.refusals.specs.declared.Refusal.TheVariants.{Length, Contents, Body, Loops, Table, Procedure, Inputs, Size, Flow, Cells, Budget}

abbrev pub number : Refusal → ℕ
number Length = 1
number Contents = 2
number Body = 3
number Loops = 4
number Table = 5
number Procedure = 6
number Inputs = 7
number Size = 8
number Flow = 9
number Cells = 10
number Budget = 11

-- The refusal of an answer: its number, 0 for none.
abbrev pub refusal : {A : Type 0} → Result A Refusal → ℕ
refusal (Ok a) = 0
refusal (Err r) = number r

-- A field of an answer, 0 on a refusal.
abbrev pub field : {A : Type 0} → (A → ℕ) → Result A Refusal → ℕ
field f (Ok a) = f a
field f (Err r) = 0
