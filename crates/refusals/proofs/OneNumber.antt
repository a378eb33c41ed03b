-- No two refusals have one number, and none has 0: so the number of an answer's refusal tells the refusal, and its fields the rest.
use mathlib.Core.Path.{◌≡◌, refl, sym, ap}
use mathlib.Core.List.{[], ◌∷◌}
use Prim.Native.Nat.{ℕ, ◌≤◌}
use native.Mathlib.Omega.{arith}
use lib.ListN.{get_or}
use Rattle.refusals.specs.declared.Refusal.{Refusal}
use Rattle.refusals.specs.declared.Refusal.TheVariants.{Length, Contents, Body, Loops, Table, Procedure, Inputs, Size, Flow, Cells, Budget}
use Rattle.std.specs.Prelude.{Result, Ok, Err}
use Rattle.refusals.specs.Numbers.{number, refusal}

-- The refusal of a number.
refusal_of : ℕ → Refusal
refusal_of n =
    get_or (Length ∷ Length ∷ Contents ∷ Body ∷ Loops ∷ Table ∷ Procedure ∷ Inputs ∷ Size ∷ Flow ∷ Cells ∷ Budget ∷ []) n Budget

back : (r : Refusal) → refusal_of (number r) ≡ r
unfolding refusal_of
back Length = refl
back Contents = refl
back Body = refl
back Loops = refl
back Table = refl
back Procedure = refl
back Inputs = refl
back Size = refl
back Flow = refl
back Cells = refl
back Budget = refl

pub one_number : (r s : Refusal) → number r ≡ number s → r ≡ s
one_number r s e = cc (back r, back s, e)

pub some_number : (r : Refusal) → 1 ≤ number r
some_number Length = omega arith
some_number Contents = omega arith
some_number Body = omega arith
some_number Loops = omega arith
some_number Table = omega arith
some_number Procedure = omega arith
some_number Inputs = omega arith
some_number Size = omega arith
some_number Flow = omega arith
some_number Cells = omega arith
some_number Budget = omega arith

pub not_none : (r : Refusal) → number r ≡ 0 → ⊥
not_none r e = let s = some_number r in omega arith

-- Two answers with one refusal's number are one, if two that are not refused are one.
pub one_answer : {A : Type 0} (r s : Result A Refusal) → refusal r ≡ refusal s →
    ((a b : A) → r ≡ Ok a → s ≡ Ok b → a ≡ b) → r ≡ s
one_answer (Ok a) (Ok b) e f = ap Ok (f a b refl refl)
one_answer (Ok a) (Err s) e f = absurd (not_none s (sym e))
one_answer (Err r) (Ok b) e f = absurd (not_none r e)
one_answer (Err r) (Err s) e f = ap Err (one_number r s e)
