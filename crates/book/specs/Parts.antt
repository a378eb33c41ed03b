-- What the code answers for each kind of part, by the definition.
use Rattle.std.specs.Prelude.{Bool, true, false, List, ℕ, eqb, length, drop}
use Rattle.meaning.specs.Tree.{Cmd, Run, Closing, stop, then, loops, loops_in, loops_of}
use Rattle.meaning.specs.Reading.{Parsed, got, more, next, Scope, ExprForm, CmdForm, LastForm, expr, expr_of, arguments, until, run, command, cmd_of, entries, arities, closes, last_form, last_of, closing, body}
use Rattle.book.specs.declared.scope.Scope as S
use Rattle.book.specs.Taken.{Taken, taken}

-- What a body with so many variables may name, beside procedures with these parameter counts.
abbrev pub naming : ℕ → List ℕ → Scope
naming n ar = record { variables = n; arities = ar }

-- What the code's scope names.
abbrev pub known : S.Scope → Scope
known s = naming s.variables (arities (entries s.book.now))

-- An expression holds no loop.
abbrev pub no_loops : {A : Type 0} → A → ℕ
no_loops a = 0

abbrev pub expr_taken : Scope → ℕ → List ℕ → Taken
expr_taken v d s = taken no_loops (expr v d s)

-- An expression of this form, from its code on; those inside it have `d` levels of depth left.
abbrev pub expr_as : ExprForm → Scope → ℕ → List ℕ → Taken
expr_as f v d s = taken no_loops (expr_of v (expr v d) f (drop 1 s))

-- So many expressions behind two bytes.
abbrev pub arguments_taken : ℕ → Scope → ℕ → List ℕ → Taken
arguments_taken n v d s = taken no_loops (more 2 (arguments (expr v d) n (drop 2 s)))

abbrev pub command_taken : Scope → ℕ → List ℕ → Taken
command_taken v d s = taken loops (command v d s)

-- An ordinary command of this form, from its code on.
abbrev pub command_as : CmdForm → Scope → ℕ → List ℕ → Taken
command_as f v d s = taken loops (cmd_of v (expr v d) (run (command v d)) f (drop 1 s))

-- The codes that end ordinary commands: those of closing commands, or 00.
abbrev pub ending : Bool → ℕ → Bool
ending true k = closes k
ending false k = eqb 0 k

-- Ordinary commands up to a code that ends them.
unfoldable pub ordinaries : (ℕ → Bool) → (List ℕ → Parsed Cmd) → ℕ → List ℕ → Parsed Run
ordinaries ends one n s = until ends (λ s. got stop 0) one then n s

abbrev pub ordinaries_taken : Bool → Scope → ℕ → List ℕ → Taken
ordinaries_taken closed v d s = taken loops_in (ordinaries (ending closed) (command v d) (length s) s)

abbrev pub run_taken : Scope → ℕ → List ℕ → Taken
run_taken v d s = taken loops_in (run (command v d) s)

abbrev pub closing_taken : Scope → ℕ → List ℕ → Taken
closing_taken v d s = taken loops_of (closing v d s)

-- A closing command, from its code on; what is inside it has `d` levels of depth left.
unfoldable pub closer : Scope → ℕ → List ℕ → Parsed Closing
closer v d s = next s λ k s. last_of (expr v d) (closing v d) (last_form k) s

abbrev pub closer_taken : Scope → ℕ → List ℕ → Taken
closer_taken v d s = taken loops_of (closer v d s)

-- A closing command of this form, from its code on.
abbrev pub closer_as : LastForm → Scope → ℕ → List ℕ → Taken
closer_as f v d s = taken loops_of (last_of (expr v d) (closing v d) f (drop 1 s))

abbrev pub body_taken : Scope → List ℕ → Taken
body_taken v s = taken loops_of (body v s)
