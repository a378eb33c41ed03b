-- Reading bytes into the tree of a book, with every rule of 'The recipe book'.
use Rattle.std.specs.Prelude.{Bool, true, false, ◌&&◌, List, [], ◌∷◌, map, ℕ, zero, suc, ◌+◌, ◌*◌, eqb, leb, ltb, length, get_or, take, drop}
use Rattle.std.proofs.Math.Option.{some, none}
use Rattle.std.proofs.Math.ListN.{get_elem?}
use Rattle.meaning.specs.Limits.{most_bytes, most_procedures, entry_bytes, most_parameters, most_locals, most_depth, most_loops}
use Rattle.meaning.specs.Lists.{each}
use Rattle.meaning.specs.Tree.{Operation, sum, difference, product, quotient, equal, less, smaller, larger, Expr, Args, Cmd, Run, Closing, Book}
use Rattle.meaning.specs.Tree.{constant, variable, operation, call, nil, arg, assign, branch, loop, stop, then, first, give, pick, variables, loops_of, placed_of}

-- Why a body breaks a rule, in the order in which the reasons rank at one byte.
abbrev pub ended_early : ℕ
ended_early = 1

abbrev pub too_deep : ℕ
too_deep = 2

abbrev pub unknown_code : ℕ
unknown_code = 3

abbrev pub no_variable : ℕ
no_variable = 4

abbrev pub no_operation : ℕ
no_operation = 5

abbrev pub no_procedure : ℕ
no_procedure = 6

abbrev pub left_over : ℕ
left_over = 7

-- What reading a part gives: what was read and how many bytes it took, or a fault: its reason and its place.
pub data Parsed (A : Type 0) : Type 0 where
  got : A → ℕ → Parsed A
  bad : ℕ → ℕ → Parsed A

-- The same, n bytes further on.
unfoldable pub more : {A : Type 0} → ℕ → Parsed A → Parsed A
more n (got a m) = got a (n + m)
more n (bad r p) = bad r (n + p)

-- Read on after a part of s.
unfoldable pub and_then : {A B : Type 0} → List ℕ → Parsed A → (A → List ℕ → Parsed B) → Parsed B
and_then s (got a n) g = more n (g a (drop n s))
and_then s (bad r p) g = bad r p

-- The next byte; where there is none, the body ended early.
unfoldable pub next : {A : Type 0} → List ℕ → (ℕ → List ℕ → Parsed A) → Parsed A
next [] g = bad ended_early 0
next (b ∷ s) g = g b s

-- A byte that passes the test is taken; one that does not is a fault with this reason.
unfoldable pub passing : {A : Type 0} → Bool → ℕ → Parsed A → Parsed A
passing true r p = more 1 p
passing false r p = bad r 0

-- What a body may name: its variables, and the procedures with their parameter counts.
pub record Scope : Type 0 where
  pub variables : ℕ
  pub arities : List ℕ

-- The forms of an expression, by their codes.
pub data ExprForm : Type 0 where
  a_constant a_variable an_operation a_call no_expression : ExprForm

unfoldable pub expr_form : ℕ → ExprForm
expr_form k =
    elim (eqb k 0x10) [
      | true ↦ a_constant
      | false ↦ elim (eqb k 0x11) [
        | true ↦ a_variable
        | false ↦ elim (eqb k 0x12) [
          | true ↦ an_operation
          | false ↦ elim (eqb k 0x13) [ true ↦ a_call | false ↦ no_expression ]
        ]
      ]
    ]

-- The operations, by their numbers.
abbrev pub operations : List Operation
operations = sum ∷ difference ∷ product ∷ quotient ∷ equal ∷ less ∷ smaller ∷ larger ∷ []

-- A constant: four bytes, low byte first.
unfoldable pub constant_at : List ℕ → Parsed Expr
constant_at s =
    next s λ a s. more 1
    (next s λ b s. more 1
    (next s λ c s. more 1
    (next s λ d s. got (constant (a + 256 * (b + 256 * (c + 256 * d)))) 1)))

-- One expression for each parameter of the procedure called.
unfoldable pub arguments : (List ℕ → Parsed Expr) → ℕ → List ℕ → Parsed Args
arguments one zero s = got nil 0
arguments one (suc n) s = and_then s (one s) λ e s. and_then s (arguments one n s) λ es s. got (arg e es) 0

-- An expression after its code; `one` reads an expression inside it.
unfoldable pub expr_of : Scope → (List ℕ → Parsed Expr) → ExprForm → List ℕ → Parsed Expr
expr_of v one a_constant s = more 1 (constant_at s)
expr_of v one a_variable s = more 1 (next s λ x s. passing (ltb x v.variables) no_variable (got (variable x) 0))
expr_of v one an_operation s =
    more 1 (next s λ o s. elim (get_elem? operations o) [
      | none ↦ bad no_operation 0
      | some f ↦ more 1 (and_then s (one s) λ a s. and_then s (one s) λ b s. got (operation f a b) 0)
    ])
expr_of v one a_call s =
    more 1 (next s λ p s. passing (ltb p (length v.arities)) no_procedure
    (and_then s (arguments one (get_or v.arities p 0) s) λ es s. got (call p es) 0))
expr_of v one no_expression s = bad unknown_code 0

-- An expression with `d` levels of depth left.
unfoldable pub expr : Scope → ℕ → List ℕ → Parsed Expr
expr v zero s = next s λ k s. bad too_deep 0
expr v (suc d) s = next s λ k s. expr_of v (expr v d) (expr_form k) s

-- Ordinary commands, one after another, up to a code that ends them; `last` reads from that code on. `n` is at least the bytes left.
unfoldable pub until : {B : Type 0} → (ℕ → Bool) → (List ℕ → Parsed B) → (List ℕ → Parsed Cmd) → (Cmd → B → B) → ℕ → List ℕ → Parsed B
until ends last one join zero s = bad ended_early 0
until ends last one join (suc n) [] = bad ended_early 0
until ends last one join (suc n) (k ∷ s) =
    elim (ends k) [
      | true ↦ last (k ∷ s)
      | false ↦ and_then (k ∷ s) (one (k ∷ s)) λ c s. and_then s (until ends last one join n s) λ r s. got (join c r) 0
    ]

-- S 00: a run of ordinary commands and the byte that ends it.
unfoldable pub run : (List ℕ → Parsed Cmd) → List ℕ → Parsed Run
run one s = until (eqb 0) (λ s. got stop 1) one then (length s) s

-- The forms of an ordinary command, by their codes.
pub data CmdForm : Type 0 where
  an_assignment an_if a_while no_command : CmdForm

unfoldable pub cmd_form : ℕ → CmdForm
cmd_form k =
    elim (eqb k 0x01) [
      | true ↦ an_assignment
      | false ↦ elim (eqb k 0x02) [
        | true ↦ an_if
        | false ↦ elim (eqb k 0x03) [ true ↦ a_while | false ↦ no_command ]
      ]
    ]

-- An ordinary command after its code; `one` reads an expression inside it, `some_run` a run.
unfoldable pub cmd_of : Scope → (List ℕ → Parsed Expr) → (List ℕ → Parsed Run) → CmdForm → List ℕ → Parsed Cmd
cmd_of v one some_run an_assignment s =
    more 1 (next s λ x s. passing (ltb x v.variables) no_variable (and_then s (one s) λ e s. got (assign x e) 0))
cmd_of v one some_run an_if s =
    more 1 (and_then s (one s) λ e s. and_then s (some_run s) λ a s. and_then s (some_run s) λ b s. got (branch e a b) 0)
cmd_of v one some_run a_while s = more 1 (and_then s (one s) λ e s. and_then s (some_run s) λ a s. got (loop 0 e a) 0)
cmd_of v one some_run no_command s = bad unknown_code 0

-- An ordinary command with `d` levels of depth left.
unfoldable pub command : Scope → ℕ → List ℕ → Parsed Cmd
command v zero s = next s λ k s. bad too_deep 0
command v (suc d) s = next s λ k s. cmd_of v (expr v d) (run (command v d)) (cmd_form k) s

-- The forms of a closing command, by their codes.
pub data LastForm : Type 0 where
  a_return a_pick no_closing : LastForm

unfoldable pub last_form : ℕ → LastForm
last_form k = elim (eqb k 0x04) [ true ↦ a_return | false ↦ elim (eqb k 0x05) [ true ↦ a_pick | false ↦ no_closing ] ]

-- This code closes a sequence.
unfoldable pub closes : ℕ → Bool
closes k = elim (last_form k) [ a_return ↦ true | a_pick ↦ true | no_closing ↦ false ]

-- A closing command after its code; `one` reads an expression inside it, `inner` a closing sequence.
unfoldable pub last_of : (List ℕ → Parsed Expr) → (List ℕ → Parsed Closing) → LastForm → List ℕ → Parsed Closing
last_of one inner a_return s = more 1 (and_then s (one s) λ e s. got (give e) 0)
last_of one inner a_pick s =
    more 1 (and_then s (one s) λ e s. and_then s (inner s) λ c s. and_then s (inner s) λ d s. got (pick e c d) 0)
last_of one inner no_closing s = bad unknown_code 0

-- A closing sequence whose commands have `d` levels of depth left.
unfoldable pub closing : Scope → ℕ → List ℕ → Parsed Closing
closing v zero s = next s λ k s. bad too_deep 0
closing v (suc d) s =
    until closes (λ s. next s λ k s. last_of (expr v d) (closing v d) (last_form k) s) (command v (suc d)) first (length s) s

-- A body is one closing sequence, and nothing after it.
unfoldable pub body : Scope → List ℕ → Parsed Closing
body v s = and_then s (closing v most_depth s) λ c s. elim s [ [] ↦ got c 0 | b ∷ s ↦ bad left_over 0 ]

-- An entry of the table of contents.
pub record Entry : Type 0 where
  pub offset : ℕ
  pub bytes : ℕ
  pub parameters : ℕ
  pub locals : ℕ

-- Two bytes, low byte first.
abbrev pub pair : List ℕ → ℕ → ℕ
pair b i = get_or b i 0 + 256 * get_or b (i + 1) 0

-- Entry i of a book.
abbrev pub entry : List ℕ → ℕ → Entry
entry b i =
    record {
      offset = pair b (1 + entry_bytes * i);
      bytes = pair b (1 + entry_bytes * i + 2);
      parameters = get_or b (1 + entry_bytes * i + 4) 0;
      locals = get_or b (1 + entry_bytes * i + 5) 0;
    }

-- Byte 0 is the number of procedures.
abbrev pub procedures : List ℕ → ℕ
procedures b = get_or b 0 0

-- Where the contents end and the first body starts.
abbrev pub contents_end : List ℕ → ℕ
contents_end b = 1 + entry_bytes * procedures b

unfoldable pub entries : List ℕ → List Entry
entries b = each (procedures b) (entry b)

-- The bodies follow one another from `at` to `end`, and the counts are in their ranges.
unfoldable pub in_turn : ℕ → List Entry → ℕ → Bool
in_turn at [] end = eqb at end
in_turn at (e ∷ es) end =
    eqb e.offset at && (leb e.parameters most_parameters && (leb e.locals most_locals && in_turn (at + e.bytes) es end))

-- The contents keep every rule.
unfoldable pub contents : List ℕ → Bool
contents b =
    leb 1 (procedures b) && (leb (procedures b) most_procedures && (leb (contents_end b) (length b)
    && in_turn (contents_end b) (entries b) (length b)))

-- The parameter counts of all procedures.
unfoldable pub arities : List Entry → List ℕ
arities es = map (λ e. e.parameters) es

-- What the body of an entry may name.
abbrev pub scope : List ℕ → Entry → Scope
scope ar e = record { variables = e.parameters + e.locals; arities = ar }

-- The body of an entry; a fault's place is its place in the book.
unfoldable pub body_of : List ℕ → List ℕ → Entry → Parsed Closing
body_of b ar e = more e.offset (body (scope ar e) (take e.bytes (drop e.offset b)))

-- The bodies are read in order, and the first fault is told.
unfoldable pub bodies : List ℕ → List ℕ → List Entry → Parsed Book
bodies b ar [] = got [] 0
bodies b ar (e ∷ es) =
    elim (body_of b ar e) [
      | bad r p ↦ bad r p
      | got c n ↦ elim (bodies b ar es) [
        | bad r p ↦ bad r p
        | got qs m ↦ got (record { parameters = e.parameters; locals = e.locals; body = c } ∷ qs) m
      ]
    ]

-- The loops of a book.
unfoldable pub loops_all : Book → ℕ
loops_all [] = 0
loops_all (q ∷ qs) = loops_of q.body + loops_all qs

-- Rows stand by the loops' places in the book, one set per variable of the procedure, from place k on.
unfoldable pub placed_all : ℕ → Book → Book
placed_all k [] = []
placed_all k (q ∷ qs) =
    record { parameters = q.parameters; locals = q.locals; body = placed_of (variables q) k q.body }
    ∷ placed_all (k + variables q * loops_of q.body) qs

-- Why a book is refused: the number, and for a body that breaks a rule the reason and the place.
pub record Fault : Type 0 where
  pub number : ℕ
  pub reason : ℕ
  pub place : ℕ

-- What the bytes of a book are: refused, or readable as a tree.
pub data Reading : Type 0 where
  refused : Fault → Reading
  readable : Book → Reading

unfoldable pub few_loops : Book → Reading
few_loops qs =
    elim (leb (loops_all qs) most_loops) [
      | true ↦ readable (placed_all (length qs) qs)
      | false ↦ refused record { number = 4; reason = 0; place = 0 }
    ]

unfoldable pub whole_bodies : Parsed Book → Reading
whole_bodies (bad r p) = refused record { number = 3; reason = r; place = p }
whole_bodies (got qs n) = few_loops qs

-- The book's length, its contents, its bodies and its loops are judged in this order.
unfoldable pub read : List ℕ → Reading
read b =
    elim (leb 1 (length b) && leb (length b) most_bytes) [
      | false ↦ refused record { number = 1; reason = 0; place = 0 }
      | true ↦ elim (contents b) [
        | false ↦ refused record { number = 2; reason = 0; place = 0 }
        | true ↦ whole_bodies (bodies b (arities (entries b)) (entries b))
      ]
    ]
