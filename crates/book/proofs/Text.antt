-- Where the parts of a body stand in the bytes of its book: `ExprAt e b v at next` says that the bytes from `at` up to `next` say e.
use mathlib.Core.Path.{◌≡◌}
use mathlib.Core.List.{List}
use mathlib.Core.Option.{some}
use Prim.Native.Nat.{ℕ, suc, ◌+◌, ◌*◌, ◌≤◌, ◌<◌}
use lib.ListN.{length, get_or, get_elem?}
use Rattle.meaning.specs.Tree.{Operation, Expr, Args, Cmd, Run, Closing, loops, loops_in, loops_of}
use Rattle.meaning.specs.Tree.{constant, variable, operation, call, nil, arg, assign, branch, loop, stop, then, first, give, pick}
use Rattle.meaning.specs.Reading.{Scope, operations}

-- The code k stands at this place.
pub record Coded (b : List ℕ) (at k : ℕ) : Type 0 where
  pub there : at < length b
  pub is : get_or b at 0 ≡ k

-- A constant's four bytes, low byte first.
abbrev pub four_bytes : List ℕ → ℕ → ℕ
four_bytes b at = get_or b at 0 + 256 * (get_or b (at + 1) 0 + 256 * (get_or b (at + 2) 0 + 256 * get_or b (at + 3) 0))

pub record ConstantAt (b : List ℕ) (c at next : ℕ) : Type 0 where
  pub code : Coded b at 0x10
  pub fits : at + 5 ≤ length b
  pub value : c ≡ four_bytes b (at + 1)
  pub ends : next ≡ at + 5

pub record VariableAt (b : List ℕ) (v : Scope) (x at next : ℕ) : Type 0 where
  pub code : Coded b at 0x11
  pub number : Coded b (at + 1) x
  pub known : x < v.variables
  pub ends : next ≡ at + 2

pub record OperationAt (b : List ℕ) (o : Operation) (L R : ℕ → ℕ → Type 0) (at next : ℕ) : Type 0 where
  pub code : Coded b at 0x12
  pub there : at + 1 < length b
  pub known : get_elem? operations (get_or b (at + 1) 0) ≡ some o
  pub mid : ℕ
  pub left : L (at + 2) mid
  pub right : R mid next

pub record CallAt (b : List ℕ) (v : Scope) (p : ℕ) (As : ℕ → ℕ → ℕ → Type 0) (at next : ℕ) : Type 0 where
  pub code : Coded b at 0x13
  pub number : Coded b (at + 1) p
  pub known : p < length v.arities
  pub given : As (get_or v.arities p 0) (at + 2) next

pub record NoArgs (b : List ℕ) (n at next : ℕ) : Type 0 where
  pub none : n ≡ 0
  pub fits : at ≤ length b
  pub ends : next ≡ at

pub record SomeArgs (E : ℕ → ℕ → Type 0) (As : ℕ → ℕ → ℕ → Type 0) (n at next : ℕ) : Type 0 where
  pub fewer : ℕ
  pub some : n ≡ suc fewer
  pub mid : ℕ
  pub head : E at mid
  pub rest : As fewer mid next

unfoldable mutual
  pub ExprAt : Expr → List ℕ → Scope → ℕ → ℕ → Type 0
  ExprAt (constant c) b v at next = ConstantAt b c at next
  ExprAt (variable x) b v at next = VariableAt b v x at next
  ExprAt (operation o l r) b v at next = OperationAt b o (λ i j. ExprAt l b v i j) (λ i j. ExprAt r b v i j) at next
  ExprAt (call p es) b v at next = CallAt b v p (λ n i j. ArgsAt es b v n i j) at next

  pub ArgsAt : Args → List ℕ → Scope → ℕ → ℕ → ℕ → Type 0
  ArgsAt nil b v n at next = NoArgs b n at next
  ArgsAt (arg e es) b v n at next = SomeArgs (λ i j. ExprAt e b v i j) (λ n i j. ArgsAt es b v n i j) n at next

pub record AssignAt (b : List ℕ) (v : Scope) (x : ℕ) (E : ℕ → ℕ → Type 0) (at next : ℕ) : Type 0 where
  pub code : Coded b at 0x01
  pub number : Coded b (at + 1) x
  pub known : x < v.variables
  pub given : E (at + 2) next

pub record BranchAt (b : List ℕ) (E S T : ℕ → ℕ → Type 0) (at next : ℕ) : Type 0 where
  pub code : Coded b at 0x02
  pub mid : ℕ
  pub test : E (at + 1) mid
  pub mid2 : ℕ
  pub yes : S mid mid2
  pub no : T mid2 next

pub record LoopAt (b : List ℕ) (k r : ℕ) (E S : ℕ → ℕ → Type 0) (at next : ℕ) : Type 0 where
  pub code : Coded b at 0x03
  pub row : k ≡ r
  pub mid : ℕ
  pub test : E (at + 1) mid
  pub inside : S mid next

pub record StopAt (b : List ℕ) (at next : ℕ) : Type 0 where
  pub code : Coded b at 0x00
  pub ends : next ≡ at + 1

pub record ThenAt (C S : ℕ → ℕ → Type 0) (at next : ℕ) : Type 0 where
  pub mid : ℕ
  pub head : C at mid
  pub rest : S mid next

-- The same for commands, whose rows begin at place r of the summary.
unfoldable mutual
  pub CmdAt : Cmd → List ℕ → Scope → ℕ → ℕ → ℕ → Type 0
  CmdAt (assign x e) b v r at next = AssignAt b v x (λ i j. ExprAt e b v i j) at next
  CmdAt (branch e s t) b v r at next =
      BranchAt b (λ i j. ExprAt e b v i j) (λ i j. RunAt s b v r i j) (λ i j. RunAt t b v (r + v.variables * loops_in s) i j) at next
  CmdAt (loop k e s) b v r at next =
      LoopAt b k r (λ i j. ExprAt e b v i j) (λ i j. RunAt s b v (r + v.variables) i j) at next

  pub RunAt : Run → List ℕ → Scope → ℕ → ℕ → ℕ → Type 0
  RunAt stop b v r at next = StopAt b at next
  RunAt (then c s) b v r at next =
      ThenAt (λ i j. CmdAt c b v r i j) (λ i j. RunAt s b v (r + v.variables * loops c) i j) at next

pub record GiveAt (b : List ℕ) (E : ℕ → ℕ → Type 0) (at next : ℕ) : Type 0 where
  pub code : Coded b at 0x04
  pub given : E (at + 1) next

pub record PickAt (b : List ℕ) (E C D : ℕ → ℕ → Type 0) (at next : ℕ) : Type 0 where
  pub code : Coded b at 0x05
  pub mid : ℕ
  pub test : E (at + 1) mid
  pub mid2 : ℕ
  pub yes : C mid mid2
  pub no : D mid2 next

unfoldable pub ClosingAt : Closing → List ℕ → Scope → ℕ → ℕ → ℕ → Type 0
ClosingAt (first c d) b v r at next =
    ThenAt (λ i j. CmdAt c b v r i j) (λ i j. ClosingAt d b v (r + v.variables * loops c) i j) at next
ClosingAt (give e) b v r at next = GiveAt b (λ i j. ExprAt e b v i j) at next
ClosingAt (pick e c d) b v r at next =
    PickAt b (λ i j. ExprAt e b v i j) (λ i j. ClosingAt c b v r i j) (λ i j. ClosingAt d b v (r + v.variables * loops_of c) i j) at next

-- The same, with the tree and the end held inside: this place holds an expression, arguments, a command, a run, a closing sequence.
pub record ExprHere (b : List ℕ) (v : Scope) (at : ℕ) : Type 0 where
  pub tree : Expr
  pub next : ℕ
  pub is : ExprAt tree b v at next

pub record ArgsHere (b : List ℕ) (v : Scope) (n at : ℕ) : Type 0 where
  pub tree : Args
  pub next : ℕ
  pub is : ArgsAt tree b v n at next

pub record CmdHere (b : List ℕ) (v : Scope) (r at : ℕ) : Type 0 where
  pub tree : Cmd
  pub next : ℕ
  pub is : CmdAt tree b v r at next

pub record RunHere (b : List ℕ) (v : Scope) (r at : ℕ) : Type 0 where
  pub tree : Run
  pub next : ℕ
  pub is : RunAt tree b v r at next

pub record ClosingHere (b : List ℕ) (v : Scope) (r at : ℕ) : Type 0 where
  pub tree : Closing
  pub next : ℕ
  pub is : ClosingAt tree b v r at next
