-- What stands at a place, told by its code: the parts, where they stand, the tree's equation and where the next part begins.
use mathlib.Core.Path.{◌≡◌, refl, ap, sym}
use mathlib.Core.List.{List}
use mathlib.Core.Option.{some}
use mathlib.Core.Logic.{◌≢◌}
use Prim.Native.Nat.{ℕ, zero, suc, ◌+◌, ◌*◌, ◌≤◌, ◌<◌}
use native.Mathlib.Omega.{arith}
use lib.ListN.{length, get_or, get_elem?}
use Rattle.meaning.specs.Tree.{Operation, Expr, Args, Cmd, Run, Closing, loops, loops_in, loops_of}
use Rattle.meaning.specs.Tree.{constant, variable, operation, call, nil, arg, assign, branch, loop, stop, then, first, give, pick}
use Rattle.meaning.specs.Reading.{Scope, operations}
use Rattle.book.proofs.Text.{Coded, four_bytes, ExprAt, ArgsAt, CmdAt, RunAt, ClosingAt, ExprHere, ArgsHere, CmdHere, RunHere, ClosingHere}
pub mod Bounds

-- The code stands within the book and is one of those from `low` to `high`.
pub record Code (b : List ℕ) (at low high : ℕ) : Type 0 where
  pub there : at < length b
  pub least : low ≤ get_or b at 0
  pub most : get_or b at 0 ≤ high

pub expr_code : {b : List ℕ} {v : Scope} {at : ℕ} (x : ExprHere b v at) → Code b at 0x10 0x13
unfolding ExprAt
expr_code {b} {v} {at} x = go x.tree x.is
  where
    go : (e : Expr) → ExprAt e b v at x.next → Code b at 0x10 0x13
    go (constant c) i = omega arith
    go (variable y) i = omega arith
    go (operation o l r) i = omega arith
    go (call p es) i = omega arith

pub record ConstantView (b : List ℕ) (v : Scope) (at : ℕ) (x : ExprHere b v at) : Type 0 where
  pub fits : at + 5 ≤ length b
  pub tree : x.tree ≡ constant (four_bytes b (at + 1))
  pub next : x.next ≡ at + 5

pub constant_view : {b : List ℕ} {v : Scope} {at : ℕ} (x : ExprHere b v at) → get_or b at 0 ≡ 0x10 → ConstantView b v at x
unfolding ExprAt
constant_view {b} {v} {at} x h = go x.tree x.next x.is
  where
    go : (e : Expr) (n : ℕ) (i : ExprAt e b v at n) → ConstantView b v at (record { tree = e; next = n; is = i })
    go (constant c) n i = record { fits = i.fits; tree = ap constant i.value; next = i.ends }
    go (variable y) n i = absurd (omega arith)
    go (operation o l r) n i = absurd (omega arith)
    go (call p es) n i = absurd (omega arith)

pub record VariableView (b : List ℕ) (v : Scope) (at : ℕ) (x : ExprHere b v at) : Type 0 where
  pub there : at + 1 < length b
  pub known : get_or b (at + 1) 0 < v.variables
  pub tree : x.tree ≡ variable (get_or b (at + 1) 0)
  pub next : x.next ≡ at + 2

pub variable_view : {b : List ℕ} {v : Scope} {at : ℕ} (x : ExprHere b v at) → get_or b at 0 ≡ 0x11 → VariableView b v at x
unfolding ExprAt
variable_view {b} {v} {at} x h = go x.tree x.next x.is
  where
    go : (e : Expr) (n : ℕ) (i : ExprAt e b v at n) → VariableView b v at (record { tree = e; next = n; is = i })
    go (constant c) n i = absurd (omega arith)
    go (variable y) n i =
        record { there = i.number.there; known = omega arith; tree = ap variable (sym i.number.is); next = i.ends }
    go (operation o l r) n i = absurd (omega arith)
    go (call p es) n i = absurd (omega arith)

pub record OperationView (b : List ℕ) (v : Scope) (at : ℕ) (x : ExprHere b v at) : Type 0 where
  pub there : at + 1 < length b
  pub o : Operation
  pub known : get_elem? operations (get_or b (at + 1) 0) ≡ some o
  pub left : ExprHere b v (at + 2)
  pub right : ExprHere b v left.next
  pub tree : x.tree ≡ operation o left.tree right.tree
  pub next : x.next ≡ right.next

pub operation_view : {b : List ℕ} {v : Scope} {at : ℕ} (x : ExprHere b v at) → get_or b at 0 ≡ 0x12 → OperationView b v at x
unfolding ExprAt
operation_view {b} {v} {at} x h = go x.tree x.next x.is
  where
    go : (e : Expr) (n : ℕ) (i : ExprAt e b v at n) → OperationView b v at (record { tree = e; next = n; is = i })
    go (constant c) n i = absurd (omega arith)
    go (variable y) n i = absurd (omega arith)
    go (operation o l r) n i =
        record {
          there = i.there;
          o = o;
          known = i.known;
          left = record { tree = l; next = i.mid; is = i.left };
          right = record { tree = r; next = n; is = i.right };
          tree = refl;
          next = refl;
        }
    go (call p es) n i = absurd (omega arith)

pub record CallView (b : List ℕ) (v : Scope) (at : ℕ) (x : ExprHere b v at) : Type 0 where
  pub there : at + 1 < length b
  pub known : get_or b (at + 1) 0 < length v.arities
  pub given : ArgsHere b v (get_or v.arities (get_or b (at + 1) 0) 0) (at + 2)
  pub tree : x.tree ≡ call (get_or b (at + 1) 0) given.tree
  pub next : x.next ≡ given.next

pub call_view : {b : List ℕ} {v : Scope} {at : ℕ} (x : ExprHere b v at) → get_or b at 0 ≡ 0x13 → CallView b v at x
unfolding ExprAt
call_view {b} {v} {at} x h = go x.tree x.next x.is
  where
    go : (e : Expr) (n : ℕ) (i : ExprAt e b v at n) → CallView b v at (record { tree = e; next = n; is = i })
    go (constant c) n i = absurd (omega arith)
    go (variable y) n i = absurd (omega arith)
    go (operation o l r) n i = absurd (omega arith)
    go (call p es) n i =
        record {
          there = i.number.there;
          known = omega arith;
          given = record { tree = es; next = n; is = rw i.number.is i.given };
          tree = ap (λ q. call q es) (sym i.number.is);
          next = refl;
        }

pub record NoArgsView (b : List ℕ) (v : Scope) (n at : ℕ) (x : ArgsHere b v n at) : Type 0 where
  pub tree : x.tree ≡ nil
  pub next : x.next ≡ at

pub no_args_view : {b : List ℕ} {v : Scope} {n at : ℕ} (x : ArgsHere b v n at) → n ≡ 0 → NoArgsView b v n at x
unfolding ArgsAt
no_args_view {b} {v} {n} {at} x h = go x.tree x.next x.is
  where
    go : (es : Args) (m : ℕ) (i : ArgsAt es b v n at m) → NoArgsView b v n at (record { tree = es; next = m; is = i })
    go nil m i = record { tree = refl; next = i.ends }
    go (arg e es) m i = absurd (omega arith)

pub record ArgsView (b : List ℕ) (v : Scope) (n at : ℕ) (x : ArgsHere b v n at) : Type 0 where
  pub fewer : ℕ
  pub some : n ≡ suc fewer
  pub head : ExprHere b v at
  pub rest : ArgsHere b v fewer head.next
  pub tree : x.tree ≡ arg head.tree rest.tree
  pub next : x.next ≡ rest.next

pub args_view : {b : List ℕ} {v : Scope} {n at : ℕ} (x : ArgsHere b v n at) → 0 < n → ArgsView b v n at x
unfolding ArgsAt
args_view {b} {v} {n} {at} x h = go x.tree x.next x.is
  where
    go : (es : Args) (m : ℕ) (i : ArgsAt es b v n at m) → ArgsView b v n at (record { tree = es; next = m; is = i })
    go nil m i = absurd (omega arith)
    go (arg e es) m i =
        record {
          fewer = i.fewer;
          some = i.some;
          head = record { tree = e; next = i.mid; is = i.head };
          rest = record { tree = es; next = m; is = i.rest };
          tree = refl;
          next = refl;
        }

pub cmd_code : {b : List ℕ} {v : Scope} {r at : ℕ} (x : CmdHere b v r at) → Code b at 0x01 0x03
unfolding CmdAt
cmd_code {b} {v} {r} {at} x = go x.tree x.is
  where
    go : (c : Cmd) → CmdAt c b v r at x.next → Code b at 0x01 0x03
    go (assign y e) i = omega arith
    go (branch e s t) i = omega arith
    go (loop k e s) i = omega arith

pub record AssignView (b : List ℕ) (v : Scope) (r at : ℕ) (x : CmdHere b v r at) : Type 0 where
  pub there : at + 1 < length b
  pub known : get_or b (at + 1) 0 < v.variables
  pub given : ExprHere b v (at + 2)
  pub tree : x.tree ≡ assign (get_or b (at + 1) 0) given.tree
  pub next : x.next ≡ given.next

pub assign_view : {b : List ℕ} {v : Scope} {r at : ℕ} (x : CmdHere b v r at) → get_or b at 0 ≡ 0x01 → AssignView b v r at x
unfolding CmdAt
assign_view {b} {v} {r} {at} x h = go x.tree x.next x.is
  where
    go : (c : Cmd) (n : ℕ) (i : CmdAt c b v r at n) → AssignView b v r at (record { tree = c; next = n; is = i })
    go (assign y e) n i =
        record {
          there = i.number.there;
          known = omega arith;
          given = record { tree = e; next = n; is = i.given };
          tree = ap (λ z. assign z e) (sym i.number.is);
          next = refl;
        }
    go (branch e s t) n i = absurd (omega arith)
    go (loop k e s) n i = absurd (omega arith)

pub record BranchView (b : List ℕ) (v : Scope) (r at : ℕ) (x : CmdHere b v r at) : Type 0 where
  pub test : ExprHere b v (at + 1)
  pub yes : RunHere b v r test.next
  pub no : RunHere b v (r + v.variables * loops_in yes.tree) yes.next
  pub tree : x.tree ≡ branch test.tree yes.tree no.tree
  pub next : x.next ≡ no.next

pub branch_view : {b : List ℕ} {v : Scope} {r at : ℕ} (x : CmdHere b v r at) → get_or b at 0 ≡ 0x02 → BranchView b v r at x
unfolding CmdAt
branch_view {b} {v} {r} {at} x h = go x.tree x.next x.is
  where
    go : (c : Cmd) (n : ℕ) (i : CmdAt c b v r at n) → BranchView b v r at (record { tree = c; next = n; is = i })
    go (assign y e) n i = absurd (omega arith)
    go (branch e s t) n i =
        record {
          test = record { tree = e; next = i.mid; is = i.test };
          yes = record { tree = s; next = i.mid2; is = i.yes };
          no = record { tree = t; next = n; is = i.no };
          tree = refl;
          next = refl;
        }
    go (loop k e s) n i = absurd (omega arith)

pub record LoopView (b : List ℕ) (v : Scope) (r at : ℕ) (x : CmdHere b v r at) : Type 0 where
  pub test : ExprHere b v (at + 1)
  pub inside : RunHere b v (r + v.variables) test.next
  pub tree : x.tree ≡ loop r test.tree inside.tree
  pub next : x.next ≡ inside.next

pub loop_view : {b : List ℕ} {v : Scope} {r at : ℕ} (x : CmdHere b v r at) → get_or b at 0 ≡ 0x03 → LoopView b v r at x
unfolding CmdAt
loop_view {b} {v} {r} {at} x h = go x.tree x.next x.is
  where
    go : (c : Cmd) (n : ℕ) (i : CmdAt c b v r at n) → LoopView b v r at (record { tree = c; next = n; is = i })
    go (assign y e) n i = absurd (omega arith)
    go (branch e s t) n i = absurd (omega arith)
    go (loop k e s) n i =
        record {
          test = record { tree = e; next = i.mid; is = i.test };
          inside = record { tree = s; next = n; is = i.inside };
          tree = ap (λ j. loop j e s) i.row;
          next = refl;
        }

pub run_code : {b : List ℕ} {v : Scope} {r at : ℕ} (x : RunHere b v r at) → Code b at 0x00 0x03
unfolding RunAt
run_code {b} {v} {r} {at} x = go x.tree x.is
  where
    go : (s : Run) → RunAt s b v r at x.next → Code b at 0x00 0x03
    go stop i = omega arith
    go (then c s) i =
        let h = cmd_code (record { tree = c; next = i.mid; is = i.head }) in
        omega arith

pub record StopView (b : List ℕ) (v : Scope) (r at : ℕ) (x : RunHere b v r at) : Type 0 where
  pub tree : x.tree ≡ stop
  pub next : x.next ≡ at + 1

pub stop_view : {b : List ℕ} {v : Scope} {r at : ℕ} (x : RunHere b v r at) → get_or b at 0 ≡ 0x00 → StopView b v r at x
unfolding RunAt
stop_view {b} {v} {r} {at} x h = go x.tree x.next x.is
  where
    go : (s : Run) (n : ℕ) (i : RunAt s b v r at n) → StopView b v r at (record { tree = s; next = n; is = i })
    go stop n i = record { tree = refl; next = i.ends }
    go (then c s) n i =
        let k = cmd_code (record { tree = c; next = i.mid; is = i.head }) in
        absurd (omega arith)

pub record ThenView (b : List ℕ) (v : Scope) (r at : ℕ) (x : RunHere b v r at) : Type 0 where
  pub head : CmdHere b v r at
  pub rest : RunHere b v (r + v.variables * loops head.tree) head.next
  pub tree : x.tree ≡ then head.tree rest.tree
  pub next : x.next ≡ rest.next

pub then_view : {b : List ℕ} {v : Scope} {r at : ℕ} (x : RunHere b v r at) → (get_or b at 0 ≡ 0x00 → ⊥) → ThenView b v r at x
unfolding RunAt
then_view {b} {v} {r} {at} x h = go x.tree x.next x.is
  where
    go : (s : Run) (n : ℕ) (i : RunAt s b v r at n) → ThenView b v r at (record { tree = s; next = n; is = i })
    go stop n i = absurd (h i.code.is)
    go (then c s) n i =
        record {
          head = record { tree = c; next = i.mid; is = i.head };
          rest = record { tree = s; next = n; is = i.rest };
          tree = refl;
          next = refl;
        }

pub closing_code : {b : List ℕ} {v : Scope} {r at : ℕ} (x : ClosingHere b v r at) → Code b at 0x01 0x05
unfolding ClosingAt
closing_code {b} {v} {r} {at} x = go x.tree x.is
  where
    go : (c : Closing) → ClosingAt c b v r at x.next → Code b at 0x01 0x05
    go (first c d) i =
        let h = cmd_code (record { tree = c; next = i.mid; is = i.head }) in
        omega arith
    go (give e) i = omega arith
    go (pick e c d) i = omega arith

pub record GiveView (b : List ℕ) (v : Scope) (r at : ℕ) (x : ClosingHere b v r at) : Type 0 where
  pub given : ExprHere b v (at + 1)
  pub tree : x.tree ≡ give given.tree
  pub next : x.next ≡ given.next

pub give_view : {b : List ℕ} {v : Scope} {r at : ℕ} (x : ClosingHere b v r at) → get_or b at 0 ≡ 0x04 → GiveView b v r at x
unfolding ClosingAt
give_view {b} {v} {r} {at} x h = go x.tree x.next x.is
  where
    go : (c : Closing) (n : ℕ) (i : ClosingAt c b v r at n) → GiveView b v r at (record { tree = c; next = n; is = i })
    go (first c d) n i =
        let k = cmd_code (record { tree = c; next = i.mid; is = i.head }) in
        absurd (omega arith)
    go (give e) n i = record { given = record { tree = e; next = n; is = i.given }; tree = refl; next = refl }
    go (pick e c d) n i = absurd (omega arith)

pub record PickView (b : List ℕ) (v : Scope) (r at : ℕ) (x : ClosingHere b v r at) : Type 0 where
  pub test : ExprHere b v (at + 1)
  pub yes : ClosingHere b v r test.next
  pub no : ClosingHere b v (r + v.variables * loops_of yes.tree) yes.next
  pub tree : x.tree ≡ pick test.tree yes.tree no.tree
  pub next : x.next ≡ no.next

pub pick_view : {b : List ℕ} {v : Scope} {r at : ℕ} (x : ClosingHere b v r at) → get_or b at 0 ≡ 0x05 → PickView b v r at x
unfolding ClosingAt
pick_view {b} {v} {r} {at} x h = go x.tree x.next x.is
  where
    go : (c : Closing) (n : ℕ) (i : ClosingAt c b v r at n) → PickView b v r at (record { tree = c; next = n; is = i })
    go (first c d) n i =
        let k = cmd_code (record { tree = c; next = i.mid; is = i.head }) in
        absurd (omega arith)
    go (give e) n i = absurd (omega arith)
    go (pick e c d) n i =
        record {
          test = record { tree = e; next = i.mid; is = i.test };
          yes = record { tree = c; next = i.mid2; is = i.yes };
          no = record { tree = d; next = n; is = i.no };
          tree = refl;
          next = refl;
        }

pub record FirstView (b : List ℕ) (v : Scope) (r at : ℕ) (x : ClosingHere b v r at) : Type 0 where
  pub head : CmdHere b v r at
  pub rest : ClosingHere b v (r + v.variables * loops head.tree) head.next
  pub tree : x.tree ≡ first head.tree rest.tree
  pub next : x.next ≡ rest.next

pub first_view : {b : List ℕ} {v : Scope} {r at : ℕ} (x : ClosingHere b v r at) → get_or b at 0 < 0x04 → FirstView b v r at x
unfolding ClosingAt
first_view {b} {v} {r} {at} x h = go x.tree x.next x.is
  where
    go : (c : Closing) (n : ℕ) (i : ClosingAt c b v r at n) → FirstView b v r at (record { tree = c; next = n; is = i })
    go (first c d) n i =
        record {
          head = record { tree = c; next = i.mid; is = i.head };
          rest = record { tree = d; next = n; is = i.rest };
          tree = refl;
          next = refl;
        }
    go (give e) n i = absurd (omega arith)
    go (pick e c d) n i = absurd (omega arith)
