-- Every part ends after it begins, and within the book.
use mathlib.Core.List.{List}
use Prim.Native.Nat.{ℕ, ◌+◌, ◌*◌, ◌≤◌, ◌<◌}
use native.Mathlib.Omega.{arith}
use lib.ListN.{length}
use Rattle.meaning.specs.Tree.{Expr, Args, Cmd, Run, Closing, loops, loops_in, loops_of}
use Rattle.meaning.specs.Tree.{constant, variable, operation, call, nil, arg, assign, branch, loop, stop, then, first, give, pick}
use Rattle.meaning.specs.Reading.{Scope}
use Rattle.book.proofs.Text.{ExprAt, ArgsAt, CmdAt, RunAt, ClosingAt, ExprHere, ArgsHere, CmdHere, RunHere, ClosingHere}

pub record Spans (b : List ℕ) (at next : ℕ) : Type 0 where
  pub on : at < next
  pub within : next ≤ length b

pub record SpansArgs (b : List ℕ) (at next : ℕ) : Type 0 where
  pub on : at ≤ next
  pub within : next ≤ length b

mutual
  unfolding ExprAt ArgsAt

  spans_expr : (e : Expr) (b : List ℕ) (v : Scope) (at next : ℕ) → ExprAt e b v at next → Spans b at next
  spans_expr (constant c) b v at next x = omega arith
  spans_expr (variable y) b v at next x = omega arith
  spans_expr (operation o l r) b v at next x =
      let h = spans_expr l b v (at + 2) x.mid x.left in
      let k = spans_expr r b v x.mid next x.right in
      omega arith
  spans_expr (call p es) b v at next x =
      let h = spans_args es b v _ (at + 2) next x.given in
      omega arith

  spans_args : (es : Args) (b : List ℕ) (v : Scope) (n at next : ℕ) → ArgsAt es b v n at next → SpansArgs b at next
  spans_args nil b v n at next x = omega arith
  spans_args (arg e es) b v n at next x =
      let h = spans_expr e b v at x.mid x.head in
      let k = spans_args es b v x.fewer x.mid next x.rest in
      omega arith

mutual
  unfolding CmdAt RunAt

  spans_cmd : (c : Cmd) (b : List ℕ) (v : Scope) (r at next : ℕ) → CmdAt c b v r at next → Spans b at next
  spans_cmd (assign y e) b v r at next x =
      let h = spans_expr e b v (at + 2) next x.given in
      omega arith
  spans_cmd (branch e s t) b v r at next x =
      let h = spans_expr e b v (at + 1) x.mid x.test in
      let k = spans_run s b v r x.mid x.mid2 x.yes in
      let l = spans_run t b v (r + v.variables * loops_in s) x.mid2 next x.no in
      omega arith
  spans_cmd (loop k e s) b v r at next x =
      let h = spans_expr e b v (at + 1) x.mid x.test in
      let l = spans_run s b v (r + v.variables) x.mid next x.inside in
      omega arith

  spans_run : (s : Run) (b : List ℕ) (v : Scope) (r at next : ℕ) → RunAt s b v r at next → Spans b at next
  spans_run stop b v r at next x = omega arith
  spans_run (then c s) b v r at next x =
      let h = spans_cmd c b v r at x.mid x.head in
      let k = spans_run s b v (r + v.variables * loops c) x.mid next x.rest in
      omega arith

spans_closing : (c : Closing) (b : List ℕ) (v : Scope) (r at next : ℕ) → ClosingAt c b v r at next → Spans b at next
unfolding ClosingAt
spans_closing (first c d) b v r at next x =
    let h = spans_cmd c b v r at x.mid x.head in
    let k = spans_closing d b v (r + v.variables * loops c) x.mid next x.rest in
    omega arith
spans_closing (give e) b v r at next x =
    let h = spans_expr e b v (at + 1) next x.given in
    omega arith
spans_closing (pick e c d) b v r at next x =
    let h = spans_expr e b v (at + 1) x.mid x.test in
    let k = spans_closing c b v r x.mid x.mid2 x.yes in
    let l = spans_closing d b v (r + v.variables * loops_of c) x.mid2 next x.no in
    omega arith

pub expr_spans : {b : List ℕ} {v : Scope} {at : ℕ} (x : ExprHere b v at) → Spans b at x.next
expr_spans {b} {v} {at} x = spans_expr x.tree b v at x.next x.is

pub args_spans : {b : List ℕ} {v : Scope} {n at : ℕ} (x : ArgsHere b v n at) → SpansArgs b at x.next
args_spans {b} {v} {n} {at} x = spans_args x.tree b v n at x.next x.is

pub cmd_spans : {b : List ℕ} {v : Scope} {r at : ℕ} (x : CmdHere b v r at) → Spans b at x.next
cmd_spans {b} {v} {r} {at} x = spans_cmd x.tree b v r at x.next x.is

pub run_spans : {b : List ℕ} {v : Scope} {r at : ℕ} (x : RunHere b v r at) → Spans b at x.next
run_spans {b} {v} {r} {at} x = spans_run x.tree b v r at x.next x.is

pub closing_spans : {b : List ℕ} {v : Scope} {r at : ℕ} (x : ClosingHere b v r at) → Spans b at x.next
closing_spans {b} {v} {r} {at} x = spans_closing x.tree b v r at x.next x.is
