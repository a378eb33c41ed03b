-- The tree of a book: what its bytes say.
use Rattle.std.specs.Prelude.{List, ℕ, ◌+◌, ◌*◌}

-- The eight operations.
pub data Operation : Type 0 where
  sum difference product quotient equal less smaller larger : Operation

-- Expressions, and the arguments of a call.
mutual
  pub data Expr : Type 0 where
    constant : ℕ → Expr
    variable : ℕ → Expr
    operation : Operation → Expr → Expr → Expr
    call : ℕ → Args → Expr

  pub data Args : Type 0 where
    nil : Args
    arg : Expr → Args → Args

-- Ordinary commands, and runs of them. A loop carries the place of its row in the summary.
mutual
  pub data Cmd : Type 0 where
    assign : ℕ → Expr → Cmd
    branch : Expr → Run → Run → Cmd
    loop : ℕ → Expr → Run → Cmd

  pub data Run : Type 0 where
    stop : Run
    then : Cmd → Run → Run

-- Closing sequences: ordinary commands, then a return or a closing if.
pub data Closing : Type 0 where
  first : Cmd → Closing → Closing
  give : Expr → Closing
  pick : Expr → Closing → Closing → Closing

-- A procedure: its counts and its body.
pub record Procedure : Type 0 where
  pub parameters : ℕ
  pub locals : ℕ
  pub body : Closing

-- A book is its procedures, in order.
abbrev pub Book : Type 0
Book = List Procedure

-- Variables are numbered parameters first, then locals.
abbrev pub variables : Procedure → ℕ
variables q = q.parameters + q.locals

-- How many loops a command, a run, a closing sequence holds.
unfoldable mutual
  pub loops : Cmd → ℕ
  loops (assign x e) = 0
  loops (branch e s t) = loops_in s + loops_in t
  loops (loop k e s) = 1 + loops_in s

  pub loops_in : Run → ℕ
  loops_in stop = 0
  loops_in (then c s) = loops c + loops_in s

unfoldable pub loops_of : Closing → ℕ
loops_of (first c r) = loops c + loops_of r
loops_of (give e) = 0
loops_of (pick e c d) = loops_of c + loops_of d

-- The loops numbered by their place in the book: each gets the place of its row, the first `k`, each next `w` places on.
unfoldable mutual
  pub placed : ℕ → ℕ → Cmd → Cmd
  placed w k (assign x e) = assign x e
  placed w k (branch e s t) = branch e (placed_in w k s) (placed_in w (k + w * loops_in s) t)
  placed w k (loop j e s) = loop k e (placed_in w (k + w) s)

  pub placed_in : ℕ → ℕ → Run → Run
  placed_in w k stop = stop
  placed_in w k (then c s) = then (placed w k c) (placed_in w (k + w * loops c) s)

unfoldable pub placed_of : ℕ → ℕ → Closing → Closing
placed_of w k (first c r) = first (placed w k c) (placed_of w (k + w * loops c) r)
placed_of w k (give e) = give e
placed_of w k (pick e c d) = pick e (placed_of w k c) (placed_of w (k + w * loops_of c) d)
