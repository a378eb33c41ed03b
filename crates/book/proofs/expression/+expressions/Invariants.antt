-- An expression, its operation or call, and the arguments read each other with less depth.
use mathlib.Core.Path.{◌≡◌}
use Prim.Native.Nat.{◌≤◌, ◌-◌}
use lib.ListN.{length}
use Rattle.book.specs.Parts.{known, arguments_taken}
use Rattle.book.proofs.Laws.Expressions.{args_left}
use Prim.Native.Nat.{◌+◌, ◌*◌}
use Rattle.book.proofs.expression.+expressions.Given as goal

abbrev pub invariant-arguments-loop : goal.invariant-arguments-loop
invariant-arguments-loop l =
    (l.read.bytes ≤ length l.part) × (l.read.loops ≡ 0)
    × (arguments_taken l.count (known l.scope) l.depth l.part ≡ args_left (l.count - l.counter) (known l.scope) l.depth l.part l.read.bytes)

abbrev pub decreases-arguments : goal.decreases-arguments
decreases-arguments l = 3 * l.depth + 1

abbrev pub decreases-call : goal.decreases-call
decreases-call l = 3 * l.depth + 2

abbrev pub decreases-expr : goal.decreases-expr
decreases-expr l = 3 * l.depth

abbrev pub decreases-operation : goal.decreases-operation
decreases-operation l = 3 * l.depth + 2
