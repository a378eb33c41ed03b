-- The functions that call each other meet their contracts: the measures, each member's needs, and the close.
use Prim.Native.Nat.{◌*◌, ◌+◌, ◌-◌}
use lib.ListN.{length}
use Rattle.flow.proofs.Calls.{Calling}
use Rattle.flow.proofs.Exprs.{Open}
use Rattle.flow.proofs.expr.+expressions.Given as goal

abbrev pub invariant-call-loop-i : goal.invariant-call-loop-i
invariant-call-loop-i l = Calling l.walk.book.now l.walk.old.now l.sets l.at l.p l.n l.result l.i l.next l.given.sets

abbrev pub decreases-call-loop-i : goal.decreases-call-loop-i
decreases-call-loop-i l = l.n - l.i

abbrev pub invariant-expr-loop-open : goal.invariant-expr-loop-open
invariant-expr-loop-open l = Open l.walk.book.now l.walk.old.now l.sets l.fn.at l.open l.at l.set

abbrev pub decreases-expr-loop-open : goal.decreases-expr-loop-open
decreases-expr-loop-open l = length l.walk.book.now - l.at

abbrev pub decreases-call : goal.decreases-call
decreases-call l = 2 * (length l.walk.now.book.now - l.at)

abbrev pub decreases-expr : goal.decreases-expr
decreases-expr l = 2 * (length l.walk.now.book.now - l.at) + 1
