-- `in_turn` meets its contract. The loop's invariant: the rules hold of all entries just when they hold from entry `p` on.
-- A body's length is two bytes.
use Prim.Native.Nat.{◌+◌, ◌*◌}
use native.Mathlib.Omega.{arith}
use Rattle.meaning.specs.Limits.{entry_bytes}
use Rattle.book.proofs.Laws.Contents.{turns_begin, turns_offset, turns_parameters, turns_locals, turns_more, turns_end}
use Rattle.book.proofs.contents.in_turn.Goals as goal

pub loop-p-init : goal.loop-p-init
loop-p-init c = (omega arith, search turns_begin)

pub returns-then-offset-at : goal.returns-then-offset-at
returns-then-offset-at c = search turns_offset

pub returns-then-parameters-gt-MOST_PARAMETERS : goal.returns-then-parameters-gt-MOST_PARAMETERS
returns-then-parameters-gt-MOST_PARAMETERS c = search turns_parameters

pub returns-then-locals-gt-MOST_LOCALS : goal.returns-then-locals-gt-MOST_LOCALS
returns-then-locals-gt-MOST_LOCALS c = search turns_locals

pub overflow_add-at-in-loop-p : goal.overflow_add-at-in-loop-p
overflow_add-at-in-loop-p c =
    let at = 1 + entry_bytes * c.loop-p.p + 2 in
    omega (arith, c.type_inv.book at, c.type_inv.book (at + 1))

pub loop-p-preserved : goal.loop-p-preserved
loop-p-preserved c =
    let at = 1 + entry_bytes * c.loop-p.p + 2 in
    (omega (arith, c.type_inv.book at, c.type_inv.book (at + 1)), search turns_more)

pub returns : goal.returns
returns c = search turns_end
