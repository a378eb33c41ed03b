use Rattle.flow.proofs.Pasts.{passing_none, passing_two, passing_constant, passing_variable}
use Rattle.flow.proofs.Pasts.{passing_call, passing_there, passing_entry, passing_returns}
use Rattle.flow.proofs.past.past.Goals as goal
use Rattle.flow.proofs.past.past.Goals.{then-code-eq-CALL, else-code-eq-CALL}

pub loop-open-preserved : goal.loop-open-preserved
loop-open-preserved c =
    elim c.if-code-eq-CALL.branch [ then-code-eq-CALL w ↦ rw w.open-is (search passing_call) | else-code-eq-CALL w ↦ rw w.open-is (search passing_variable) ]

pub loop-open-init : goal.loop-open-init
loop-open-init c = search passing_none

pub loop-open-preserved-then-code-eq-OPERATION : goal.loop-open-preserved-then-code-eq-OPERATION
loop-open-preserved-then-code-eq-OPERATION c = search passing_two

pub loop-open-preserved-then-code-eq-CONSTANT : goal.loop-open-preserved-then-code-eq-CONSTANT
loop-open-preserved-then-code-eq-CONSTANT c = search passing_constant

pub bounds-book-at-then-code-eq-CALL : goal.bounds-book-at-then-code-eq-CALL
bounds-book-at-then-code-eq-CALL c = search passing_there

pub parameters-open-requires : goal.parameters-open-requires
parameters-open-requires c = search passing_entry

pub returns : goal.returns
returns c = search passing_returns
