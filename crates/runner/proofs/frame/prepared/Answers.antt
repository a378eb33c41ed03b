-- Parameters as given, then locals 0. The loop's bound is compared with the variables by arithmetic alone.
use Rattle.std.proofs.Common.{arith}
use Rattle.runner.proofs.Frames.{set_start, set_parameter, set_local, parameters_few, variables_fit, prepared_done}
use Rattle.runner.proofs.frame.prepared.Goals as goal
use Rattle.runner.proofs.frame.prepared.Goals.{then-i-k, else-i-k}

pub loop-i-init : goal.loop-i-init
loop-i-init c =
    set_start c.requires.eight (parameters_few c.requires c.parameters-k.ensures) (variables_fit c.requires c.parameters-k.ensures c.locals-l.ensures)

pub loop-i-preserved : goal.loop-i-preserved
loop-i-preserved c =
    elim c.if-i-k.branch [
      | then-i-k w ↦ set_parameter c.loop-i.invariant (omega arith) (omega arith) w.work-is
      | else-i-k w ↦ set_local c.loop-i.invariant (omega arith) (omega arith) w.work-is
    ]

pub returns : goal.returns
returns c = prepared_done c.requires c.parameters-k.ensures c.locals-l.ensures c.loop-i.invariant (omega arith)
