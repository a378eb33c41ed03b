use Rattle.flow.proofs.Rows.{Joining}
use Rattle.flow.proofs.row.unite.Given as goal

abbrev pub invariant-loop-i : goal.invariant-loop-i
invariant-loop-i l = Joining l.initial.sets l.other l.i l.sets
