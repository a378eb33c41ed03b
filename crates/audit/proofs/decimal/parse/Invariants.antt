-- After i turns the first i digits are read.
use Rattle.audit.proofs.Digits.{Upto}
use Rattle.audit.proofs.decimal.parse.Given as goal

abbrev pub invariant-loop-b : goal.invariant-loop-b
invariant-loop-b l = Upto l.text l.b-index l.value
