-- The quotient by 0, and the truth of a test.
use Rattle.runner.proofs.Operations.{truth_of, quotient_found}
use Rattle.runner.proofs.operate.Operation.value.Goals as goal

pub returns-in-Quotient : goal.returns-in-Quotient
returns-in-Quotient c = rw (c.in-Quotient.is, c.unwrap_or.ensures) (quotient_found _ _ _ c.checked_div.ensures)

pub returns-in-Equal : goal.returns-in-Equal
returns-in-Equal c = rw (c.in-Equal.is, c.from.ensures) (truth_of _)

pub returns-in-Less : goal.returns-in-Less
returns-in-Less c = rw (c.in-Less.is, c.from-in-Less.ensures) (truth_of _)
