-- The table has its shape, is lawful, and what is found is bottom.
use Rattle.levels.proofs.Tests.{unshaped, unlawful, bottom_decides}
use Rattle.levels.proofs.valid.Goals as goal
use Rattle.levels.proofs.valid.Goals.{then-shaped, else-shaped}

pub returns-then-lawful : goal.returns-then-lawful
returns-then-lawful c = elim c.if-shaped.branch [ then-shaped w ↦ search bottom_decides | else-shaped w ↦ cc ]

pub returns-else-lawful : goal.returns-else-lawful
returns-else-lawful c = elim c.if-shaped.branch [ then-shaped w ↦ search unlawful | else-shaped w ↦ search unshaped ]
