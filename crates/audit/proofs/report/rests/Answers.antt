-- Past the most parameters a set names none.
use Rattle.std.proofs.Common.{arith}
use mathlib.Core.Path.{◌∙◌}
use borrow.Author.Tests.{le-ltb}
use Rattle.audit.proofs.Named.{past_set}
use Rattle.audit.proofs.report.rests.Goals as goal

pub returns-else-i-lt-MOST_PARAMETERS : goal.returns-else-i-lt-MOST_PARAMETERS
returns-else-i-lt-MOST_PARAMETERS c = le-ltb c.args.i 8 (omega arith) ∙ past_set c.args.i c.args.set (omega arith) c.if-i-lt-MOST_PARAMETERS.false
