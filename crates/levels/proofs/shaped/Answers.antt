-- The number of levels is in the range, or not.
use Rattle.std.proofs.Common.{rules}
use Rattle.levels.proofs.Tests.{in_range, out_of_range}
use Rattle.levels.proofs.shaped.Goals as goal

pub returns-then-contains : goal.returns-then-contains
returns-then-contains c =
    in_range _ _ (search rules) (rw (c.new.ensures.exhausted, c.new.ensures.start, c.new.ensures.end) at c.contains.ensures.value) c.if-contains.true

pub returns-else-contains : goal.returns-else-contains
returns-else-contains c =
    out_of_range c.args.table.now c.from-n.result (search rules)
    (rw (c.new.ensures.exhausted, c.new.ensures.start, c.new.ensures.end) at c.contains.ensures.value) c.if-contains.false
