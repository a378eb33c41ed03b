-- After p turns the first p lines are there.
use native.Mathlib.Omega.{arith}
use borrow.Author.Rules.{rules}
use Rattle.meaning.specs.Sets.{empty}
use Rattle.meaning.specs.Flow.{at}
use Rattle.lines.proofs.Shown.{shown_more, shown_all, first_there, entry_there, line_fits}
use Rattle.lines.proofs.entries.lines_of.Goals as goal

pub bounds-bytes-0 : goal.bounds-bytes-0
bounds-bytes-0 c = first_there c.args.book.answer

pub parameters-requires : goal.parameters-requires
parameters-requires c = entry_there c.args.book.answer (omega arith)

pub locals-requires : goal.locals-requires
locals-requires c = entry_there c.args.book.answer (omega arith)

pub line-requires-clause-space : goal.line-requires-clause-space
line-requires-clause-space c = line_fits c.args.book.answer (omega arith) c.loop-p.invariant.2

pub loop-p-preserved : goal.loop-p-preserved
unfolding at empty
loop-p-preserved c = (
  search rules,
  omega arith,
  shown_more (omega arith) c.parameters.ensures c.locals.ensures c.from-set.ensures (search rules) c.loop-p.invariant.2 c.line.ensures,
)

pub returns : goal.returns
returns c = shown_all (omega arith) c.loop-p.invariant.2
