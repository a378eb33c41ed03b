-- Every level is tried.
use mathlib.Core.Path.{◌∙◌}
use lib.Dec.{ltb}
use Rattle.std.proofs.Common.{rules, tests}
use Rattle.std.proofs.lemmas.Iterator.{YieldsList-from_slice}
use Rattle.std.proofs.lemmas.Iterator.Search.{all_from_yields_List}
use Rattle.reporter.specs.Parts.{all_below}
use Rattle.reporter.proofs.AllBelow.{all_every}
use Rattle.reporter.proofs.below.Goals as goal

pub returns : goal.returns
unfolding all_below
returns c =
    let ls = c.args.levels.now in
    all_from_yields_List (λ l. ltb l c.count-n.result) _ _ _ c.all.ensures.ran (YieldsList-from_slice ls cc) (λ x b q k. search (rules, tests))
    ∙ all_every (λ l. ltb l c.count-n.result) ls ∙ rw c.count-n.ensures
