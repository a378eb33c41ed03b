-- Every level is tried.
use mathlib.Core.Path.{◌∙◌}
use Rattle.std.proofs.Common.{rules, tests}
use Rattle.std.proofs.lemmas.Iterator.{YieldsList-from_range}
use Rattle.std.proofs.lemmas.Iterator.Search.{all_from_yields_List}
use Rattle.meaning.specs.Levels.{is_bottom, at_or_below}
use Rattle.levels.proofs.Laws.{all_every}
use Rattle.levels.proofs.is_bottom.Goals as goal

pub returns : goal.returns
unfolding is_bottom at_or_below
returns c =
    let test = at_or_below c.args.table.now c.args.a in
    all_from_yields_List test _ _ _ c.all.ensures.ran (YieldsList-from_range 0 c.count.result c.count.result (search rules) (search rules))
    (λ x b q k. search (rules, tests))
    ∙ all_every test c.count.result ∙ rw c.count.ensures
