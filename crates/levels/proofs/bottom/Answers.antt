-- Of the levels in turn, the last that is bottom.
use mathlib.Core.Path.{◌∙◌}
use mathlib.Core.Bool.{cond}
use Rattle.std.proofs.Common.{rules, tests}
use Rattle.std.proofs.lemmas.Iterator.{YieldsList-from_range}
use Rattle.std.proofs.lemmas.Iterator.Consumers.{fold_from_yields_List}
use Rattle.meaning.specs.Levels.{is_bottom, bottom}
use Rattle.levels.proofs.Laws.{fold_below}
use Rattle.levels.proofs.bottom.Goals as goal

pub returns : goal.returns
unfolding bottom
returns c =
    let t = c.args.table.now in
    let n = c.count.result in
    fold_from_yields_List _ (λ found a. cond (is_bottom t a) a found) _ _ c.fold.ensures.ran (YieldsList-from_range 0 n n (search rules) (search rules))
    (λ found a b q k. search (rules, tests))
    ∙ fold_below (λ a found. cond (is_bottom t a) a found) 0 n ∙ rw c.count.ensures
