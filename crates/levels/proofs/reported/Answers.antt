-- The parameters in turn.
use mathlib.Core.Path.{◌∙◌}
use mathlib.Core.Bool.{cond}
use lib.ListN.{get_or}
use Rattle.std.proofs.Common.{rules, tests}
use Rattle.std.proofs.lemmas.Iterator.{YieldsList-from_range}
use Rattle.std.proofs.lemmas.Iterator.Consumers.{fold_from_yields_List}
use native.Mathlib.Omega.{arith}
use Prim.Native.Nat.{◌<◌}
use Rattle.meaning.specs.Limits.{most_parameters}
use Rattle.meaning.specs.Sets.{member}
use Rattle.meaning.specs.Levels.{join, reported}
use Rattle.levels.proofs.Laws.{fold_below, below_end}
use Rattle.levels.proofs.reported.Goals as goal

pub fold-requires : goal.fold-requires
fold-requires c = record { can = tt; finite = tt; callable = below_end (λ q x h. let l : x < most_parameters = omega arith in search l) }

pub returns : goal.returns
unfolding reported
returns c =
    let t = c.args.table.now in
    let ls = c.args.levels.now in
    let s = c.args.set in
    fold_from_yields_List _ (λ x i. cond (member i s) (join t x (get_or ls i 0)) x) _ _ c.fold.ensures.ran
    (YieldsList-from_range 0 c.args.n c.args.n (search rules) (search rules)) (λ x i b q k. search (rules, tests))
    ∙ fold_below (λ i x. cond (member i s) (join t x (get_or ls i 0)) x) c.bottom.result c.args.n ∙ rw c.bottom.ensures
