-- What C is told, from the answer in Rust.
use mathlib.Core.Path.{◌∙◌}
use Rattle.std.proofs.Common.{rules}
use Rattle.mistdrover.proofs.Fields.{no_field, told_as}
use Rattle.mistdrover.proofs.md_find.Goals as goal

pub returns : goal.returns
returns c =
    let r = c.find-found in
    let m = told_as (λ a. (a.size, a.rounds, 0)) (λ a l k. search rules) r.result c.map.result c.map.ensures.cases
    c.told.ensures.number c.told.ensures.filled in
    record { refusal_is = m.0 ∙ r.ensures.refusal_is; answer_is = m.1 ∙ cc (no_field r.result); buffer_is = r.ensures.buffer_is }
