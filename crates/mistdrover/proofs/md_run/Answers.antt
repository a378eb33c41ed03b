-- What C is told, from the answer in Rust.
use mathlib.Core.Path.{◌∙◌}
use Rattle.std.proofs.Common.{rules}
use Rattle.runner.specs.Endings.{number, value}
use Rattle.mistdrover.proofs.Fields.{told_as}
use Rattle.mistdrover.proofs.md_run.Goals as goal

pub returns : goal.returns
returns c =
    let r = c.run-ran in
    let m = told_as (λ a. (number a.ending, value a.ending, a.steps)) (λ a l k. search rules) r.result c.map-fields.result c.map-fields.ensures.cases
    c.told.ensures.number c.told.ensures.filled in
    record { refusal_is = m.0 ∙ r.ensures.refusal_is; answer_is = m.1 ∙ cc; work_is = r.ensures.work_is }
