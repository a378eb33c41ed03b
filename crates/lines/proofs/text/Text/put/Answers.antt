-- What is put stands behind the text, and 0 behind it.
use mathlib.Core.Path.{ap, ◌∙◌}
use mathlib.Core.List.{◌++◌}
use lib.ListN.{length}
use native.Mathlib.Omega.{arith}
use Rattle.lines.proofs.Laws.{put_text, put_says}
use Rattle.lines.proofs.text.Text.put.Goals as goal

pub invariant_of-self : goal.invariant_of-self
invariant_of-self c =
    put_says c.self.invariant (omega (arith, ap length c.self.view_is, c.self.invariant.len_is)) (omega arith) c.copy_from_slice.ensures.after

pub returns-clause-text : goal.returns-clause-text
returns-clause-text c =
    put_text c.self.invariant (omega (arith, ap length c.self.view_is, c.self.invariant.len_is)) (omega arith) c.copy_from_slice.ensures.after
    ∙ ap (λ t. t ++ c.args.more.now) c.self.view_is
