-- The answer of a part of the run, read as an outcome: how it ended (0 for not), the result, and the steps left.
use Rattle.std.specs.Prelude.{ℕ, zero, suc, true, false, ◌==◌}
use Rattle.meaning.specs.Running.{Ending, out_of_steps, too_deep, Out, ended, yield}
use Rattle.runner.specs.Answer.{answer_of}

unfoldable pub ending_of : ℕ → Ending
ending_of e = elim (e == 4) [ true ↦ out_of_steps | false ↦ too_deep ]

-- Where the run has ended the result says nothing.
unfoldable pub outcome : {A : Type 0} → ℕ → A → ℕ → Out A
outcome zero a left = yield a left
outcome (suc e) a left = ended (ending_of (suc e)) left

-- The outcome that an answer says, with another result in the value's place, and with the value itself.
abbrev pub leaves : {A : Type 0} → ℕ → A → Out A
leaves a x = outcome (answer_of a).ending x (answer_of a).left

abbrev pub outcome_of : ℕ → Out ℕ
outcome_of a = leaves a (answer_of a).value
