-- An answer's one number.
use Rattle.std.specs.Prelude.{ℕ, Result, Ok, Err}
use Rattle.runner.specs.declared.answer.Went.{Went}
use Rattle.runner.specs.declared.answer.Over.{Over}

abbrev pub packed_of : Result Went Over → ℕ
packed_of (Ok w) = w.packed
packed_of (Err o) = o.packed
