-- What a run has come to, in the document's numbers.
use Rattle.std.specs.Prelude.{ℕ}
use Rattle.runner.specs.declared.ran.Ending.{Ending}
use Rattle.runner.specs.declared.ran.Ending.TheVariants.{Finished, OutOfSteps, TooDeep}
use Rattle.runner.specs.declared.ran.Ran.{Ran}

abbrev pub number : Ending → ℕ
number (Finished v) = 1
number OutOfSteps = 2
number TooDeep = 3

-- The value, 0 unless the run has finished.
abbrev pub value : Ending → ℕ
value (Finished v) = v
value OutOfSteps = 0
value TooDeep = 0

abbrev pub ending_of : Ran → ℕ
ending_of r = number r.ending

abbrev pub value_of : Ran → ℕ
value_of r = value r.ending
