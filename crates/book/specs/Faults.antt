-- The numbers of the reasons, as the rules have them.
use Rattle.std.specs.Prelude.{ℕ}
use Rattle.meaning.specs.Reading.{ended_early, too_deep, unknown_code, no_variable, no_operation, no_procedure, left_over}
use Rattle.book.specs.declared.fault.Reason.{Reason}
use Rattle.book.specs.declared.fault.Reason.TheVariants.{EndedEarly, TooDeep, UnknownCode, NoVariable, NoOperation, NoProcedure, LeftOver}

abbrev pub number : Reason → ℕ
number EndedEarly = ended_early
number TooDeep = too_deep
number UnknownCode = unknown_code
number NoVariable = no_variable
number NoOperation = no_operation
number NoProcedure = no_procedure
number LeftOver = left_over
