-- What the parts of the public entry are held to.
use Rattle.std.specs.Prelude.{◌≡◌, ℕ, ◌-◌, ◌<◌, ◌≤◌, List, length, take, replicate, ◌≢◌}
use Rattle.meaning.specs.Limits.{most_calls}
use Rattle.meaning.specs.Reading.{procedures, entry}
use Rattle.meaning.specs.Running.{runs}
use Rattle.meaning.specs.Answers.{ran, run_answer, no_run}
use Rattle.runner.specs.Outcome.{outcome_of}
use Rattle.runner.specs.Opened.{Opened, book_of}
use Rattle.runner.specs.Answer.{answer_of}
use Rattle.runner.specs.Endings.{number, value, ending_of, value_of}
use Rattle.runner.specs.declared.ran.Ending.{Ending}
use Rattle.runner.specs.declared.ran.Ran.{Ran}

-- How a run has ended that is over.
pub record EndsAs (a : ℕ) (e : Ending) : Type 0 where
  pub same : (budget : ℕ) → ran budget (outcome_of a) ≡ record { ending = number e; value = value e; steps = budget - (answer_of a).left }

-- The answer is that of the outcome under the budget.
pub record AnsweredPost (budget : ℕ) (a : ℕ) (r : Ran) : Type 0 where
  pub same : ran budget (outcome_of a) ≡ record { ending = ending_of r; value = value_of r; steps = r.steps }

-- A run may start: a procedure that there is, its eight values, and a budget that an answer holds.
pub record StartPre (b : List ℕ) (p : ℕ) (given : List ℕ) (budget : ℕ) (w : List ℕ) : Type 0 where
  pub book : Opened b
  pub known : p < procedures b
  pub eight : length given ≡ 8
  pub few : budget ≤ 1000000
  pub cells : length w ≡ 1024

-- The same with a book of at most so many bytes.
pub record SizedPre (most : ℕ) (b : List ℕ) (p : ℕ) (given : List ℕ) (budget : ℕ) (w : List ℕ) : Type 0 where
  pub start : StartPre b p given budget w
  pub bytes : length b ≤ most

-- A run from call depth 1.
pub record BegunPost (b : List ℕ) (p : ℕ) (given : List ℕ) (budget : ℕ) (r : ℕ) : Type 0 where
  pub ran : (g : Opened b) →
      outcome_of r ≡ runs (book_of g) most_calls p (take (entry b p).parameters given) budget
  pub fell : (answer_of r).left ≤ budget

-- The same, and the cells 0 afterwards.
pub record StartedPost (b : List ℕ) (p : ℕ) (given : List ℕ) (budget : ℕ) (w' : List ℕ) (r : ℕ) : Type 0 where
  pub begun : BegunPost b p given budget r
  pub zeros : w' ≡ replicate (length w') 0

-- What a run of a readable book asks of its other arguments.
pub record Allowed (b : List ℕ) (p inputs budget cells : ℕ) : Type 0 where
  pub known : p < procedures b
  pub counted : inputs ≡ (entry b p).parameters
  pub enough : 1024 ≤ cells
  pub few : budget ≤ 1000000

-- The refusal of a readable book's run with so many inputs and cells, 0 for none.
pub record JudgedPost (b : List ℕ) (p inputs budget cells r : ℕ) : Type 0 where
  pub allows : r ≡ 0 → Allowed b p inputs budget cells
  pub refuses : (r ≢ 0) → (xs work : List ℕ) → inputs ≡ length xs → cells ≡ length work → run_answer b p xs budget work ≡ no_run r work
