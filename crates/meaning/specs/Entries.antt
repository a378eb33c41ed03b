-- What each public function promises: its numbers, and lent memory at exit, are those of its entry's definition. `meaning/proofs/OneAnswer` has it that no two answers can meet one of these.
use Rattle.std.specs.Prelude.{◌≡◌, List, ℕ}
use Rattle.meaning.specs.Answers.{read_answer, run_answer, check_answer, find_answer, level_answer}

-- The reader.
pub record Reads (book : List ℕ) (refusal size : ℕ) : Type 0 where
  pub refusal_is : refusal ≡ (read_answer book).refusal
  pub size_is : size ≡ (read_answer book).size

-- The runner; `after` is what the work cells hold at exit.
pub record Runs (book : List ℕ) (p : ℕ) (inputs : List ℕ) (budget : ℕ) (work : List ℕ) (refusal ending value steps : ℕ) (after : List ℕ) : Type 0 where
  pub refusal_is : refusal ≡ (run_answer book p inputs budget work).refusal
  pub ending_is : ending ≡ (run_answer book p inputs budget work).run.ending
  pub value_is : value ≡ (run_answer book p inputs budget work).run.value
  pub steps_is : steps ≡ (run_answer book p inputs budget work).run.steps
  pub work_is : after ≡ (run_answer book p inputs budget work).work

-- The checker.
pub record Checks (book summary : List ℕ) (refusal : ℕ) : Type 0 where
  pub refusal_is : refusal ≡ check_answer book summary

-- The finder; `after` is what the buffer holds at exit.
pub record FindsIn (book buffer : List ℕ) (refusal size rounds : ℕ) (after : List ℕ) : Type 0 where
  pub refusal_is : refusal ≡ (find_answer book buffer).refusal
  pub size_is : size ≡ (find_answer book buffer).size
  pub rounds_is : rounds ≡ (find_answer book buffer).rounds
  pub buffer_is : after ≡ (find_answer book buffer).buffer

-- The level reporter.
pub record Reports (book table : List ℕ) (p : ℕ) (ls summary : List ℕ) (refusal level : ℕ) : Type 0 where
  pub refusal_is : refusal ≡ (level_answer book table p ls summary).refusal
  pub level_is : level ≡ (level_answer book table p ls summary).level
