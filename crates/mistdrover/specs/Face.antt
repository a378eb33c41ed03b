-- What the C functions answer: the refusal is returned, and the eight numbers of the answer are the fields from index 0, then 0.
use Rattle.std.specs.Prelude.{◌≡◌, List, [], ◌∷◌, ℕ}
use Rattle.meaning.specs.Answers.{read_answer, run_answer, check_answer, find_answer, level_answer}

-- Three fields, and five more numbers that are 0.
abbrev pub eight : ℕ → ℕ → ℕ → List ℕ
eight a b c = a ∷ b ∷ c ∷ 0 ∷ 0 ∷ 0 ∷ 0 ∷ 0 ∷ []

pub record FaceRead (book : List ℕ) (r : ℕ) (answer : List ℕ) : Type 0 where
  pub refusal_is : r ≡ (read_answer book).refusal
  pub answer_is : answer ≡ eight (read_answer book).size 0 0

pub record FaceRun (book : List ℕ) (p : ℕ) (inputs : List ℕ) (budget : ℕ) (work : List ℕ) (r : ℕ) (answer after : List ℕ) : Type 0 where
  pub refusal_is : r ≡ (run_answer book p inputs budget work).refusal
  pub answer_is :
      answer
      ≡ eight (run_answer book p inputs budget work).run.ending (run_answer book p inputs budget work).run.value
      (run_answer book p inputs budget work).run.steps
  pub work_is : after ≡ (run_answer book p inputs budget work).work

pub record FaceCheck (book summary : List ℕ) (r : ℕ) (answer : List ℕ) : Type 0 where
  pub refusal_is : r ≡ check_answer book summary
  pub answer_is : answer ≡ eight 0 0 0

pub record FaceFind (book buffer : List ℕ) (r : ℕ) (answer after : List ℕ) : Type 0 where
  pub refusal_is : r ≡ (find_answer book buffer).refusal
  pub answer_is : answer ≡ eight (find_answer book buffer).size (find_answer book buffer).rounds 0
  pub buffer_is : after ≡ (find_answer book buffer).buffer

pub record FaceLevel (book table : List ℕ) (p : ℕ) (ls summary : List ℕ) (r : ℕ) (answer : List ℕ) : Type 0 where
  pub refusal_is : r ≡ (level_answer book table p ls summary).refusal
  pub answer_is : answer ≡ eight (level_answer book table p ls summary).level 0 0
