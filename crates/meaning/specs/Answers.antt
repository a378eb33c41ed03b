-- What each entry answers, as a function of all that it is lent, and what lent memory holds afterwards.
-- The lowest refusal that applies is returned, with every other field 0 and lent memory as it was.
use Rattle.std.specs.Prelude.{Bool, true, false, ◌&&◌, List, [], ◌∷◌, ◌++◌, ℕ, zero, suc, ◌+◌, ◌-◌, ◌/◌, ◌%◌, eqb, leb, ltb, length, get_or, drop, replicate}
use Rattle.std.proofs.Math.Option.{some, none}
use Rattle.std.proofs.Math.ListN.{get_elem?}
use Rattle.meaning.specs.Limits.{most_calls, most_steps, least_cells}
use Rattle.meaning.specs.Lists.{every}
use Rattle.meaning.specs.Tree.{Procedure, Book}
use Rattle.meaning.specs.Reading.{refused, readable, read}
use Rattle.meaning.specs.Running.{Ending, out_of_steps, too_deep, Out, done, ended, runs}
use Rattle.meaning.specs.Flow.{at, size, satisfies, find}
use Rattle.meaning.specs.Levels.{levels, valid, reported}

-- The reader: the summary's size.
pub record ReadAnswer : Type 0 where
  pub refusal : ℕ
  pub size : ℕ

unfoldable pub read_answer : List ℕ → ReadAnswer
read_answer book =
    elim (read book)
    [ refused f ↦ record { refusal = f.number; size = 0 } | readable b ↦ record { refusal = 0; size = size b } ]

-- A run: its ending, its value and the steps spent.
pub record Ran : Type 0 where
  pub ending : ℕ
  pub value : ℕ
  pub steps : ℕ

-- The endings' numbers.
abbrev pub finished : ℕ
finished = 1

unfoldable pub ending_number : Ending → ℕ
ending_number out_of_steps = 2
ending_number too_deep = 3

-- An outcome under a budget; the value is 0 unless the run finished.
unfoldable pub ran : ℕ → Out ℕ → Ran
ran budget (done v left) = record { ending = finished; value = v; steps = budget - left }
ran budget (ended e left) = record { ending = ending_number e; value = 0; steps = budget - left }

-- A run of a procedure of a readable book.
unfoldable pub run_of : Book → ℕ → List ℕ → ℕ → Ran
run_of b p inputs budget = ran budget (runs b most_calls p inputs budget)

-- The runner: the refusal, the run, and the work cells afterwards.
pub record RunAnswer : Type 0 where
  pub refusal : ℕ
  pub run : Ran
  pub work : List ℕ

unfoldable pub no_run : ℕ → List ℕ → RunAnswer
no_run number work = record { refusal = number; run = record { ending = 0; value = 0; steps = 0 }; work = work }

-- After any run not refused the first cells are 0 and the others unchanged.
unfoldable pub cleared : List ℕ → List ℕ
cleared work = replicate least_cells 0 ++ drop least_cells work

unfoldable pub run_book : Book → ℕ → List ℕ → ℕ → List ℕ → RunAnswer
run_book b p inputs budget work =
    elim (get_elem? b p) [
      | none ↦ no_run 6 work
      | some q ↦ elim (eqb (length inputs) q.parameters) [
        | false ↦ no_run 7 work
        | true ↦ elim (leb least_cells (length work)) [
          | false ↦ no_run 10 work
          | true ↦ elim (leb budget most_steps) [
            | false ↦ no_run 11 work
            | true ↦ record { refusal = 0; run = run_of b p inputs budget; work = cleared work }
          ]
        ]
      ]
    ]

unfoldable pub run_answer : List ℕ → ℕ → List ℕ → ℕ → List ℕ → RunAnswer
run_answer book p inputs budget work =
    elim (read book) [ refused f ↦ no_run f.number work | readable b ↦ run_book b p inputs budget work ]

-- The checker: the refusal of a summary for a readable book, 0 where it is accepted.
unfoldable pub check_book : Book → List ℕ → ℕ
check_book b σ =
    elim (eqb (length σ) (size b)) [ false ↦ 8 | true ↦ elim (satisfies b σ) [ false ↦ 9 | true ↦ 0 ] ]

unfoldable pub check_answer : List ℕ → List ℕ → ℕ
check_answer book σ = elim (read book) [ refused f ↦ f.number | readable b ↦ check_book b σ ]

-- The finder: the size, the rounds, and the buffer afterwards.
pub record FindAnswer : Type 0 where
  pub refusal : ℕ
  pub size : ℕ
  pub rounds : ℕ
  pub buffer : List ℕ

unfoldable pub no_find : ℕ → List ℕ → FindAnswer
no_find number buffer = record { refusal = number; size = 0; rounds = 0; buffer = buffer }

-- It writes exactly the size and nothing beyond.
unfoldable pub find_book : Book → List ℕ → FindAnswer
find_book b buffer =
    elim (leb (size b) (length buffer)) [
      | false ↦ no_find 8 buffer
      | true ↦ record { refusal = 0; size = size b; rounds = (find b).rounds; buffer = (find b).summary ++ drop (size b) buffer }
    ]

unfoldable pub find_answer : List ℕ → List ℕ → FindAnswer
find_answer book buffer = elim (read book) [ refused f ↦ no_find f.number buffer | readable b ↦ find_book b buffer ]

-- The level reporter: the level of a procedure's answer.
pub record LevelAnswer : Type 0 where
  pub refusal : ℕ
  pub level : ℕ

unfoldable pub no_level : ℕ → LevelAnswer
no_level number = record { refusal = number; level = 0 }

-- There is one level for each parameter, each below n.
unfoldable pub fitting : List ℕ → Procedure → List ℕ → Bool
fitting t q ls = eqb (length ls) q.parameters && every (length ls) λ i. ltb (get_or ls i 0) (levels t)

unfoldable pub level_of : Book → List ℕ → ℕ → Procedure → List ℕ → List ℕ → LevelAnswer
level_of b t p q ls σ =
    elim (check_book b σ)
    [ zero ↦ record { refusal = 0; level = reported t ls q.parameters (at σ p) } | suc n ↦ no_level (suc n) ]

unfoldable pub level_book : Book → List ℕ → ℕ → List ℕ → List ℕ → LevelAnswer
level_book b t p ls σ =
    elim (valid t) [
      | false ↦ no_level 5
      | true ↦ elim (get_elem? b p) [
        | none ↦ no_level 6
        | some q ↦ elim (fitting t q ls) [ false ↦ no_level 7 | true ↦ level_of b t p q ls σ ]
      ]
    ]

unfoldable pub level_answer : List ℕ → List ℕ → ℕ → List ℕ → List ℕ → LevelAnswer
level_answer book t p ls σ = elim (read book) [ refused f ↦ no_level f.number | readable b ↦ level_book b t p ls σ ]

-- A number in decimal; `k` is above it.
unfoldable pub digits : ℕ → ℕ → List ℕ → List ℕ
digits zero n text = text
digits (suc k) n text =
    elim (ltb n 10) [ true ↦ (48 + n) ∷ text | false ↦ digits k (n / 10) ((48 + n % 10) ∷ text) ]

unfoldable pub decimal : ℕ → List ℕ
decimal n = digits (suc n) n []

-- One line per procedure: number, parameters, locals, result set, one space between.
unfoldable pub lines : ℕ → Book → List ℕ → List ℕ
lines p [] σ = []
lines p (q ∷ qs) σ =
    decimal p ++ (32 ∷ decimal q.parameters ++ (32 ∷ decimal q.locals ++ (32 ∷ decimal (at σ p) ++ (10 ∷ lines (suc p) qs σ))))

-- The word `refused` and a space.
abbrev pub refused_text : List ℕ
refused_text = 114 ∷ 101 ∷ 102 ∷ 117 ∷ 115 ∷ 101 ∷ 100 ∷ 32 ∷ []

-- The listing program: what it prints for the book on its standard input.
unfoldable pub listing : List ℕ → List ℕ
listing book =
    elim (read book)
    [ refused f ↦ refused_text ++ (decimal f.number ++ (10 ∷ [])) | readable b ↦ lines 0 b (find b).summary ]
