-- The eight starred cases of document 01 as one table, and one statement: the entries' definitions give every row.
use Rattle.std.specs.Prelude.{◌≡◌, List, [], ◌∷◌, ◌++◌, map, ℕ, replicate}
use Rattle.meaning.specs.Limits.{least_cells, most_steps}
use Rattle.meaning.specs.Answers.{run_answer, check_answer, find_answer, level_answer, listing}

-- The books.
abbrev pub A : List ℕ
A = 0x01 ∷ 0x07 ∷ 0x00 ∷ 0x03 ∷ 0x00 ∷ 0x01 ∷ 0x00 ∷ 0x04 ∷ 0x11 ∷ 0x00 ∷ []

-- A book of one procedure: its bytes of body, parameters, locals and body.
abbrev one : ℕ → ℕ → ℕ → List ℕ → List ℕ
one bytes parameters locals text = 0x01 ∷ 0x07 ∷ 0x00 ∷ bytes ∷ 0x00 ∷ parameters ∷ locals ∷ text

abbrev pub B : List ℕ
B = one 5 1 0 (0x04 ∷ 0x13 ∷ 0x00 ∷ 0x11 ∷ 0x00 ∷ [])

abbrev pub C : List ℕ
C =
    one 15 1 1
    (0x02 ∷ 0x11 ∷ 0x00 ∷ 0x01 ∷ 0x01 ∷ 0x10 ∷ 0x01 ∷ 0x00 ∷ 0x00 ∷ 0x00 ∷ 0x00 ∷ 0x00 ∷ 0x04 ∷ 0x11 ∷ 0x01 ∷ [])

-- while c: a := b; b := h; c := c - 1; return a.
abbrev pub D : List ℕ
D =
    one 26 3 1
    (0x03 ∷ 0x11 ∷ 0x00
    ∷ 0x01 ∷ 0x03 ∷ 0x11 ∷ 0x01
    ∷ 0x01 ∷ 0x01 ∷ 0x11 ∷ 0x02
    ∷ 0x01 ∷ 0x00 ∷ 0x12 ∷ 0x01 ∷ 0x11 ∷ 0x00 ∷ 0x10 ∷ 0x01 ∷ 0x00 ∷ 0x00 ∷ 0x00
    ∷ 0x00
    ∷ 0x04 ∷ 0x11 ∷ 0x03 ∷ [])

abbrev pub E : List ℕ
E = one 7 1 0 (0x04 ∷ 0x12 ∷ 0x01 ∷ 0x11 ∷ 0x00 ∷ 0x11 ∷ 0x00 ∷ [])

abbrev pub F : List ℕ
F = one 10 1 0 (0x01 ∷ 0x00 ∷ 0x10 ∷ 0x00 ∷ 0x00 ∷ 0x00 ∷ 0x00 ∷ 0x04 ∷ 0x11 ∷ 0x00 ∷ [])

abbrev pub M : List ℕ
M =
    (0x02 ∷ 0x0D ∷ 0x00 ∷ 0x23 ∷ 0x00 ∷ 0x02 ∷ 0x00 ∷ 0x30 ∷ 0x00 ∷ 0x19 ∷ 0x00 ∷ 0x01 ∷ 0x00 ∷ [])
    ++ ((0x03 ∷ 0x11 ∷ 0x00 ∷ 0x01 ∷ 0x01 ∷ 0x12 ∷ 0x00 ∷ 0x11 ∷ 0x00 ∷ 0x10 ∷ 0x01 ∷ 0x00 ∷ 0x00 ∷ 0x00
    ∷ 0x01 ∷ 0x00 ∷ 0x12 ∷ 0x01 ∷ 0x11 ∷ 0x01 ∷ 0x10 ∷ 0x04 ∷ 0x00 ∷ 0x00 ∷ 0x00 ∷ 0x00
    ∷ 0x04 ∷ 0x12 ∷ 0x00 ∷ 0x13 ∷ 0x01 ∷ 0x11 ∷ 0x00 ∷ 0x11 ∷ 0x01 ∷ [])
    ++ (0x05 ∷ 0x11 ∷ 0x00 ∷ 0x04 ∷ 0x12 ∷ 0x02 ∷ 0x11 ∷ 0x00 ∷ 0x13 ∷ 0x01 ∷ 0x12 ∷ 0x01 ∷ 0x11 ∷ 0x00
    ∷ 0x10 ∷ 0x01 ∷ 0x00 ∷ 0x00 ∷ 0x00 ∷ 0x04 ∷ 0x10 ∷ 0x00 ∷ 0x00 ∷ 0x00 ∷ 0x00 ∷ []))

-- What is asked of an entry. The bytes lent to the finder are given; the runner is lent 1,024 cells that hold 7.
pub data Question : Type 0 where
  found : List ℕ → List ℕ → Question
  sets : List ℕ → List ℕ → Question
  run_of : List ℕ → ℕ → List ℕ → ℕ → Question
  value_of : List ℕ → List ℕ → Question
  checked : List ℕ → List ℕ → Question
  level_asked : List ℕ → List ℕ → List ℕ → List ℕ → Question
  listed : List ℕ → Question

abbrev pub work : List ℕ
work = replicate least_cells 7

-- The numbers that the entry's definition gives: the refusal first, then those that document 01 names.
abbrev ask : Question → List ℕ
ask (found book buffer) =
    let a = find_answer book buffer in
    a.refusal ∷ a.size ∷ a.rounds ∷ a.buffer
ask (sets book buffer) =
    let a = find_answer book buffer in
    a.refusal ∷ a.buffer
ask (run_of book p inputs budget) =
    let a = run_answer book p inputs budget work in
    a.refusal ∷ a.run.ending ∷ a.run.value ∷ a.run.steps ∷ []
ask (value_of book inputs) =
    let a = run_answer book 0 inputs most_steps work in
    a.refusal ∷ a.run.ending ∷ a.run.value ∷ []
ask (checked book summary) = check_answer book summary ∷ []
ask (level_asked book table levels summary) =
    let a = level_answer book table 0 levels summary in
    a.refusal ∷ a.level ∷ []
ask (listed book) = listing book

-- A question, and what document 01 says to it.
pub record Row : Type 0 where
  pub question : Question
  pub answer : List ℕ

infix 10 ◌answers◌
abbrev ◌answers◌ : Question → List ℕ → Row
q answers a = record { question = q; answer = a }

abbrev table : List Row
table =
    (found A (9 ∷ 9 ∷ []) answers (0 ∷ 1 ∷ 2 ∷ 0x01 ∷ 9 ∷ []))
    ∷ (run_of A 0 (9 ∷ []) most_steps answers (0 ∷ 1 ∷ 9 ∷ 2 ∷ []))
    ∷ (run_of A 0 (9 ∷ []) 1 answers (0 ∷ 2 ∷ 0 ∷ 1 ∷ []))
    ∷ (found B (9 ∷ []) answers (0 ∷ 1 ∷ 1 ∷ 0x00 ∷ []))
    ∷ (run_of B 0 (9 ∷ []) 192 answers (0 ∷ 3 ∷ 0 ∷ 192 ∷ []))
    ∷ (run_of B 0 (9 ∷ []) 191 answers (0 ∷ 2 ∷ 0 ∷ 191 ∷ []))
    ∷ (sets C (9 ∷ []) answers (0 ∷ 0x01 ∷ []))
    ∷ (run_of C 0 (0 ∷ []) most_steps answers (0 ∷ 1 ∷ 0 ∷ 4 ∷ []))
    ∷ (run_of C 0 (5 ∷ []) most_steps answers (0 ∷ 1 ∷ 1 ∷ 6 ∷ []))
    ∷ (found D (9 ∷ 9 ∷ 9 ∷ 9 ∷ 9 ∷ []) answers (0 ∷ 5 ∷ 5 ∷ 0x07 ∷ 0x01 ∷ 0x07 ∷ 0x04 ∷ 0x07 ∷ []))
    ∷ (run_of D 0 (2 ∷ 5 ∷ 9 ∷ []) most_steps answers (0 ∷ 1 ∷ 9 ∷ 24 ∷ []))
    ∷ (run_of D 0 (1 ∷ 5 ∷ 9 ∷ []) most_steps answers (0 ∷ 1 ∷ 5 ∷ 14 ∷ []))
    ∷ (run_of D 0 (0 ∷ 5 ∷ 9 ∷ []) most_steps answers (0 ∷ 1 ∷ 0 ∷ 4 ∷ []))
    ∷ (checked D (0x03 ∷ 0x01 ∷ 0x03 ∷ 0x04 ∷ 0x03 ∷ []) answers (9 ∷ []))
    ∷ (checked D (0x07 ∷ 0x01 ∷ 0x07 ∷ 0x04 ∷ 0x07 ∷ []) answers (0 ∷ []))
    ∷ (sets E (9 ∷ []) answers (0 ∷ 0x01 ∷ []))
    ∷ (value_of E (7 ∷ []) answers (0 ∷ 1 ∷ 0 ∷ []))
    ∷ (sets F (9 ∷ []) answers (0 ∷ 0x00 ∷ []))
    ∷ (level_asked A (0x01 ∷ 0x00 ∷ []) (0 ∷ []) (0x01 ∷ []) answers (0 ∷ 0 ∷ []))
    ∷ (level_asked A (0x02 ∷ 0x00 ∷ 0x01 ∷ 0x01 ∷ 0x00 ∷ []) (0 ∷ []) (0x01 ∷ []) answers (5 ∷ 0 ∷ []))
    ∷ (found M (9 ∷ 9 ∷ 9 ∷ 9 ∷ []) answers (0 ∷ 4 ∷ 3 ∷ 0x03 ∷ 0x01 ∷ 0x01 ∷ 0x03 ∷ []))
    ∷ (run_of M 1 (3 ∷ []) most_steps answers (0 ∷ 1 ∷ 0 ∷ 31 ∷ []))
    ∷ (listed M answers (48 ∷ 32 ∷ 50 ∷ 32 ∷ 48 ∷ 32 ∷ 51 ∷ 10 ∷ 49 ∷ 32 ∷ 49 ∷ 32 ∷ 48 ∷ 32 ∷ 49 ∷ 10 ∷ []))
    ∷ []

-- The definitions of the entries, from the bytes, give every row. `meaning/proofs/Starred` proves it.
abbrev pub EveryRow : Type 0
EveryRow = map (λ r. ask r.question) table ≡ map (λ r. r.answer) table
