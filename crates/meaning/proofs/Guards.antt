-- Guards against empty promises: each premise is met by some bytes, and no entry is allowed one answer for all.
use mathlib.Core.Path.{◌≡◌, refl}
use mathlib.Core.Logic.{◌≢◌}
use mathlib.Core.Bool.{true, false}
use mathlib.Core.List.{List, [], ◌∷◌}
use Prim.Native.Nat.{ℕ, zero, suc, ◌<◌}
use native.Mathlib.Omega.{arith}
use lib.ListN.{get_or}
use Rattle.meaning.specs.Limits.{most_steps}
use Rattle.meaning.specs.Sets.{empty, upto}
use Rattle.meaning.specs.Flow.{at}
use Rattle.meaning.specs.Levels.{at_or_below}
use Rattle.meaning.specs.Answers.{finished, run_answer, check_answer, level_answer}
use Rattle.meaning.specs.Worked.{B, M, work}
use Rattle.meaning.specs.Promises.{Finds, written}
use Rattle.meaning.proofs.Starred.{computed}

-- Two parameters, of which the first is returned.
abbrev N : List ℕ
N = 0x01 ∷ 0x07 ∷ 0x00 ∷ 0x03 ∷ 0x00 ∷ 0x02 ∷ 0x00 ∷ 0x04 ∷ 0x11 ∷ 0x00 ∷ []

-- Two levels, 0 below 1.
abbrev two_levels : List ℕ
two_levels = 2 ∷ 0 ∷ 1 ∷ 1 ∷ 1 ∷ []

-- A run's ending and its value.
abbrev run_of : List ℕ → List ℕ → List ℕ
run_of book inputs =
    let a = (run_answer book 0 inputs most_steps work).run in
    a.ending ∷ a.value ∷ []

-- The reporter answers a level, and the run that it speaks of finishes.
pub reports_and_finishes :
    (level_answer M two_levels 0 (0 ∷ 1 ∷ []) (0x03 ∷ 0x01 ∷ 0x01 ∷ 0x03 ∷ []) ≡ record { refusal = 0; level = 1 })
    × (run_of M (3 ∷ 7 ∷ []) ≡ finished ∷ 4 ∷ [])
unfolding computed
reports_and_finishes = (refl, refl)

-- Finished runs of one procedure may differ: equal values are no law of the runner.
pub values_differ : run_of M (0 ∷ 5 ∷ []) ≢ run_of M (0 ∷ 6 ∷ [])
unfolding computed
values_differ e = let z : ◌≡◌ {A = ℕ} 5 6 = cc in absurd (omega arith)

-- The reporter does not always name the top level: here it answers 0, and 1 is not at or below 0.
pub not_always_top :
    (level_answer N two_levels 0 (0 ∷ 1 ∷ []) (0x01 ∷ []) ≡ record { refusal = 0; level = 0 }) × (at_or_below two_levels 1 0 ≡ false)
unfolding computed
not_always_top = (refl, refl)

-- Two lists of inputs that differ in the second.
abbrev xs : List ℕ
xs = 9 ∷ 1 ∷ []

abbrev ys : List ℕ
ys = 9 ∷ 2 ∷ []

-- The premise on inputs at that answer is met by these two lists, which are not the same ..
pub inputs_may_differ :
    ((i : ℕ) → i < 2 → at_or_below two_levels (get_or (0 ∷ 1 ∷ []) i 0) 0 ≡ true → get_or xs i 0 ≡ get_or ys i 0) × (xs ≢ ys)
unfolding computed
inputs_may_differ = (agree, λ e. let z : ◌≡◌ {A = ℕ} 1 2 = cc in absurd (omega arith))
  where
    agree : (i : ℕ) → i < 2 → at_or_below two_levels (get_or (0 ∷ 1 ∷ []) i 0) 0 ≡ true → get_or xs i 0 ≡ get_or ys i 0
    agree zero h e = refl
    agree (suc zero) h e = let z : ◌≡◌ {A = ℕ} 0 1 = cc in absurd (omega arith)
    agree (suc (suc i)) h e = absurd (omega arith)

-- .. and both runs finish.
pub both_finish : (run_of N xs ≡ finished ∷ 9 ∷ []) × (run_of N ys ≡ finished ∷ 9 ∷ [])
unfolding computed
both_finish = (refl, refl)

-- The checker does not accept every summary of the right size.
pub one_refused : check_answer M (0x03 ∷ 0x00 ∷ 0x01 ∷ 0x03 ∷ []) ≡ 9
unfolding computed
one_refused = refl

-- It accepts more than what the finder writes.
pub another_accepted :
    (check_answer M (0x03 ∷ 0x01 ∷ 0x03 ∷ 0x03 ∷ []) ≡ 0)
    × Finds M (9 ∷ 9 ∷ 9 ∷ 9 ∷ [])
    × (written M (9 ∷ 9 ∷ 9 ∷ 9 ∷ []) ≢ 0x03 ∷ 0x01 ∷ 0x03 ∷ 0x03 ∷ [])
unfolding computed
another_accepted = (refl, refl, λ e. let z : ◌≡◌ {A = ℕ} 1 3 = cc in absurd (omega arith))

-- The finder does not name every parameter: B has one, and its result is empty.
pub not_always_full : Finds B (9 ∷ []) × (at (written B (9 ∷ [])) 0 ≡ empty) × (upto 1 ≢ empty)
unfolding computed
not_always_full = (refl, refl, λ e. let z : ◌≡◌ {A = ℕ} 0 1 = cc in absurd (omega arith))
