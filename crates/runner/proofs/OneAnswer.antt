-- One answer: no two answers of a run, nor two contents of the cells, meet its contract.
use mathlib.Core.Path.{◌≡◌, refl, ap, ◌∙◌}
use mathlib.Core.List.{List}
use Prim.Native.Nat.{ℕ}
use native.Mathlib.Omega.{arith}
use Rattle.std.specs.Prelude.{Result}
use Rattle.meaning.specs.Entries.{Runs}
use Rattle.meaning.proofs.OneAnswer.{one_run}
use Rattle.refusals.specs.declared.Refusal.{Refusal}
use Rattle.refusals.specs.Numbers.{refusal, field}
use Rattle.refusals.proofs.OneNumber.{one_answer}
use Rattle.runner.specs.Endings.{number, value, ending_of, value_of}
use Rattle.runner.specs.declared.ran.Ending.{Ending}
use Rattle.runner.specs.declared.ran.Ending.TheVariants.{Finished, OutOfSteps, TooDeep}
use Rattle.runner.specs.declared.ran.Ran.{Ran}

-- No two endings have one number and one value.
pub one_ending : (d e : Ending) → number d ≡ number e → value d ≡ value e → d ≡ e
one_ending (Finished v) (Finished w) n m = ap Finished m
one_ending (Finished v) OutOfSteps n m = absurd (omega (arith, n))
one_ending (Finished v) TooDeep n m = absurd (omega (arith, n))
one_ending OutOfSteps (Finished w) n m = absurd (omega (arith, n))
one_ending OutOfSteps OutOfSteps n m = refl
one_ending OutOfSteps TooDeep n m = absurd (omega (arith, n))
one_ending TooDeep (Finished w) n m = absurd (omega (arith, n))
one_ending TooDeep OutOfSteps n m = absurd (omega (arith, n))
one_ending TooDeep TooDeep n m = refl

one_ran : (a b : Ran) → ending_of a ≡ ending_of b → value_of a ≡ value_of b → a.steps ≡ b.steps → a ≡ b
one_ran a b e v s =
    ap (λ d. record { ending = d; steps = a.steps }) (one_ending a.ending b.ending e v)
    ∙ ap (λ n. record { ending = b.ending; steps = n }) s

-- As `one_run` has it of the numbers, of the answer itself.
pub one_run_answer : {book : List ℕ} {p : ℕ} {inputs : List ℕ} {budget : ℕ} {work w w' : List ℕ} (r s : Result Ran Refusal) →
    Runs book p inputs budget work (refusal r) (field ending_of r) (field value_of r) (field (λ x. x.steps) r) w →
    Runs book p inputs budget work (refusal s) (field ending_of s) (field value_of s) (field (λ x. x.steps) s) w' →
    (r ≡ s) × (w ≡ w')
one_run_answer r s x y =
    let o = one_run x y in (
      one_answer r s o.0 (λ a b p q. one_ran a b (rw (p, q) at o.1) (rw (p, q) at o.2) (rw (p, q) at o.3)),
      o.4,
    )
