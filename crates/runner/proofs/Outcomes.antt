-- Answers read as outcomes, under what the rules do with an outcome: go on, choose, spend a step.
use Rattle.std.proofs.Common.{◌≡◌, ℕ, zero, suc, ◌-◌, refl, arith}
use Rattle.meaning.specs.Running.{Out, done, ended, yield, bind, tick, choose}
use Rattle.runner.specs.Answer.{answer_of, Yields, Ends}
use Rattle.runner.specs.Outcome.{ending_of, outcome, leaves, outcome_of}

-- A part that has ended ends the whole, whatever result stands beside it.
pub stop : {A B : Type 0} (a : ℕ) (x : A) (y : B) (o : Out A) (g : A → ℕ → Out B) → leaves a x ≡ o → ((answer_of a).ending ≡ 0 → ⊥) →
    leaves a y ≡ bind o g
unfolding outcome bind
stop {A} {B} a x y o g p u = at_ending (answer_of a).ending (answer_of a).left p u
  where
    at_ending : (e l : ℕ) → outcome e x l ≡ o → (e ≡ 0 → ⊥) → outcome e y l ≡ bind o g
    at_ending zero l p u = absurd (u refl)
    at_ending (suc e) l p u = rw (← p)

-- A part that is done hands on its result.
pub go : {A B : Type 0} (a : ℕ) (x : A) (o : Out A) (g : A → ℕ → Out B) → leaves a x ≡ o → (answer_of a).ending ≡ 0 →
    bind o g ≡ g x (answer_of a).left
unfolding outcome bind yield
go a x o g p z = rw (← p, z)

pub no_step : {A : Type 0} (r : ℕ) (a : A) (g : ℕ → Out A) → Ends 4 0 r → leaves r a ≡ tick 0 g
unfolding outcome ending_of tick
no_step r a g e = rw e.is

-- An answer that was made with a value says that value.
pub made : {v l : ℕ} (r : ℕ) → Yields v l r → outcome_of r ≡ yield v l
unfolding outcome
made r e = rw e.is

-- The same with another result in the value's place.
pub said : {A : Type 0} (x : A) (l : ℕ) → outcome 0 x l ≡ yield x l
unfolding outcome
said x l = refl

pub left_made : {v l : ℕ} (r : ℕ) → Yields v l r → (answer_of r).left ≡ l
left_made r e = rw e.is

pub left_over : {e l : ℕ} (r : ℕ) → Ends e l r → (answer_of r).left ≡ l
left_over r e = rw e.is

pub goes : {v l : ℕ} (r : ℕ) → Yields v l r → (answer_of r).ending ≡ 0
goes r e = rw e.is

pub value_made : {v l : ℕ} (r : ℕ) → Yields v l r → (answer_of r).value ≡ v
value_made r e = rw e.is

pub taken : {A : Type 0} (v n : ℕ) (f g : ℕ → A) → (v ≡ 0 → ⊥) → choose v f g n ≡ f n
unfolding choose
taken zero n f g u = absurd (u refl)
taken (suc v) n f g u = refl

pub not_taken : {A : Type 0} (v n : ℕ) (f g : ℕ → A) → v ≡ 0 → choose v f g n ≡ g n
unfolding choose
not_taken v n f g z = rw z

pub before_one : {l : ℕ} → (l ≡ 0 → ⊥) → suc (l - 1) ≡ l
before_one u = omega arith

-- One part after another, where the first only makes a result of its result.
pub bind_yield : {A B C : Type 0} (o : Out A) (h : A → B) (k : B → ℕ → Out C) →
    bind (bind o (λ a n. yield (h a) n)) k ≡ bind o (λ a n. k (h a) n)
unfolding bind yield
bind_yield (done a n) h k = refl
bind_yield (ended e n) h k = refl

pub bind_same : {A B : Type 0} (o : Out A) (g k : A → ℕ → Out B) → ((a : A) (n : ℕ) → g a n ≡ k a n) → bind o g ≡ bind o k
unfolding bind
bind_same (done a n) g k e = e a n
bind_same (ended x n) g k e = refl
