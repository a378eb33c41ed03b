-- Running a book: values, steps, budget, call depth, endings.
use Rattle.std.specs.Prelude.{Bool, true, false, List, [], ◌∷◌, ◌++◌, ℕ, zero, suc, ◌+◌, ◌-◌, ◌*◌, ◌/◌, ◌%◌, ◌^◌, min, max, eqb, ltb, get_or, set, replicate}
use Rattle.std.proofs.Math.Option.{some, none}
use Rattle.std.proofs.Math.ListN.{get_elem?}
use Rattle.meaning.specs.Tree.{Operation, sum, difference, product, quotient, equal, less, smaller, larger, Expr, Args, Cmd, Run, Closing, Procedure, Book}
use Rattle.meaning.specs.Tree.{constant, variable, operation, call, nil, arg, assign, branch, loop, stop, then, first, give, pick}

-- How a run ends before it has finished.
pub data Ending : Type 0 where
  out_of_steps too_deep : Ending

-- What a part of a run comes to: done with a result, or ended; each with the steps left of the budget.
pub data Out (A : Type 0) : Type 0 where
  done : A → ℕ → Out A
  ended : Ending → ℕ → Out A

-- Done, with n steps left.
unfoldable pub yield : {A : Type 0} → A → ℕ → Out A
yield a n = done a n

-- Go on after a part, if it is done.
unfoldable pub bind : {A B : Type 0} → Out A → (A → ℕ → Out B) → Out B
bind (done a n) g = g a n
bind (ended e n) g = ended e n

-- Spend one step; a step that would pass the budget is not spent.
unfoldable pub tick : {A : Type 0} → ℕ → (ℕ → Out A) → Out A
tick zero g = ended out_of_steps zero
tick (suc n) g = g n

-- Nonzero takes the first way, zero the second.
unfoldable pub choose : {A : Type 0} → ℕ → (ℕ → A) → (ℕ → A) → ℕ → A
choose zero f g n = g n
choose (suc v) f g n = f n

-- Values are 32-bit unsigned numbers.
abbrev pub modulus : ℕ
modulus = 2 ^ 32

-- A test's value: 1 or 0.
unfoldable pub truth : Bool → ℕ
truth true = 1
truth false = 0

-- Rounded down, and 0 for divisor 0.
unfoldable pub quotient_of : ℕ → ℕ → ℕ
quotient_of a zero = 0
quotient_of a (suc b) = a / suc b

-- What an operation gives for its operands.
unfoldable pub operate : Operation → ℕ → ℕ → ℕ → Out ℕ
operate sum a b n = yield ((a + b) % modulus) n
operate difference a b n = yield ((a + (modulus - b)) % modulus) n
operate product a b n = yield ((a * b) % modulus) n
operate quotient a b n = yield (quotient_of a b) n
operate equal a b n = yield (truth (eqb a b)) n
operate less a b n = yield (truth (ltb a b)) n
operate smaller a b n = yield (min a b) n
operate larger a b n = yield (max a b) n

-- How a procedure answers its inputs, with the steps left.
abbrev pub Callee : Type 0
Callee = ℕ → List ℕ → ℕ → Out ℕ

-- The value of an expression over the variables ρ. Operands and arguments go left to right, each in full.
unfoldable mutual
  pub value : Expr → Callee → List ℕ → ℕ → Out ℕ
  value (constant c) f ρ n = tick n λ n. yield c n
  value (variable x) f ρ n = tick n λ n. yield (get_or ρ x 0) n
  value (operation o a b) f ρ n = tick n λ n. bind (value a f ρ n) λ v n. bind (value b f ρ n) λ w n. operate o v w n
  value (call p es) f ρ n = tick n λ n. bind (values es f ρ n) λ vs n. f p vs n

  pub values : Args → Callee → List ℕ → ℕ → Out (List ℕ)
  values nil f ρ n = yield [] n
  values (arg e es) f ρ n = bind (value e f ρ n) λ v n. bind (values es f ρ n) λ vs n. yield (v ∷ vs) n

-- A loop: each test of the condition spends a step first. `k` is above the steps left, so the turns never run out.
unfoldable pub turns : (List ℕ → ℕ → Out ℕ) → (List ℕ → ℕ → Out (List ℕ)) → ℕ → List ℕ → ℕ → Out (List ℕ)
turns test inside zero ρ n = ended out_of_steps n
turns test inside (suc k) ρ n =
    tick n λ n. bind (test ρ n) λ v n.
    choose v (λ n. bind (inside ρ n) λ ρ n. turns test inside k ρ n) (λ n. yield ρ n) n

-- What an ordinary command, and a run of them, makes of the variables.
unfoldable mutual
  pub act : Cmd → Callee → List ℕ → ℕ → Out (List ℕ)
  act (assign x e) f ρ n = tick n λ n. bind (value e f ρ n) λ v n. yield (set ρ x v) n
  act (branch e s t) f ρ n = tick n λ n. bind (value e f ρ n) λ v n. choose v (λ n. acts s f ρ n) (λ n. acts t f ρ n) n
  act (loop k e s) f ρ n = turns (λ ρ n. value e f ρ n) (λ ρ n. acts s f ρ n) (suc n) ρ n

  pub acts : Run → Callee → List ℕ → ℕ → Out (List ℕ)
  acts stop f ρ n = yield ρ n
  acts (then c s) f ρ n = bind (act c f ρ n) λ ρ n. acts s f ρ n

-- The value that a closing sequence returns.
unfoldable pub finish : Closing → Callee → List ℕ → ℕ → Out ℕ
finish (first c r) f ρ n = bind (act c f ρ n) λ ρ n. finish r f ρ n
finish (give e) f ρ n = tick n λ n. value e f ρ n
finish (pick e c d) f ρ n = tick n λ n. bind (value e f ρ n) λ v n. choose v (λ n. finish c f ρ n) (λ n. finish d f ρ n) n

-- Parameters start as the inputs, locals as 0.
abbrev pub start : Procedure → List ℕ → List ℕ
start q vs = vs ++ replicate q.locals 0

-- A run of procedure p with `d` call depths left: a call with none left is too deep. A procedure that the book lacks never finishes.
unfoldable pub runs : Book → ℕ → ℕ → List ℕ → ℕ → Out ℕ
runs b zero p vs n = ended too_deep n
runs b (suc d) p vs n =
    elim (get_elem? b p) [ none ↦ ended too_deep n | some q ↦ finish q.body (λ p vs n. runs b d p vs n) (start q vs) n ]
