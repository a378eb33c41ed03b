-- What an operation is held to.
use Rattle.std.specs.Prelude.{◌≡◌, ℕ, ◌≤◌, ◌+◌, ◌-◌, ◌*◌, ◌%◌, ◌^◌, min, max, ◌==◌, nat_lt}
use Rattle.std.proofs.Math.Option.{some}
use Rattle.std.proofs.Math.ListN.{get_elem?}
use Rattle.meaning.specs.Tree.{Operation as Meant, sum, difference, product, quotient, equal, less, smaller, larger}
use Rattle.meaning.specs.Reading.{operations}
use Rattle.meaning.specs.Running.{operate, truth, quotient_of}
use Rattle.runner.specs.Answer.{answer_of}
use Rattle.runner.specs.Outcome.{outcome_of}
use Rattle.runner.specs.declared.operate.Operation.{Operation}
use Rattle.runner.specs.declared.operate.Operation.TheVariants.{Sum, Difference, Product, Quotient, Equal, Less, Smaller, Larger}

-- The document's operation.
abbrev pub meant : Operation → Meant
meant Sum = sum
meant Difference = difference
meant Product = product
meant Quotient = quotient
meant Equal = equal
meant Less = less
meant Smaller = smaller
meant Larger = larger

-- The value that it gives.
abbrev pub gives : Operation → ℕ → ℕ → ℕ
gives Sum a b = (a + b) % 2 ^ 32
gives Difference a b = (a + (2 ^ 32 - b)) % 2 ^ 32
gives Product a b = (a * b) % 2 ^ 32
gives Quotient a b = quotient_of a b
gives Equal a b = truth (a == b)
gives Less a b = truth (nat_lt a b)
gives Smaller a b = min a b
gives Larger a b = max a b

-- The operation that has this number, where there is one.
pub record Named (o : ℕ) (f : Operation) : Type 0 where
  pub is : (x : Meant) → get_elem? operations o ≡ some x → meant f ≡ x

-- The answer is what the operation of this number comes to.
pub record OperatePost (o a b l r : ℕ) : Type 0 where
  pub gave : (x : Meant) → get_elem? operations o ≡ some x → outcome_of r ≡ operate x a b l
  pub fell : (answer_of r).left ≤ l
