-- The laws that the operations' code rests on.
use Rattle.std.proofs.Common.{◌≡◌, ℕ, zero, suc, ◌<◌, ◌/◌, Bool, true, false, arith, refl, ◌∙◌, ap}
use Rattle.std.specs.Prelude.{Option, Some, None, unwrap_or}
use Rattle.std.specs.Option.{SomeIff}
use Rattle.std.specs.Int.{from_bool}
use Rattle.meaning.specs.Tree.{Operation as Meant}
use Rattle.meaning.specs.Running.{yield, truth, quotient_of, operate}
use Rattle.runner.specs.Answer.{Yields}
use Rattle.runner.specs.Operating.{meant, gives, Named, OperatePost}
use Rattle.runner.specs.declared.operate.Operation.{Operation}
use Rattle.runner.specs.declared.operate.Operation.TheVariants.{Sum, Difference, Product, Quotient, Equal, Less, Smaller, Larger}
use Rattle.runner.proofs.Outcomes.{made, left_made}

-- A test's value, and a quotient that may not be there.
pub truth_of : (x : Bool) → from_bool x ≡ truth x
unfolding truth
truth_of true = refl
truth_of false = refl

pub quotient_found : (a b : ℕ) (x : Option ℕ) → SomeIff x (0 < b) (a / b) → unwrap_or x 0 ≡ quotient_of a b
unfolding quotient_of
quotient_found a zero (Some x) h = absurd (let k = h.0 in omega arith)
quotient_found a (suc b) (Some x) h = h.1
quotient_found a zero None h = refl
quotient_found a (suc b) None h = absurd (h (omega arith))

-- The value is what the document's operation gives.
same : (f : Operation) (a b n : ℕ) → yield (gives f a b) n ≡ operate (meant f) a b n
unfolding operate
same Sum a b n = refl
same Difference a b n = refl
same Product a b n = refl
same Quotient a b n = refl
same Equal a b n = refl
same Less a b n = refl
same Smaller a b n = refl
same Larger a b n = refl

-- The value packed with the steps left.
pub packed : {o a b l r : ℕ} {f : Operation} → Named o f → Yields (gives f a b) l r → OperatePost o a b l r
packed {o} {a} {b} {l} {r} {f} p y =
    record { gave = λ x e. made r y ∙ same f a b l ∙ ap (λ (g : Meant). operate g a b l) (p.is x e); fell = rw (left_made r y) (omega arith) }
