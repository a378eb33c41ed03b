-- Demand 3 over bytes: finished runs whose inputs are equal where the reported level, or the accepted set, shows them give equal values.
use mathlib.Core.Path.{◌≡◌, sym, ◌∙◌}
use mathlib.Core.Bool.{true}
use mathlib.Core.List.{List}
use mathlib.Core.Option.{some}
use Prim.Native.Nat.{ℕ, ◌<◌}
use lib.ListN.{get_elem?}
use borrow.Author.Tests.{ltb-true}
use Rattle.meaning.specs.Limits.{most_calls}
use Rattle.meaning.specs.Sets.{member}
use Rattle.meaning.specs.Tree.{Procedure, Book}
use Rattle.meaning.specs.Flow.{at}
use Rattle.meaning.specs.Promises.{SameValue, Demand3, Demand3Sets, Satisfies, CheckerExact}
use Rattle.meaning.proofs.Sets.{member_upto}
use Rattle.meaning.proofs.Levels.{reported_above}
use Rattle.meaning.proofs.Places.{result_place, result_limit}
use Rattle.meaning.proofs.Checker.{checker_exact}
use Rattle.meaning.proofs.Reporter.{reports}
use Rattle.meaning.proofs.Outcomes.{weak_done}
use Rattle.meaning.proofs.Calls.{calls_fit}
use Rattle.meaning.proofs.Interference.{answers}
use Rattle.meaning.proofs.Finished.{finishes}

pub demand3_sets : Demand3Sets
unfolding Demand3Sets SameValue CheckerExact
demand3_sets book σ p ok xs ys eq n m work work' hx hy =
    let a = (checker_exact book σ).0 ok in
    let x = finishes book a.1 p xs n work hx in
    let y = finishes book a.1 p ys m work' hy in
    weak_done (rw (x.ends, y.ends) at ((answers a.0 σ (calls_fit book a.1) a.2 most_calls).same p xs ys n m x.fits y.fits eq))

-- An accepted result set names parameters only.
pub result_below : (b : Book) (σ : List ℕ) → Satisfies b σ → (p : ℕ) (q : Procedure) → get_elem? b p ≡ some q → (i : ℕ) → member i (at σ p) ≡ true → i < q.parameters
result_below b σ ok p q e i m =
    ltb-true _ _ (sym (member_upto i q.parameters) ∙ (rw (result_limit b p e) at (ok.legal p (result_place b p e))).each i m)

pub demand3 : Demand3
unfolding Demand3 Demand3Sets CheckerExact
demand3 book table ls σ p l h xs ys eq =
    let r = reports book table ls σ p l h in
    let a = (checker_exact book σ).0 r.accepted in
    let same_tree : a.0 ≡ r.tree = cc (a.1, r.read_as) in
    let ok = rw same_tree at a.2 in
    demand3_sets book σ p r.accepted xs ys λ i m.
    let below = result_below r.tree σ ok p r.procedure r.found i m in
    eq i (rw r.sized below)
    (rw r.level at (reported_above table ls r.procedure.parameters (at σ p) i r.valid_table r.below below m))
