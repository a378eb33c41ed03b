-- What the walk of an expression asks and gives: asked at a place that holds a tree, and said of whatever tree the place holds.
use Rattle.std.specs.Prelude.{◌≡◌, List, ℕ, ◌+◌, ◌*◌, ◌≤◌, ◌<◌, length, get_or, take}
use Rattle.meaning.specs.Limits.{most_bytes, most_parameters, entry_bytes}
use Rattle.meaning.specs.Reading.{Scope, entry, entries, arities}
use Rattle.meaning.specs.Flow.{by_sets, flow}
use Rattle.book.proofs.Text.{ExprHere, ArgsHere}
use Rattle.flow.specs.Rows.{most_variables}
use Rattle.flow.specs.Copies.{most_places}
use Rattle.flow.specs.Packed.{set_in, next_in}

-- What a body with w variables may name.
abbrev pub within : List ℕ → ℕ → Scope
within b w = record { variables = w; arities = arities (entries b) }

abbrev pub procedure_count : List ℕ → ℕ
procedure_count b = length (arities (entries b))

-- What is read of a book's contents.
pub record Listed (b : List ℕ) : Type 0 where
  pub room : 1 + entry_bytes * procedure_count b ≤ length b
  pub arity : (p : ℕ) → p < procedure_count b → get_or (arities (entries b)) p 0 ≡ (entry b p).parameters
  pub few : (p : ℕ) → p < procedure_count b → (entry b p).parameters ≤ most_parameters
  pub short : length b ≤ most_bytes

-- And that the summary has a result for each procedure.
pub record Contents (b σ : List ℕ) : Type 0 where
  pub listed : Listed b
  pub results : procedure_count b ≤ length σ
  pub places : length σ ≡ most_places

pub record ExprPre (b σ : List ℕ) (at : ℕ) : Type 0 where
  pub contents : Contents b σ
  pub w : ℕ
  pub narrow : w ≤ most_variables
  pub here : ExprHere b (within b w) at

-- The same, where the code is known.
pub record CodedPre (code : ℕ) (b σ : List ℕ) (at : ℕ) : Type 0 where
  pub pre : ExprPre b σ at
  pub there : at < length b
  pub is : get_or b at 0 ≡ code

-- The expression at this place has the set `given`, and the next part begins at `next`.
pub record ExprPost (b σ sets : List ℕ) (at given next : ℕ) : Type 0 where
  pub gave : (w : ℕ) (x : ExprHere b (within b w) at) → given ≡ flow x.tree (by_sets σ w) (take w sets)
  pub ends : (w : ℕ) (x : ExprHere b (within b w) at) → next ≡ x.next
  pub on : at < next
  pub inside : next ≤ length b

-- The same of an answer in one number.
pub record ExprAnswer (b σ sets : List ℕ) (at r : ℕ) : Type 0 where
  pub is : ExprPost b σ sets at (set_in r) (next_in r)

pub record PastPre (b : List ℕ) (n at : ℕ) : Type 0 where
  pub listed : Listed b
  pub w : ℕ
  pub here : ArgsHere b (within b w) n at

-- The place after n expressions.
pub record PastPost (b : List ℕ) (n at r : ℕ) : Type 0 where
  pub ends : (w : ℕ) (x : ArgsHere b (within b w) n at) → r ≡ x.next
  pub on : at ≤ r
  pub inside : r ≤ length b
