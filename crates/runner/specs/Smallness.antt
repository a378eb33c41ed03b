-- Small expressions: a leaf, or an operation on two leaves.
use Rattle.std.specs.Prelude.{◌≡◌, ℕ, suc, ◌<◌, ◌≤◌, List, length, slice_index_or}
use Rattle.book.proofs.Text.{ExprHere}
use Rattle.runner.specs.Opened.{Opened, in_scope}
use Rattle.runner.specs.Answer.{Yields}
use Rattle.runner.specs.Parts.{EvalPost}
use Rattle.runner.specs.Skipping.{SomeExpr}
use Rattle.runner.specs.Jumping.{JumpPre}

-- An expression of any procedure, over these cells.
pub record SomewherePre (b : List ℕ) (at : ℕ) (w : List ℕ) : Type 0 where
  pub book : Opened b
  pub variables : ℕ
  pub here : ExprHere b (in_scope b variables) at
  pub room : variables ≤ length w
  pub there : at < length b
  pub bytes : length b ≤ 32768

pub record LeafPre (b : List ℕ) (at : ℕ) (w : List ℕ) : Type 0 where
  pub start : SomewherePre b at w
  pub leaf : slice_index_or b at 0 < 0x12

pub record SmallPre (b : List ℕ) (at l : ℕ) (w : List ℕ) : Type 0 where
  pub start : SomewherePre b at w
  pub few : l ≤ 1000000

pub record BothPre (b : List ℕ) (at l : ℕ) (w : List ℕ) : Type 0 where
  pub start : SmallPre b at l w
  pub code : slice_index_or b at 0 ≡ 0x12

-- Whoever asks, the answer is right, and nothing has changed.
pub record Given (b : List ℕ) (at l : ℕ) (w : List ℕ) (r : ℕ) : Type 0 where
  pub ran : (f : ℕ) (j : List ℕ) → JumpPre (SomeExpr b) b at j → EvalPost b at f l w w j r

-- The value for one step.
pub record LeafPost (b : List ℕ) (at : ℕ) (w : List ℕ) (v : ℕ) : Type 0 where
  pub gave : (l r : ℕ) → Yields v l r → Given b at (suc l) w r

-- The answer, where it has not ended.
pub record SmallPost (b : List ℕ) (at l : ℕ) (w : List ℕ) (r : ℕ) : Type 0 where
  pub gave : r < 0x2000000000000000 → Given b at l w r
