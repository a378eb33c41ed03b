-- The memo of jumps: at each place 0, or where the part there ends. A code tells which part it is.
use Rattle.std.specs.Prelude.{◌≡◌, ℕ, ◌≤◌, List, length, ◌≢◌, slice_index, slice_index_or, slice_set}
use Rattle.meaning.specs.Reading.{Scope}
use Rattle.book.proofs.Text.{CmdHere, ClosingHere}
use Rattle.book.proofs.Views.{branch_view, pick_view}
use Rattle.runner.specs.Opened.{Opened, in_scope}
use Rattle.runner.specs.Skipping.{SomeExpr, SomeRun}

-- A closing if from its code to its second sequence.
pub record SomePick (b : List ℕ) (v : Scope) (at next : ℕ) : Type 0 where
  pub row : ℕ
  pub here : ClosingHere b v row at
  pub code : slice_index_or b at 0 ≡ 0x05
  pub ends : next ≡ (pick_view here code).yes.next

-- The parts whose ends are kept.
pub data Jump (b : List ℕ) (v : Scope) (at next : ℕ) : Type 0 where
  expr : SomeExpr b v at next → Jump b v at next
  run : SomeRun b v at next → Jump b v at next
  pick : SomePick b v at next → Jump b v at next

-- Whatever part is here ends at r.
pub record EndsAt (b : List ℕ) (at r : ℕ) : Type 0 where
  pub past : (n next : ℕ) → Jump b (in_scope b n) at next → r ≡ next

-- Every jump is 0 or right.
pub record Jumps (b j : List ℕ) : Type 0 where
  pub long : length b ≤ length j
  pub right : (at : ℕ) → (slice_index j at ≢ 0) → EndsAt b at (slice_index j at)

-- A part of this kind is here, in a readable book.
pub record JumpPre (P : Scope → ℕ → ℕ → Type 0) (b : List ℕ) (at : ℕ) (j : List ℕ) : Type 0 where
  pub book : Opened b
  pub variables : ℕ
  pub next : ℕ
  pub part : P (in_scope b variables) at next
  pub jumps : Jumps b j

pub record JumpPost (b : List ℕ) (at : ℕ) (j : List ℕ) (r : ℕ) : Type 0 where
  pub ends : EndsAt b at r
  pub jumps : Jumps b j

-- A memo's entry that is there is the answer; else the answer is one of Q, and stands there afterwards.
pub record Noted (Q : ℕ → Type 0) (j : List ℕ) (at : ℕ) (j' : List ℕ) (r : ℕ) : Type 0 where
  pub known : (slice_index j at ≢ 0) → (r ≡ slice_index j at) × (j' ≡ j)
  pub found : slice_index j at ≡ 0 → Q r × (j' ≡ slice_set j at r)

-- The command here ends at r.
pub record CmdEndPost (b : List ℕ) (at : ℕ) (j : List ℕ) (r : ℕ) : Type 0 where
  pub ends : (n row : ℕ) (x : CmdHere b (in_scope b n) row at) → r ≡ x.next
  pub jumps : Jumps b j

-- An ordinary if.
pub record SomeIf (b : List ℕ) (v : Scope) (at next : ℕ) : Type 0 where
  pub row : ℕ
  pub here : CmdHere b v row at
  pub code : slice_index_or b at 0 ≡ 0x02
  pub ends : next ≡ here.next

-- Of its two runs, the one that a test's value v takes begins at r.
pub record TakenPost (b : List ℕ) (at : ℕ) (j : List ℕ) (v r : ℕ) : Type 0 where
  pub yes : (v ≢ 0) → (n row : ℕ) (x : CmdHere b (in_scope b n) row at) (k : slice_index_or b at 0 ≡ 0x02) → r ≡ (branch_view x k).test.next
  pub no : v ≡ 0 → (n row : ℕ) (x : CmdHere b (in_scope b n) row at) (k : slice_index_or b at 0 ≡ 0x02) → r ≡ (branch_view x k).yes.next
  pub jumps : Jumps b j

-- The same for the two sequences of a closing if.
pub record PickedPost (b : List ℕ) (at : ℕ) (j : List ℕ) (v r : ℕ) : Type 0 where
  pub yes : (v ≢ 0) → (n row : ℕ) (x : ClosingHere b (in_scope b n) row at) (k : slice_index_or b at 0 ≡ 0x05) → r ≡ (pick_view x k).test.next
  pub no : v ≡ 0 → (n row : ℕ) (x : ClosingHere b (in_scope b n) row at) (k : slice_index_or b at 0 ≡ 0x05) → r ≡ (pick_view x k).yes.next
  pub jumps : Jumps b j
