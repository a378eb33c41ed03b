-- What each member of the run's cycle asks, and what it is held to. `b` are the book's bytes, `j` the memo of jumps, `f` the frame
-- of the call that runs, `l` the steps left, `w` the work cells, of which the first are its variables; a dash marks what is
-- left behind. The end of what was carried out may be asked of the memo that is left.
use Rattle.std.specs.Prelude.{◌≡◌, ℕ, suc, ◌+◌, ◌*◌, ◌<◌, ◌≤◌, List, length, take, slice_index, slice_index_or}
use Rattle.meaning.specs.Tree.{Run, stop, then, loops}
use Rattle.meaning.specs.Reading.{Scope, procedures, entry}
use Rattle.meaning.specs.Running.{value, values, act, acts, finish, runs}
use Rattle.book.proofs.Text.{ExprHere, ArgsHere, CmdHere, ClosingHere, CmdAt, ThenAt}
use Rattle.runner.specs.Outcome.{leaves, outcome_of}
use Rattle.runner.specs.Opened.{Opened, book_of, in_scope}
use Rattle.runner.specs.Answer.{answer_of}
use Rattle.runner.specs.Frame.{cells, depths}
use Rattle.runner.specs.Skipping.{SomeExpr, SomeCmd}
use Rattle.runner.specs.Jumping.{Jumps, JumpPre}

-- What every member asks. A procedure has at most 16 variables, so the room is enough for every call below; the steps are so
-- few that an answer holds them.
pub record Ready (b j : List ℕ) (f l : ℕ) (w : List ℕ) : Type 0 where
  pub book : Opened b
  pub bytes : length b ≤ 32768
  pub room : cells f + 16 * depths f ≤ length w
  pub shallow : depths f < 64
  pub few : l ≤ 1000000
  pub jumps : Jumps b j

pub record EvalPre (b j : List ℕ) (at f l : ℕ) (w : List ℕ) : Type 0 where
  pub ready : Ready b j f l w
  pub here : ExprHere b (in_scope b (cells f)) at
  pub there : at < length b

-- The same, where the code is k.
pub record FormPre (k : ℕ) (b j : List ℕ) (at f l : ℕ) (w : List ℕ) : Type 0 where
  pub start : EvalPre b j at f l w
  pub code : slice_index_or b at 0 ≡ k

-- An operation whose left operand came to the answer a.
pub record RightPre (b j : List ℕ) (at f a : ℕ) (w : List ℕ) : Type 0 where
  pub form : FormPre 0x12 b j at f (answer_of a).left w
  pub goes : a < 0x2000000000000000
  pub jump : JumpPre (SomeExpr b) b (at + 2) j

-- `vs` is where the values of `count` arguments go.
pub record ArgsPre (b j : List ℕ) (at count f l : ℕ) (w vs : List ℕ) : Type 0 where
  pub ready : Ready b j f l w
  pub here : ArgsHere b (in_scope b (cells f)) count at
  pub some : count ≤ 8
  pub eight : length vs ≡ 8
  pub there : at ≤ length b

pub record EnterPre (b j : List ℕ) (p : ℕ) (given : List ℕ) (f l : ℕ) (w : List ℕ) : Type 0 where
  pub book : Opened b
  pub bytes : length b ≤ 32768
  pub known : p < procedures b
  pub room : cells f + 16 * depths f ≤ length w
  pub shallow : depths f ≤ 64
  pub few : l ≤ 1000000
  pub jumps : Jumps b j
  pub eight : length given ≡ 8

-- The same with d call depths left below it, in cells of its own.
pub record BodyPre (b j : List ℕ) (p : ℕ) (given : List ℕ) (d l : ℕ) (w : List ℕ) : Type 0 where
  pub book : Opened b
  pub bytes : length b ≤ 32768
  pub known : p < procedures b
  pub room : 16 + 16 * d ≤ length w
  pub shallow : d < 64
  pub few : l ≤ 1000000
  pub jumps : Jumps b j
  pub eight : length given ≡ 8

pub record CmdPre (b j : List ℕ) (at f l : ℕ) (w : List ℕ) : Type 0 where
  pub ready : Ready b j f l w
  pub row : ℕ
  pub here : CmdHere b (in_scope b (cells f)) row at
  pub there : at < length b

pub record CmdFormPre (k : ℕ) (b j : List ℕ) (at f l : ℕ) (w : List ℕ) : Type 0 where
  pub start : CmdPre b j at f l w
  pub code : slice_index_or b at 0 ≡ k

-- Commands as far as they go: `next` is the place of the first code that is none of theirs.
pub record NoCmd (b : List ℕ) (at next : ℕ) : Type 0 where
  pub there : at < length b
  pub other : 1 ≤ slice_index b at → slice_index b at ≤ 3 → ⊥
  pub ends : next ≡ at

unfoldable pub CmdsAt : Run → List ℕ → Scope → ℕ → ℕ → ℕ → Type 0
CmdsAt stop b v r at next = NoCmd b at next
CmdsAt (then c s) b v r at next =
    ThenAt (λ i j. CmdAt c b v r i j) (λ i j. CmdsAt s b v (r + v.variables * loops c) i j) at next

pub record CmdsHere (b : List ℕ) (v : Scope) (r at : ℕ) : Type 0 where
  pub tree : Run
  pub next : ℕ
  pub is : CmdsAt tree b v r at next

pub record CmdsPre (b j : List ℕ) (at f l : ℕ) (w : List ℕ) : Type 0 where
  pub ready : Ready b j f l w
  pub row : ℕ
  pub here : CmdsHere b (in_scope b (cells f)) row at
  pub there : at < length b

pub record ClosingPre (b j : List ℕ) (at f l : ℕ) (w : List ℕ) : Type 0 where
  pub ready : Ready b j f l w
  pub row : ℕ
  pub here : ClosingHere b (in_scope b (cells f)) row at
  pub there : at < length b

pub record EvalPost (b : List ℕ) (at f l : ℕ) (w w' j' : List ℕ) (r : ℕ) : Type 0 where
  pub ran : (g : Opened b) (x : ExprHere b (in_scope b (cells f)) at) →
      outcome_of r ≡ value x.tree (runs (book_of g) (depths f)) (take (cells f) w) l
  pub kept : take (cells f) w' ≡ take (cells f) w
  pub long : length w' ≡ length w
  pub fell : (answer_of r).left ≤ l
  pub jumps : Jumps b j'
  pub jump : JumpPre (SomeExpr b) b at j'

-- Whatever the left operand began with, the operation comes to this.
pub record RightPost (b : List ℕ) (at f a : ℕ) (w w' j' : List ℕ) (r : ℕ) : Type 0 where
  pub whole : (l : ℕ) (w₀ j₀ : List ℕ) → EvalPost b (at + 2) f l w₀ w j₀ a → EvalPost b at f (suc l) w₀ w' j' r
  pub fell : (answer_of r).left ≤ (answer_of a).left

pub record ArgsPost (b : List ℕ) (at count f l : ℕ) (w w' j' vs' : List ℕ) (r : ℕ) : Type 0 where
  pub ran : (g : Opened b) (x : ArgsHere b (in_scope b (cells f)) count at) →
      leaves r (take count vs') ≡ values x.tree (runs (book_of g) (depths f)) (take (cells f) w) l
  pub kept : take (cells f) w' ≡ take (cells f) w
  pub long : length w' ≡ length w
  pub fell : (answer_of r).left ≤ l
  pub jumps : Jumps b j'
  pub eight : length vs' ≡ 8

pub record EnterPost (b : List ℕ) (p : ℕ) (given : List ℕ) (f l : ℕ) (w w' j' : List ℕ) (r : ℕ) : Type 0 where
  pub ran : (g : Opened b) → outcome_of r ≡ runs (book_of g) (depths f) p (take (entry b p).parameters given) l
  pub kept : take (cells f) w' ≡ take (cells f) w
  pub long : length w' ≡ length w
  pub fell : (answer_of r).left ≤ l
  pub jumps : Jumps b j'

pub record BodyPost (b : List ℕ) (p : ℕ) (given : List ℕ) (d l : ℕ) (j' : List ℕ) (r : ℕ) : Type 0 where
  pub ran : (g : Opened b) → outcome_of r ≡ runs (book_of g) (suc d) p (take (entry b p).parameters given) l
  pub fell : (answer_of r).left ≤ l
  pub jumps : Jumps b j'

-- For a command: where the run goes on, the cells are the variables afterwards.
pub record CmdPost (b : List ℕ) (at f l : ℕ) (w w' j' : List ℕ) (r : ℕ) : Type 0 where
  pub ran : (g : Opened b) (row : ℕ) (x : CmdHere b (in_scope b (cells f)) row at) →
      leaves r (take (cells f) w') ≡ act x.tree (runs (book_of g) (depths f)) (take (cells f) w) l
  pub long : length w' ≡ length w
  pub fell : (answer_of r).left ≤ l
  pub jumps : Jumps b j'
  pub jump : JumpPre (SomeCmd b) b at j'

-- For several, the value is the place where they end.
pub record CmdsPost (b : List ℕ) (at f l : ℕ) (w w' j' : List ℕ) (r : ℕ) : Type 0 where
  pub ran : (g : Opened b) (row : ℕ) (x : CmdsHere b (in_scope b (cells f)) row at) →
      leaves r (take (cells f) w') ≡ acts x.tree (runs (book_of g) (depths f)) (take (cells f) w) l
  pub long : length w' ≡ length w
  pub stands : (row : ℕ) (x : CmdsHere b (in_scope b (cells f)) row at) → (answer_of r).ending ≡ 0 → (answer_of r).value ≡ x.next
  pub fell : (answer_of r).left ≤ l
  pub jumps : Jumps b j'

pub record ClosingPost (b : List ℕ) (at f l : ℕ) (w j' : List ℕ) (r : ℕ) : Type 0 where
  pub ran : (g : Opened b) (row : ℕ) (x : ClosingHere b (in_scope b (cells f)) row at) →
      outcome_of r ≡ finish x.tree (runs (book_of g) (depths f)) (take (cells f) w) l
  pub fell : (answer_of r).left ≤ l
  pub jumps : Jumps b j'
