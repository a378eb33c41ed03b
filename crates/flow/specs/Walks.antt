-- What the walk's functions ask and give. Each is asked where a tree stands, and what it gives is said of whatever tree stands there.
use Rattle.std.specs.Prelude.{◌≡◌, List, ℕ, ◌+◌, ◌*◌, ◌≤◌, ◌<◌, length, get_or, take}
use Rattle.std.proofs.Math.Logic.{◌⊎◌}
use Rattle.meaning.specs.Tree.{loops, loops_in, loops_of}
use Rattle.meaning.specs.Flow.{Walk, by_sets, after, afters, needs, needs_in, ends as returned, arriving, grow}
use Rattle.book.proofs.Text.{CmdHere, RunHere, ClosingHere}
use Rattle.flow.specs.Rows.{most_variables, Wide, Held}
use Rattle.flow.specs.Copies.{most_places}
use Rattle.flow.specs.Exprs.{within, Contents}
use Rattle.flow.specs.Packed.{at_in, row_in}
use Rattle.flow.specs.declared.walk.Walk.{Walk as Lent}

-- What a walk goes by: the book, the summary as it stood, and how many variables the procedure has.
pub record Going : Type 0 where
  pub book : List ℕ
  pub old : List ℕ
  pub width : ℕ

abbrev pub going : List ℕ → List ℕ → ℕ → Going
going b σ w = record { book = b; old = σ; width = w }

-- The same of the struct that the functions are lent.
abbrev pub by : Lent → Going
by z = going z.book.now z.old.now z.w

-- Where a walk stands: its place in the book, the place of the next row, the new summary and the variables' sets.
pub record Standing : Type 0 where
  pub at : ℕ
  pub row : ℕ
  pub new : List ℕ
  pub sets : List ℕ

abbrev pub standing : ℕ → ℕ → List ℕ → List ℕ → Standing
standing i k new sets = record { at = i; row = k; new = new; sets = sets }

-- The walk of the rules, the sets in use, and the part that stands there.
abbrev pub rules : Going → Walk ℕ
rules G = by_sets G.old G.width

abbrev pub used : Going → Standing → List ℕ
used G S = take G.width S.sets

abbrev pub CmdAt : Going → Standing → Type 0
CmdAt G S = CmdHere G.book (within G.book G.width) S.row S.at

abbrev pub RunAt : Going → Standing → Type 0
RunAt G S = RunHere G.book (within G.book G.width) S.row S.at

abbrev pub ClosingAt : Going → Standing → Type 0
ClosingAt G S = ClosingHere G.book (within G.book G.width) S.row S.at

-- Each of the first w sets is added to the row at place k, whatever summary the walk goes by.
pub record Raised (new : List ℕ) (k w : ℕ) (sets new' : List ℕ) : Type 0 where
  pub added : (σ : List ℕ) → new' ≡ grow new (arriving (by_sets σ w) k (take w sets))
  pub long : length new' ≡ length new

-- A row of w sets at place k lies within what has so many places.
pub record RowFits (k w places : ℕ) : Type 0 where
  pub narrow : w ≤ most_variables
  pub fits : k + w ≤ places

pub record ArrivePre (σ new : List ℕ) (k w : ℕ) (sets : List ℕ) : Type 0 where
  pub held : RowFits k w (length σ)
  pub room : RowFits k w (length new)
  pub old_wide : length σ ≡ most_places
  pub new_wide : length new ≡ most_places
  pub wide : Wide sets

-- The sets are added to the row at place k, and those at hand are the old row's.
pub record Arrived (σ new : List ℕ) (k w : ℕ) (sets new' sets' : List ℕ) : Type 0 where
  pub raised : Raised new k w sets new'
  pub held : Held σ k w sets'

-- What every part of a body asks: the old summary and the new have one size, and the sets at hand are as many as any.
pub record Ready (G : Going) (S : Standing) : Type 0 where
  pub contents : Contents G.book G.old
  pub narrow : G.width ≤ most_variables
  pub wide : Wide S.sets
  pub sized : length S.new ≡ length G.old

pub record CmdPre (G : Going) (S : Standing) : Type 0 where
  pub ready : Ready G S
  pub here : CmdAt G S
  pub room : S.row + G.width * loops here.tree ≤ length G.old

pub record CmdCodedPre (code : ℕ) (G : Going) (S : Standing) : Type 0 where
  pub pre : CmdPre G S
  pub there : S.at < length G.book
  pub is : get_or G.book S.at 0 ≡ code

-- A loop, whose row lies within the summary.
pub record LoopPre (G : Going) (S : Standing) : Type 0 where
  pub coded : CmdCodedPre 0x03 G S
  pub fits : S.row + G.width ≤ length G.old

-- An if or a loop.
pub record NestedPre (G : Going) (S : Standing) : Type 0 where
  pub pre : CmdPre G S
  pub there : S.at < length G.book
  pub other : get_or G.book S.at 0 ≡ 0x01 → ⊥

-- What a command under the guard g adds to the new summary, the sets after it, where the next part begins and the place of the next row.
pub record CmdPost (G : Going) (g : ℕ) (S T : Standing) : Type 0 where
  pub wide : Wide T.sets
  pub added : (x : CmdAt G S) → T.new ≡ grow S.new (needs x.tree (rules G) (used G S) g)
  pub sets : (x : CmdAt G S) → used G T ≡ after x.tree (rules G) (used G S) g
  pub ends : (x : CmdAt G S) → T.at ≡ x.next
  pub rows : (x : CmdAt G S) → T.row ≡ S.row + G.width * loops x.tree
  pub long : length T.new ≡ length S.new
  pub on : S.at < T.at
  pub inside : T.at ≤ length G.book

-- The same of an answer in one number.
pub record CmdAnswer (G : Going) (g : ℕ) (S : Standing) (new' sets' : List ℕ) (r : ℕ) : Type 0 where
  pub is : CmdPost G g S (standing (at_in r) (row_in r) new' sets')

-- An assignment, in whatever body and over whatever new summary: it changes one set, and adds nothing.
pub record AssignPre (b σ : List ℕ) (at : ℕ) (sets : List ℕ) : Type 0 where
  pub new : List ℕ
  pub row : ℕ
  pub w : ℕ
  pub coded : CmdCodedPre 0x01 (going b σ w) (standing at row new sets)

pub record AssignPost (b σ : List ℕ) (at : ℕ) (sets : List ℕ) (g : ℕ) (sets' : List ℕ) (next : ℕ) : Type 0 where
  pub is : (new : List ℕ) (row w : ℕ) → CmdCodedPre 0x01 (going b σ w) (standing at row new sets) →
      CmdPost (going b σ w) g (standing at row new sets) (standing next row new sets')
  pub on : at < next

pub record RunPre (G : Going) (S : Standing) : Type 0 where
  pub ready : Ready G S
  pub here : RunAt G S
  pub room : S.row + G.width * loops_in here.tree ≤ length G.old

pub record RunPost (G : Going) (g : ℕ) (S T : Standing) : Type 0 where
  pub wide : Wide T.sets
  pub added : (x : RunAt G S) → T.new ≡ grow S.new (needs_in x.tree (rules G) (used G S) g)
  pub sets : (x : RunAt G S) → used G T ≡ afters x.tree (rules G) (used G S) g
  pub ends : (x : RunAt G S) → T.at ≡ x.next
  pub rows : (x : RunAt G S) → T.row ≡ S.row + G.width * loops_in x.tree
  pub long : length T.new ≡ length S.new
  pub on : S.at < T.at
  pub inside : T.at ≤ length G.book

pub record RunAnswer (G : Going) (g : ℕ) (S : Standing) (new' sets' : List ℕ) (r : ℕ) : Type 0 where
  pub is : RunPost G g S (standing (at_in r) (row_in r) new' sets')

-- A closing sequence of procedure p.
pub record ClosingPre (G : Going) (p : ℕ) (S : Standing) : Type 0 where
  pub ready : Ready G S
  pub here : ClosingAt G S
  pub room : S.row + G.width * loops_of here.tree ≤ length G.old
  pub result : p < length G.old

pub record ClosingCodedPre (code : ℕ) (G : Going) (p : ℕ) (S : Standing) : Type 0 where
  pub pre : ClosingPre G p S
  pub there : S.at < length G.book
  pub is : get_or G.book S.at 0 ≡ code

-- The sets at hand are of no use behind it.
pub record ClosingPost (G : Going) (p g : ℕ) (S : Standing) (new' : List ℕ) (next row' : ℕ) : Type 0 where
  pub added : (x : ClosingAt G S) → new' ≡ grow S.new (returned x.tree (rules G) p (used G S) g)
  pub ends : (x : ClosingAt G S) → next ≡ x.next
  pub rows : (x : ClosingAt G S) → row' ≡ S.row + G.width * loops_of x.tree
  pub long : length new' ≡ length S.new
  pub on : S.at < next
  pub inside : next ≤ length G.book

pub record ClosingAnswer (G : Going) (p g : ℕ) (S : Standing) (new' : List ℕ) (r : ℕ) : Type 0 where
  pub is : ClosingPost G p g S new' (at_in r) (row_in r)

-- The commands that are left do to the sets at hand and to the summary so far what the whole run does from the start.
pub record RunLeft (G : Going) (g : ℕ) (S T : Standing) (x : RunAt G S) : Type 0 where
  pub here : RunAt G T
  pub added : grow T.new (needs_in here.tree (rules G) (used G T) g) ≡ grow S.new (needs_in x.tree (rules G) (used G S) g)
  pub sets : afters here.tree (rules G) (used G T) g ≡ afters x.tree (rules G) (used G S) g
  pub ends : here.next ≡ x.next
  pub rows : T.row + G.width * loops_in here.tree ≡ S.row + G.width * loops_in x.tree

-- From S the walk of a run has come to T.
pub record Running (G : Going) (g : ℕ) (S T : Standing) : Type 0 where
  pub pre : RunPre G S
  pub there : T.at < length G.book
  pub row : T.row ≤ length G.old
  pub wide : Wide T.sets
  pub long : length T.new ≡ length S.new
  pub on : S.at ≤ T.at
  pub left : (x : RunAt G S) → RunLeft G g S T x

-- What is left of a closing sequence does to the sets at hand and to the summary so far what the whole does from the start.
pub record ClosingLeft (G : Going) (p g : ℕ) (S T : Standing) (x : ClosingAt G S) : Type 0 where
  pub here : ClosingAt G T
  pub added : grow T.new (returned here.tree (rules G) p (used G T) g) ≡ grow S.new (returned x.tree (rules G) p (used G S) g)
  pub ends : here.next ≡ x.next
  pub rows : T.row + G.width * loops_of here.tree ≡ S.row + G.width * loops_of x.tree

-- From S the walk of a closing sequence has come to T.
pub record Nearing (G : Going) (p g : ℕ) (S T : Standing) : Type 0 where
  pub pre : ClosingPre G p S
  pub there : T.at < length G.book
  pub wide : Wide T.sets
  pub long : length T.new ≡ length S.new
  pub on : S.at ≤ T.at
  pub left : (x : ClosingAt G S) → ClosingLeft G p g S T x

-- Commands stand there: those of a run, or those of a closing sequence before its closing command.
pub record CommandsPre (G : Going) (S : Standing) : Type 0 where
  pub p : ℕ
  pub is : RunPre G S ⊎ ClosingPre G p S

-- The walk has come from S to T, where no command stands.
pub record CommandsPost (G : Going) (g : ℕ) (S T : Standing) : Type 0 where
  pub run : RunPre G S → Running G g S T
  pub closing : (p : ℕ) → ClosingPre G p S → Nearing G p g S T
  pub ended : (get_or G.book T.at 0 ≡ 0x00) ⊎ (0x03 < get_or G.book T.at 0)

pub record CommandsAnswer (G : Going) (g : ℕ) (S : Standing) (new' sets' : List ℕ) (r : ℕ) : Type 0 where
  pub is : CommandsPost G g S (standing (at_in r) (row_in r) new' sets')
