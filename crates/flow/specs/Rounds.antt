-- What a round asks and gives, for whatever book the bytes are readable as. The summaries are as long as any.
use Rattle.std.specs.Prelude.{◌≡◌, List, ℕ, ◌+◌, ◌-◌, ◌*◌, ◌≤◌, ◌<◌, length, get_or, take, drop}
use Rattle.std.proofs.Math.Option.{some}
use Rattle.std.proofs.Math.ListN.{get_elem?}
use Rattle.meaning.specs.Limits.{most_procedures, most_parameters, most_locals, entry_bytes}
use Rattle.meaning.specs.Sets.{empty}
use Rattle.meaning.specs.Tree.{Procedure, variables, loops_of}
use Rattle.meaning.specs.Reading.{entry, procedures}
use Rattle.meaning.specs.Flow.{by_sets, start_sets, ends as returned, demands, grow}
use Rattle.meaning.proofs.Places.{row_of}
use Rattle.book.specs.Here.{BookHere}
use Rattle.flow.specs.Copies.{most_places}

-- The bytes are readable, and both summaries have room for any.
pub record RoundPre (b σ new : List ℕ) : Type 0 where
  pub book : BookHere b
  pub old_wide : length σ ≡ most_places
  pub new_wide : length new ≡ most_places

-- Where the rows of each procedure begin, and where the last end.
pub record Begins (b starts : List ℕ) : Type 0 where
  pub at : (g : BookHere b) (p : ℕ) → p ≤ procedures b → get_or starts p 0 ≡ row_of (length g.book) g.book p

-- The rows of procedure p lie within the places.
pub record Rowed (starts : List ℕ) (p : ℕ) : Type 0 where
  pub known : p < most_procedures
  pub on : get_or starts p 0 ≤ get_or starts (p + 1) 0
  pub fit : get_or starts (p + 1) 0 ≤ most_places

-- The rows of procedure p in a summary.
abbrev pub rows_of : List ℕ → List ℕ → ℕ → List ℕ
rows_of σ starts p = take (get_or starts (p + 1) 0 - get_or starts p 0) (drop (get_or starts p 0) σ)

-- A round adds all demands, and tells where the rows begin.
pub record RoundPost (b σ new new' starts : List ℕ) : Type 0 where
  pub added : (g : BookHere b) → new' ≡ grow new (demands g.book σ)
  pub wide : length new' ≡ most_places
  pub begins : Begins b starts

-- What is read of the entry of procedure p.
pub record EntryHere (b : List ℕ) (p : ℕ) : Type 0 where
  pub there : 1 + entry_bytes * p + 5 < length b
  pub few_parameters : (entry b p).parameters ≤ most_parameters
  pub few_locals : (entry b p).locals ≤ most_locals

pub record BodyPre (b σ new : List ℕ) (p row : ℕ) : Type 0 where
  pub round : RoundPre b σ new
  pub known : p < procedures b
  pub entry : EntryHere b p
  pub place : row ≡ row_of (length round.book.book) round.book.book p

-- What the body of procedure p demands is added, and the next rows begin behind its own.
pub record BodyPost (b σ new : List ℕ) (p row : ℕ) (new' : List ℕ) (row' : ℕ) : Type 0 where
  pub added : (g : BookHere b) (q : Procedure) → get_elem? g.book p ≡ some q → row ≡ row_of (length g.book) g.book p →
      new' ≡ grow new (returned q.body (by_sets σ (variables q)) p (start_sets q) empty)
  pub rows : (g : BookHere b) (q : Procedure) → get_elem? g.book p ≡ some q → row ≡ row_of (length g.book) g.book p →
      row' ≡ row + variables q * loops_of q.body
  pub wide : length new' ≡ most_places
