-- Rounds that walk only some bodies: what each function asks and gives. A set of procedures is a number, bit p for procedure p.
use Rattle.std.specs.Prelude.{◌≡◌, Bool, true, false, List, ℕ, suc, ◌+◌, ◌≤◌, ◌<◌, length, get_or}
use Rattle.meaning.specs.Limits.{most_procedures}
use Rattle.meaning.specs.Sets.{member}
use Rattle.meaning.specs.Reading.{procedures}
use Rattle.meaning.specs.Flow.{at, grow}
use Rattle.meaning.proofs.Places.{row_of}
use Rattle.meaning.proofs.Skipping.{asked, Woken, Among}
use Rattle.meaning.proofs.Written.{Scanned}
use Rattle.book.specs.Here.{BookHere}
use Rattle.flow.specs.Copies.{most_places}
use Rattle.flow.specs.Rounds.{RoundPre, Begins}

-- Whether procedure p is walked.
abbrev pub walked : List Bool → ℕ → Bool
walked walks p = get_or walks p false

-- Procedure p may call r.
abbrev pub named : List ℕ → ℕ → ℕ → Bool
named called p r = member r (get_or called p 0)

-- A body's bytes: each number behind a byte 13 is in the set.
pub record BehindPost (body : List ℕ) (r : ℕ) : Type 0 where
  pub behind : (k : ℕ) → k + 1 < length body → get_or body k 0 ≡ 0x13 → get_or body (k + 1) 0 < most_procedures → member (get_or body (k + 1) 0) r ≡ true

pub record ScanPost (b called : List ℕ) : Type 0 where
  pub scanned : Scanned b (λ p r. named called p r ≡ true)

pub record PassPre (b σ new starts : List ℕ) : Type 0 where
  pub round : RoundPre b σ new
  pub begins : Begins b starts

-- What the procedures that are walked demand is added.
pub record PassPost (b σ new : List ℕ) (walks : List Bool) (new' : List ℕ) : Type 0 where
  pub added : (g : BookHere b) → new' ≡ grow new (asked (walked walks) g.book σ)
  pub wide : length new' ≡ most_places

-- The rows of the procedures that were not walked are as they were.
pub record Kept (b σ τ : List ℕ) (walks : List Bool) : Type 0 where
  pub rows : (g : BookHere b) (p : ℕ) → p < procedures b → walked walks p ≡ false →
      (k : ℕ) → row_of (length g.book) g.book p ≤ k → k < row_of (length g.book) g.book (suc p) → at σ k ≡ at τ k

pub record WakePre (b σ τ starts : List ℕ) (walks : List Bool) : Type 0 where
  pub round : RoundPre b σ τ
  pub begins : Begins b starts
  pub kept : Kept b σ τ walks

-- Every procedure is walked next that reads a place where the summaries differ.
pub record WakePost (b σ τ called : List ℕ) (walks : List Bool) : Type 0 where
  pub woken : (g : BookHere b) → Woken g.book (Among g.book (named called)) σ τ (walked walks)

-- The summaries agree at the results that are in the set.
pub record QuietPost (σ τ : List ℕ) (r : ℕ) : Type 0 where
  pub quiet : (p : ℕ) → member p r ≡ true → at σ p ≡ at τ p
