-- The checker's test and the finder's rounds: what they ask and give.
use Rattle.std.specs.Prelude.{◌≡◌, Bool, List, ℕ, ◌<◌, length, replicate}
use Rattle.meaning.specs.Flow.{at, satisfies, demands, grow, size, find}
use Rattle.book.specs.Here.{BookHere, Sized}
use Rattle.flow.specs.Copies.{most_places, Holds}
use Rattle.flow.specs.Rounds.{Begins}

-- The bytes are readable, and the summary has the size.
pub record SettlePre (b σ : List ℕ) : Type 0 where
  pub book : BookHere b
  pub sized : length σ ≡ size book.book

pub record SatisfiedPost (b σ : List ℕ) (r : Bool) : Type 0 where
  pub is : (g : BookHere b) → r ≡ satisfies g.book σ

pub record SettlePost (b σ : List ℕ) (n : ℕ) : Type 0 where
  pub summary_is : (g : BookHere b) → σ ≡ (find g.book).summary
  pub rounds_are : (g : BookHere b) → n ≡ (find g.book).rounds

-- After the first round, from all sets empty, which has added something to a summary of n sets.
pub record LaterPre (b new starts : List ℕ) (n : ℕ) : Type 0 where
  pub sized : Sized b n
  pub begins : Begins b starts
  pub wide : length new ≡ most_places
  pub first : (g : BookHere b) → new ≡ grow (replicate most_places 0) (demands g.book (replicate most_places 0))
  pub grown : ((k : ℕ) → k < n → at (replicate most_places 0) k ≡ at new k) → ⊥

-- The places hold the least summary, after so many rounds in all.
pub record LaterPost (b new : List ℕ) (n : ℕ) : Type 0 where
  pub found : (g : BookHere b) → Holds new (find g.book).summary
  pub rounds_are : (g : BookHere b) → n ≡ (find g.book).rounds
