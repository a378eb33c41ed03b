-- What the test asks and gives that no set names a parameter its procedure lacks.
use Rattle.std.specs.Prelude.{◌≡◌, Bool, List, ℕ}
use Rattle.meaning.specs.Flow.{legal}
use Rattle.book.specs.Here.{BookHere}
use Rattle.flow.specs.Rounds.{Begins}

pub record LegalPre (b starts : List ℕ) : Type 0 where
  pub book : BookHere b
  pub begins : Begins b starts

pub record LegalPost (b σ : List ℕ) (r : Bool) : Type 0 where
  pub is : (g : BookHere b) → r ≡ legal g.book σ
