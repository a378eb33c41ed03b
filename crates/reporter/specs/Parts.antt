-- What the parts of the reporter are held to.
use Rattle.std.specs.Prelude.{Bool, ◌&&◌, List, ℕ, eqb, ltb, length, get_or}
use Rattle.meaning.specs.Lists.{every}
use Rattle.meaning.specs.Reading.{entry}
use Rattle.meaning.specs.Levels.{levels}

-- Each of the levels `ls` is below n.
unfoldable pub all_below : List ℕ → List ℕ → Bool
all_below t ls = every (length ls) λ i. ltb (get_or ls i 0) (levels t)

-- There is one level for each parameter of procedure p, each below n.
abbrev pub fitting_here : List ℕ → List ℕ → ℕ → List ℕ → Bool
fitting_here book t p ls = eqb (length ls) (entry book p).parameters && all_below t ls
