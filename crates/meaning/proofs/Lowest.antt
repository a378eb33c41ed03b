-- The level reported with the finder's summary is the lowest that any accepted summary gives.
use native.Mathlib.Omega.{arith}
use lib.ListN.{length}
use Rattle.meaning.specs.Promises.{written, FinderLeast, FinderLowest}
use Rattle.meaning.specs.Flow.{at}
use Rattle.meaning.proofs.Finder.{finder_least}
use Rattle.meaning.proofs.Levels.{reported_mono}
use Rattle.meaning.proofs.Reporter.{reports}

pub finder_lowest : FinderLowest
unfolding FinderLeast FinderLowest
finder_lowest book buffer table ls τ p l m finds e k =
    let x = reports book table ls (written book buffer) p l e in
    let y = reports book table ls τ p m k in
    rw (← x.level, ← y.level, ← x.sized, ← y.sized)
    (reported_mono table ls (length ls) (at (written book buffer) p) (at τ p) x.valid_table
    (λ j h. x.below j (omega arith))
    ((finder_least book buffer finds).1 τ y.accepted p))
