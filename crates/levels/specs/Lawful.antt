-- The laws of a level table at given levels, and those that pairs and triples of levels keep.
use Rattle.std.specs.Prelude.{Bool, ◌&&◌, List, ℕ, eqb, ltb}
use Rattle.meaning.specs.Levels.{levels, join, closed, idempotent, commutative, associative}

-- The entry of a and b is a level.
abbrev pub stays : List ℕ → ℕ → ℕ → Bool
stays t a b = ltb (join t a b) (levels t)

-- Level a joined with itself is a.
abbrev pub repeats : List ℕ → ℕ → Bool
repeats t a = eqb (join t a a) a

-- Levels a and b join alike in either order.
abbrev pub commutes : List ℕ → ℕ → ℕ → Bool
commutes t a b = eqb (join t a b) (join t b a)

-- Levels a, b and c join alike in either grouping.
abbrev pub associates : List ℕ → ℕ → ℕ → ℕ → Bool
associates t a b c = eqb (join t (join t a b) c) (join t a (join t b c))

-- All of a valid table but its shape and its bottom.
unfoldable pub lawful : List ℕ → Bool
lawful t = closed t && (idempotent t && (commutative t && associative t))
