-- Level tables, the order of levels, and the reported level.
use Rattle.std.specs.Prelude.{Bool, ◌&&◌, cond, List, ℕ, ◌+◌, ◌*◌, eqb, leb, ltb, length, get_or}
use Rattle.meaning.specs.Limits.{most_levels}
use Rattle.meaning.specs.Lists.{fold, every, some_below}
use Rattle.meaning.specs.Sets.{member}

-- The number of levels.
abbrev pub levels : List ℕ → ℕ
levels t = get_or t 0 0

-- The join of two levels: the table has a row for each first level.
unfoldable pub join : List ℕ → ℕ → ℕ → ℕ
join t a b = get_or t (1 + levels t * a + b) 0

-- The test holds for every pair of levels.
unfoldable pub pairs : ℕ → (ℕ → ℕ → Bool) → Bool
pairs n f = every n λ a. every n λ b. f a b

-- One byte n, 1 to 16, then n rows of n bytes.
unfoldable pub shaped : List ℕ → Bool
shaped t = leb 1 (levels t) && (leb (levels t) most_levels && eqb (length t) (1 + levels t * levels t))

-- All entries are below n.
unfoldable pub closed : List ℕ → Bool
closed t = pairs (levels t) λ a b. ltb (join t a b) (levels t)

unfoldable pub idempotent : List ℕ → Bool
idempotent t = every (levels t) λ a. eqb (join t a a) a

unfoldable pub commutative : List ℕ → Bool
commutative t = pairs (levels t) λ a b. eqb (join t a b) (join t b a)

unfoldable pub associative : List ℕ → Bool
associative t = pairs (levels t) λ a b. every (levels t) λ c. eqb (join t (join t a b) c) (join t a (join t b c))

-- The level's join with every b is b.
unfoldable pub is_bottom : List ℕ → ℕ → Bool
is_bottom t a = every (levels t) λ b. eqb (join t a b) b

-- A level table is valid when it has its shape and keeps every law.
unfoldable pub valid : List ℕ → Bool
valid t =
    shaped t && (closed t && (idempotent t && (commutative t && (associative t && some_below (levels t) λ a. is_bottom t a))))

-- The bottom level.
unfoldable pub bottom : List ℕ → ℕ
bottom t = fold (levels t) (λ a found. cond (is_bottom t a) a found) 0

-- Level a is at or below b when their join is b.
unfoldable pub at_or_below : List ℕ → ℕ → ℕ → Bool
at_or_below t a b = eqb (join t a b) b

-- Bottom joined with the levels `ls` of those of n parameters that are in the set.
unfoldable pub reported : List ℕ → List ℕ → ℕ → ℕ → ℕ
reported t ls n set = fold n (λ i found. cond (member i set) (join t found (get_or ls i 0)) found) (bottom t)
