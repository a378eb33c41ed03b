-- Numbers below n, taken in turn.
use Rattle.std.specs.Prelude.{Bool, true, false, ◌&&◌, ◌||◌, List, [], ◌∷◌, ◌++◌, ℕ, zero, suc}

-- The list f 0, f 1, .. of n things.
unfoldable pub each : {A : Type 0} → ℕ → (ℕ → A) → List A
each zero f = []
each (suc n) f = each n f ++ (f n ∷ [])

-- Start from a and take in 0, 1, .. n - 1.
unfoldable pub fold : {A : Type 0} → ℕ → (ℕ → A → A) → A → A
fold zero f a = a
fold (suc n) f a = f n (fold n f a)

-- The test holds at every number below n.
unfoldable pub every : ℕ → (ℕ → Bool) → Bool
every zero f = true
every (suc n) f = every n f && f n

-- The test holds at some number below n.
unfoldable pub some_below : ℕ → (ℕ → Bool) → Bool
some_below zero f = false
some_below (suc n) f = some_below n f || f n
