-- What is promised of the level that the reporter answers, over the numbers of the answers alone.
use mathlib.Core.Path.{◌≡◌, sym, ◌∙◌}
use mathlib.Core.Bool.{true}
use mathlib.Core.List.{List}
use Prim.Native.Nat.{ℕ, ◌<◌}
use lib.ListN.{length, get_or, take}
use Rattle.meaning.specs.Levels.{at_or_below}
use Rattle.meaning.specs.Answers.{LevelAnswer, finished, level_answer}
use Rattle.meaning.specs.Entries.{Runs, FindsIn, Reports}
use Rattle.meaning.specs.Promises.{Demand3, SameValue, FinderLowest, Finds, written}
use Rattle.meaning.proofs.Demand3.{demand3}
use Rattle.meaning.proofs.Lowest.{finder_lowest}

answered : {book table ls σ : List ℕ} {p l : ℕ} → Reports book table p ls σ 0 l → level_answer book table p ls σ ≡ record { refusal = 0; level = l }
answered {book} {table} {ls} {σ} {p} {l} r = go (level_answer book table p ls σ) r.refusal_is r.level_is
  where
    go : (x : LevelAnswer) → 0 ≡ x.refusal → l ≡ x.level → x ≡ record { refusal = 0; level = l }
    go x e f =
        let z : ◌≡◌ {A = LevelAnswer} (record { refusal = x.refusal; level = x.level }) (record { refusal = 0; level = l }) = cc in
        z

-- Where the reporter answers the level l, two finished runs whose inputs are equal wherever the input's level is at or below l
-- answer equal values, whatever else differs.
pub level_bounds : {book table ls σ : List ℕ} {p l : ℕ} → Reports book table p ls σ 0 l →
    {xs ys : List ℕ} → ((i : ℕ) → i < length ls → at_or_below table (get_or ls i 0) l ≡ true → get_or xs i 0 ≡ get_or ys i 0) →
    {n m : ℕ} {work work' after after' : List ℕ} {v v' s s' : ℕ} →
    Runs book p xs n work 0 finished v s after → Runs book p ys m work' 0 finished v' s' after' → v ≡ v'
unfolding Demand3 SameValue
level_bounds {book} {table} {ls} {σ} {p} {l} r {xs} {ys} same {n} {m} {work} {work'} x y =
    x.value_is ∙ demand3 book table ls σ p l (answered r) xs ys same n m work work' (sym x.ending_is) (sym y.ending_is) ∙ sym y.value_is

-- The level answered with the finder's summary is at or below the level answered with any other.
pub found_lowest : {book buffer table ls after τ : List ℕ} {p size rounds l m : ℕ} → FindsIn book buffer 0 size rounds after →
    Reports book table p ls (take size after) 0 l → Reports book table p ls τ 0 m → at_or_below table l m ≡ true
unfolding FinderLowest Finds written
found_lowest {book} {buffer} {table} {ls} {after} {τ} {p} {size} {rounds} {l} {m} f x y =
    finder_lowest book buffer table ls τ p l m (sym f.refusal_is) (answered (rw (f.size_is, f.buffer_is) at x)) (answered y)
