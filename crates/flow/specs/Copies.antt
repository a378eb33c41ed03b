-- Summaries as the walk holds them: as long as any, each place as the summary has it and the places behind it empty.
use Rattle.std.specs.Prelude.{◌≡◌, Bool, true, false, List, ℕ, ◌+◌, ◌*◌, ◌<◌, length, take}
use Rattle.meaning.specs.Limits.{most_procedures, most_loops}
use Rattle.meaning.specs.Flow.{at}
use Rattle.flow.specs.Rows.{most_variables}

-- A result for each procedure, and a row for each loop.
abbrev pub most_places : ℕ
most_places = most_procedures + most_variables * most_loops

-- The places hold the summary.
pub record Holds (places σ : List ℕ) : Type 0 where
  pub wide : length places ≡ most_places
  pub same : (k : ℕ) → at places k ≡ at σ k

-- The summary is what stands at the front of the places.
pub record Stored (places σ σ' : List ℕ) : Type 0 where
  pub is : σ' ≡ take (length σ) places

-- The answer tells whether the first n places agree.
pub record Same (s t : List ℕ) (n : ℕ) (r : Bool) : Type 0 where
  pub equal : r ≡ true → (k : ℕ) → k < n → at s k ≡ at t k
  pub unequal : r ≡ false → ((k : ℕ) → k < n → at s k ≡ at t k) → ⊥
