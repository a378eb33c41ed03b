-- The cells of a call while they are set up.
use Rattle.std.proofs.Common.{◌≡◌, ℕ, ◌+◌, ◌-◌, ◌<◌, ◌≤◌, List, ◌++◌, length, get_or, take, drop, set, replicate, sym, refl, ◌∙◌, add-one, arith, length-append, length-set, length-take, take_all, get_or-take, take-suc, take-suc-set, get_or-append-add, drop-set-lt}
use lib.ListN.{length-replicate}
use lib.ListN.{get_or-replicate, get_or-append}
use Rattle.meaning.specs.Reading.{entry}
use Rattle.runner.specs.Frame.{PreparedPre, PreparedPost}

-- Parameters, then locals.
abbrev pub starting : List ℕ → ℕ → ℕ → List ℕ
starting given p l = take p given ++ replicate l 0

-- The first i cells are as they start, and those behind the variables as they were; of the eight values the first p are given,
-- and there is room for all the variables.
pub record SettingUp (given : List ℕ) (p l : ℕ) (w₀ w : List ℕ) (i : ℕ) : Type 0 where
  pub eight : length given ≡ 8
  pub few : p ≤ 8
  pub room : p + l ≤ length w₀
  pub some : i ≤ p + l
  pub long : length w ≡ length w₀
  pub begun : take i w ≡ take i (starting given p l)
  pub others : drop (p + l) w ≡ drop (p + l) w₀

pub set_start : {given : List ℕ} {p l : ℕ} {w : List ℕ} → length given ≡ 8 → p ≤ 8 → p + l ≤ length w →
    SettingUp given p l w w 0
set_start e h r = record { eight = e; few = h; room = r; some = omega arith; long = refl; begun = refl; others = refl }

module _ {given : List ℕ} {p l : ℕ} {w₀ w : List ℕ} {i : ℕ} (s : SettingUp given p l w₀ w i) where
  taken_long : length (take p given) ≡ p
  taken_long = simp (length-take, s.eight) (omega (arith, s.few))

  starting_long : length (starting given p l) ≡ p + l
  starting_long = simp (length-append, taken_long, length-replicate)

  set_more : {v : ℕ} → i < p + l → v ≡ get_or (starting given p l) i 0 → SettingUp given p l w₀ (set w i v) (i + 1)
  set_more {v} k e =
      record {
        eight = s.eight;
        few = s.few;
        room = s.room;
        some = omega arith;
        long = length-set w i v ∙ s.long;
        begun =
            let a : i < length w = omega (arith, s.long) in
            let b : i < length (starting given p l) = rw starting_long k in
            rw (add-one i, take-suc-set w i v a, take-suc (starting given p l) i 0 b, e, s.begun);
        others = drop-set-lt (p + l) w i v k ∙ s.others;
      }

  pub set_parameter : {v : ℕ} → i < p + l → i < p → v ≡ get_or given i 0 → SettingUp given p l w₀ (set w i v) (i + 1)
  set_parameter k h e =
      let m : i < length (take p given) = rw taken_long h in
      set_more k (e ∙ sym (get_or-append (take p given) (replicate l 0) 0 i m ∙ get_or-take p given i 0 h))

  pub set_local : {v : ℕ} → i < p + l → p ≤ i → v ≡ 0 → SettingUp given p l w₀ (set w i v) (i + 1)
  set_local k h e =
      let j : length (take p given) + (i - p) ≡ i = rw taken_long (omega arith) in
      let z = get_or-append-add (take p given) (replicate l 0) (i - p) 0 ∙ get_or-replicate l (i - p) 0 0 (omega arith) in
      set_more k (e ∙ sym (rw j at z))

  pub set_whole : p + l ≤ i → take (p + l) w ≡ starting given p l
  set_whole k =
      let e : p + l ≡ i = omega (arith, s.some) in
      rw e (s.begun ∙ take_all i (starting given p l) (rw (starting_long, e) (omega arith)))

-- A procedure of the book has at most 8 parameters and 8 locals, so that its variables fit.
module _ {b : List ℕ} {p : ℕ} {given w : List ℕ} (h : PreparedPre b p given w) {k : ℕ} (i : k ≡ (entry b p).parameters) where
  pub parameters_few : k ≤ 8
  parameters_few = rw i (h.book.facts.few_parameters p h.known)

  module _ {l : ℕ} (j : l ≡ (entry b p).locals) where
    variables_few : k + l ≤ 16
    variables_few = let f = h.book.facts.few_locals p h.known in omega (arith, parameters_few)

    -- Their number fits its type.
    pub variables_small : k + l < 0x10000000000000000
    variables_small = omega (arith, variables_few)

    pub variables_fit : k + l ≤ length w
    variables_fit = omega (arith, variables_few, h.room)

    -- When all are set the cells are as is promised.
    pub prepared_done : {w₁ : List ℕ} {m : ℕ} → SettingUp given k l w w₁ m → k + l ≤ m → PreparedPost b p given w w₁ (k + l)
    prepared_done s e =
        record { counted = cc (i, j); few = variables_few; begun = rw (← i, ← j) (set_whole s e); others = s.others; long = s.long }
