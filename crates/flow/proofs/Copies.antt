-- An array that holds a summary, and arrays that agree at their first places.
use mathlib.Core.Path.{◌≡◌, refl, sym, ap, ◌∙◌}
use mathlib.Core.Bool.{Bool}
use mathlib.Core.List.{List, [], ◌∷◌, ◌++◌}
use Prim.Native.Nat.{ℕ, zero, suc, ◌+◌, ◌-◌, ◌≤◌, ◌<◌}
use native.Mathlib.Omega.{arith}
use native.Mathlib.Decide.{ℕ_discrete}
use lib.Dec.{eqb}
use lib.ListN.{length, get_or, take, drop, replicate, length-append, length-drop, length-replicate, get_or-replicate, get_or-eq_default}
use lib.Seq.{ext_get_or, get_or-take, get_or-drop, length-take-le}
use Rattle.std.specs.Cmp.Lexicographic.{pointwise}
use Rattle.std.proofs.lemmas.Bool.Decides.{Decides-eqb}
use Rattle.std.proofs.lemmas.Slice.Eq.{slice_eq-Decides}
use Rattle.meaning.specs.Sets.{empty}
use Rattle.meaning.specs.Flow.{at}
use Rattle.flow.specs.Copies.{most_places, Holds, Same}

zeros : (n k : ℕ) → ◌≡◌ {A = ℕ} (get_or (replicate n 0) k 0) 0
zeros n k = go (ℕ_discrete (n - k) 0)
  where
    go : Dec (n - k ≡ 0) → ◌≡◌ {A = ℕ} (get_or (replicate n 0) k 0) 0
    go (yes e) = get_or-eq_default (replicate n 0) 0 (omega (arith, length-replicate {A = ℕ} n 0))
    go (no e) = get_or-replicate n k 0 0 (omega arith)

-- Empty places behind a summary add nothing to it.
padded : (σ t : List ℕ) → ((k : ℕ) → get_or t k 0 ≡ 0) → (k : ℕ) → get_or (σ ++ t) k 0 ≡ get_or σ k 0
padded [] t h k = h k
padded (s ∷ σ) t h zero = refl
padded (s ∷ σ) t h (suc k) = padded σ t h k

pub held_copy : {σ : List ℕ} → length σ ≤ most_places → Holds (σ ++ drop (length σ) (replicate most_places 0)) σ
unfolding at empty
held_copy {σ} h =
    record {
      wide = simp (length-append, length-drop, length-replicate) (omega arith);
      same = λ k. padded σ (drop (length σ) (replicate most_places 0)) behind k;
    }
  where
    behind : (k : ℕ) → ◌≡◌ {A = ℕ} (get_or (drop (length σ) (replicate most_places 0)) k 0) 0
    behind k = get_or-drop (length σ) (replicate most_places 0) k 0 ∙ zeros most_places (length σ + k)

-- Parts of two lists are equal just where the lists agree at each of its places.
pub part_at : (s : List ℕ) (i n k : ℕ) → k < n → get_or (take n (drop i s)) k 0 ≡ get_or s (i + k) 0
part_at s i n k h = get_or-take n (drop i s) k 0 h ∙ get_or-drop i s k 0

pub parts_agree : (s t : List ℕ) (i n : ℕ) → take n (drop i s) ≡ take n (drop i t) → (k : ℕ) → i ≤ k → k < i + n → get_or s k 0 ≡ get_or t k 0
parts_agree s t i n e k f h =
    let q : i + (k - i) ≡ k = omega arith in
    rw q at (sym (part_at s i n (k - i) (omega arith)) ∙ ap (λ (l : List ℕ). get_or l (k - i) 0) e ∙ part_at t i n (k - i) (omega arith))

fronts_agree : (s t : List ℕ) {n : ℕ} → n ≤ length s → n ≤ length t → ((k : ℕ) → k < n → at s k ≡ at t k) → take n s ≡ take n t
unfolding at empty
fronts_agree s t {n} f g h =
    let l = length-take-le n s f in
    ext_get_or 0 (take n s) (take n t) (l ∙ sym (length-take-le n t g))
    λ k j. get_or-take n s k 0 (omega arith) ∙ h k (omega arith) ∙ sym (get_or-take n t k 0 (omega arith))

pub same_fronts : {s t : List ℕ} {n : ℕ} {r : Bool} → n ≤ length s → n ≤ length t → r ≡ pointwise eqb (take n s) (take n t) → Same s t n r
unfolding at empty
same_fronts {s} {t} {n} {r} f g e =
    let d = slice_eq-Decides Decides-eqb (take n s) (take n t) r e in
    record {
      equal = λ q k h. sym (get_or-take n s k 0 h) ∙ ap (λ (l : List ℕ). get_or l k 0) (d.0 q) ∙ get_or-take n t k 0 h;
      unequal = λ q h. let y = d.1 (fronts_agree s t f g h) in let z : ◌≡◌ {A = ℕ} 0 1 = cc in absurd (omega arith);
    }

-- From place 0 on, fronts are compared whole.
pub from_start : (s t : List ℕ) (n : ℕ) (m : ℕ) {r : Bool} → r ≡ pointwise eqb (take (n - m) (drop m s)) (take (n - m) (drop m t)) → m ≡ 0 →
    r ≡ pointwise eqb (take n s) (take n t)
from_start s t n m e z = let d : n - m ≡ n = omega (arith, z) in rw (d, z) at e
