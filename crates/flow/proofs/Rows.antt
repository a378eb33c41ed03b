-- Laws of rows: lists of sets, one for each variable.
use mathlib.Core.Path.{◌≡◌, refl, sym, ap, ◌∙◌}
use mathlib.Core.List.{List, [], ◌∷◌, ◌++◌}
use Prim.Native.Nat.{ℕ, zero, suc, ◌+◌, ◌-◌, ◌≤◌, ◌<◌}
use native.Mathlib.Omega.{arith}
use lib.ListN.{length, get_or, set, take, drop, replicate, length-replicate, replicate-append-replicate}
use lib.Seq.{drop_at}
use lib.Bits.{bit_or}
use Rattle.meaning.specs.Limits.{most_parameters}
use Rattle.meaning.specs.Sets.{empty, union, single}
use Rattle.meaning.specs.Flow.{joined, row, by_sets, at}
use Rattle.meaning.specs.Lists.{each}
use Rattle.meaning.proofs.Lists.{length_each, get_or_each}
use Rattle.flow.specs.Rows.{most_variables, Wide, Held}
use Rattle.flow.specs.Walks.{RowFits}
use Rattle.flow.proofs.Fill.{Filling, filling_none, filling_more, filling_ahead, filling_done, filling_front, filling_length}

pub length_joined : (f : ℕ → ℕ → ℕ) (a b : List ℕ) → length a ≡ length b → length (joined f a b) ≡ length a
unfolding joined
length_joined f [] [] h = refl
length_joined f [] (y ∷ b) h = absurd (omega arith)
length_joined f (x ∷ a) [] h = absurd (omega arith)
length_joined f (x ∷ a) (y ∷ b) h = ap suc (length_joined f a b (omega arith))

pub get_or_joined : (f : ℕ → ℕ → ℕ) (a b : List ℕ) (i d : ℕ) → length a ≡ length b → i < length a →
    get_or (joined f a b) i d ≡ f (get_or a i d) (get_or b i d)
unfolding joined
get_or_joined f [] b i d h k = absurd (omega arith)
get_or_joined f (x ∷ a) [] i d h k = absurd (omega arith)
get_or_joined f (x ∷ a) (y ∷ b) zero d h k = refl
get_or_joined f (x ∷ a) (y ∷ b) (suc i) d h k = get_or_joined f a b i d (omega arith) (omega arith)

pub take_joined : (f : ℕ → ℕ → ℕ) (w : ℕ) (a b : List ℕ) → length a ≡ length b → take w (joined f a b) ≡ joined f (take w a) (take w b)
unfolding joined
take_joined f zero a b h = refl
take_joined f (suc w) [] [] h = refl
take_joined f (suc w) [] (y ∷ b) h = absurd (omega arith)
take_joined f (suc w) (x ∷ a) [] h = absurd (omega arith)
take_joined f (suc w) (x ∷ a) (y ∷ b) h = ap (λ (t : List ℕ). f x y ∷ t) (take_joined f w a b (omega arith))

-- After i turns of uniting two lists.
pub record Joining (a b : List ℕ) (i : ℕ) (l : List ℕ) : Type 0 where
  pub alike : length a ≡ length b
  pub filling : Filling a (joined union a b) i l

pub joining_none : {a b : List ℕ} → length a ≡ length b → Joining a b 0 a
joining_none {a} {b} e =
    record { alike = e; filling = filling_none a (joined union a b) (omega (arith, length_joined union a b e)) }

pub joining_more : {a b l : List ℕ} {i : ℕ} → Joining a b i l → i < length a → Joining a b (i + 1) (set l i (bit_or (get_or l i 0) (get_or b i 0)))
unfolding union
joining_more {a} {b} {l} {i} j h =
    record {
      alike = j.alike;
      filling =
          filling_more j.filling (omega (arith, length_joined bit_or a b j.alike))
          (rw (filling_ahead j.filling) (sym (get_or_joined bit_or a b i 0 j.alike h)));
    }

pub length_row : (σ : List ℕ) (w k : ℕ) → length (row (by_sets σ w) k) ≡ w
unfolding row
length_row σ w k = length_each w (λ i. at σ (k + i))

pub get_or_row : (σ : List ℕ) (w k i : ℕ) → i < w → get_or (row (by_sets σ w) k) i 0 ≡ get_or σ (k + i) 0
unfolding row at empty
get_or_row σ w k i h = get_or_each w (λ i. at σ (k + i)) i 0 h

drop_replicate : (a n m k : ℕ) → n + m ≡ k → drop n (replicate k a) ≡ replicate m a
drop_replicate a n m k e =
    rw (← e, ← replicate-append-replicate n m a) (drop_at (replicate n a) (replicate m a) n (length-replicate n a))

-- After i turns of giving each parameter its own set.
pub record Starting (n i : ℕ) (l : List ℕ) : Type 0 where
  pub few : n ≤ most_parameters
  pub filling : Filling (replicate most_variables 0) (each n single) i l
  pub count : i ≤ n

pub starting_none : {n : ℕ} → n ≤ most_parameters → Starting n 0 (replicate most_variables 0)
starting_none {n} h =
    record {
      few = h;
      filling =
          filling_none (replicate most_variables 0) (each n single)
          (omega (arith, length_each n single, length-replicate {A = ℕ} most_variables 0));
      count = omega arith;
    }

pub starting_more : {l : List ℕ} {n i v : ℕ} → Starting n i l → i < n → v ≡ single i → Starting n (i + 1) (set l i v)
starting_more {l} {n} {i} q h e =
    record {
      few = q.few;
      filling = filling_more q.filling (omega (arith, length_each n single)) (e ∙ sym (get_or_each n single i 0 h));
      count = omega arith;
    }

pub starting_done : {l : List ℕ} {n i : ℕ} → Starting n i l → n ≤ i → l ≡ each n single ++ replicate (most_variables - n) 0
starting_done {l} {n} {i} q h =
    let e = length_each n single in
    let f = q.few in
    filling_done q.filling (omega arith)
    ∙ ap (λ (t : List ℕ). each n single ++ t) (rw e (drop_replicate 0 n (most_variables - n) most_variables (omega arith)))

-- After i turns of copying a summary's row.
pub record Holding (σ : List ℕ) (k w : ℕ) (d : List ℕ) (i : ℕ) (l : List ℕ) : Type 0 where
  pub fits : RowFits k w (length σ)
  pub wide : Wide d
  pub filling : Filling d (row (by_sets σ w) k) i l
  pub count : i ≤ w

pub holding_none : {σ d : List ℕ} {k w : ℕ} → RowFits k w (length σ) → Wide d → Holding σ k w d 0 d
holding_none {σ} {d} {k} {w} f h =
    record {
      fits = f;
      wide = h;
      filling = filling_none d (row (by_sets σ w) k) (omega (arith, length_row σ w k, f.narrow, h.long));
      count = omega arith;
    }

pub holding_more : {σ d l : List ℕ} {k w i : ℕ} → Holding σ k w d i l → i < w → Holding σ k w d (i + 1) (set l i (get_or σ (k + i) 0))
holding_more {σ} {d} {l} {k} {w} {i} q h =
    record {
      fits = q.fits;
      wide = q.wide;
      filling = filling_more q.filling (omega (arith, length_row σ w k)) (sym (get_or_row σ w k i h));
      count = omega arith;
    }

pub holding_done : {σ d l : List ℕ} {k w i : ℕ} → Holding σ k w d i l → w ≤ i → Held σ k w l
holding_done {σ} {d} {l} {k} {w} {i} q h =
    let n = length_row σ w k in
    record {
      wide = record { long = omega (arith, filling_length q.filling, q.wide.long) };
      same = rw n at (filling_front q.filling (omega arith));
    }
