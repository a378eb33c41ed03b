-- A loop that writes the list s over the front of d, one element a turn.
use mathlib.Core.Path.{◌≡◌, refl, sym, ap, ◌∙◌}
use mathlib.Core.List.{List, ◌++◌}
use Prim.Native.Nat.{ℕ, suc, ◌+◌, ◌≤◌, ◌<◌}
use native.Mathlib.Nat.{add-zero}
use native.Mathlib.Omega.{arith}
use native.Mathlib.Numerals.{add-one}
use lib.ListN.{length, get_or, set, take, drop, length-append, length-take, length-drop}
use lib.Seq.{set_at, take-suc, drop-cons, append_snoc, get_or-drop, get_or-append-add, length-take-le, take_all, take_at}

-- After i turns.
pub record Filling (d s : List ℕ) (i : ℕ) (l : List ℕ) : Type 0 where
  pub same : l ≡ take i s ++ drop i d
  pub within : i ≤ length s
  pub room : length s ≤ length d

pub filling_none : (d s : List ℕ) → length s ≤ length d → Filling d s 0 d
filling_none d s h = record { same = refl; within = omega arith; room = h }

put : (d s : List ℕ) (i : ℕ) → i < length s → i < length d → set (take i s ++ drop i d) i (get_or s i 0) ≡ take (suc i) s ++ drop (suc i) d
put d s i h k =
    rw (drop-cons d i 0 k, set_at (take i s) (get_or d i 0) (drop (suc i) d) (get_or s i 0) i (length-take-le i s (omega arith)), take-suc s i 0 h)
    (sym (append_snoc (take i s) (get_or s i 0) (drop (suc i) d)))

pub filling_more : {d s l : List ℕ} {i v : ℕ} → Filling d s i l → i < length s → v ≡ get_or s i 0 → Filling d s (i + 1) (set l i v)
filling_more {d} {s} {l} {i} {v} f h e =
    record {
      same = rw (f.same, e, add-one) (put d s i h (omega (arith, f.room)));
      within = omega arith;
      room = f.room;
    }

pub filling_length : {d s l : List ℕ} {i : ℕ} → Filling d s i l → length l ≡ length d
filling_length {d} {s} {l} {i} f =
    rw (f.same, length-append, length-take, length-drop) (omega (arith, f.within, f.room))

at_seam : (p q : List ℕ) (n : ℕ) → length p ≡ n → get_or (p ++ q) n 0 ≡ get_or q 0 0
at_seam p q n e = rw (← e) (rw add-zero at (get_or-append-add p q 0 0))

-- What is not yet written is as it was.
pub filling_ahead : {d s l : List ℕ} {i : ℕ} → Filling d s i l → get_or l i 0 ≡ get_or d i 0
filling_ahead {d} {s} {l} {i} f =
    rw (f.same, at_seam (take i s) (drop i d) i (length-take-le i s f.within), get_or-drop) (ap (λ (n : ℕ). get_or d n 0) (add-zero i))

pub filling_done : {d s l : List ℕ} {i : ℕ} → Filling d s i l → length s ≤ i → l ≡ s ++ drop (length s) d
filling_done {d} {s} {l} {i} f h =
    let e : i ≡ length s = omega (arith, f.within) in
    f.same ∙ rw (e, take_all (length s) s (omega arith))

pub filling_front : {d s l : List ℕ} {i : ℕ} → Filling d s i l → length s ≤ i → take (length s) l ≡ s
filling_front {d} {s} {l} {i} f h = rw (filling_done f h) (take_at s (drop (length s) d) (length s) refl)

pub filling_whole : {d s l : List ℕ} {i : ℕ} → Filling d s i l → length d ≤ length s → length s ≤ i → l ≡ s
filling_whole {d} {s} {l} {i} f g h = sym (take_all (length s) l (omega (arith, filling_length f))) ∙ filling_front f h
