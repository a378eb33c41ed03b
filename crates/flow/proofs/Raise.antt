-- The union of a row of the summary with the variables' sets adds each of them to it.
use mathlib.Core.Path.{◌≡◌, refl, sym, ap, ◌∙◌}
use mathlib.Core.List.{List, [], ◌∷◌, ◌++◌}
use Prim.Native.Nat.{ℕ, zero, suc, ◌+◌, ◌≤◌, ◌<◌}
use native.Mathlib.Nat.{zero-add, suc-add}
use native.Mathlib.Omega.{arith}
use native.Mathlib.Numerals.{add-one}
use borrow.Rule.Slice.PartMut.{put_mid, mid_of, put_same}
use lib.ListN.{length, get_or, set, take, drop, length-drop, get_or-append}
use lib.Seq.{get_or-append-add, set-append_left, length-take-le}
use Rattle.meaning.specs.Lists.{each}
use Rattle.meaning.specs.Sets.{empty, union}
use Rattle.meaning.specs.Flow.{Need, arriving, grow, at, joined}
use Rattle.meaning.proofs.Needs.{grow_append, length_grow}
use Rattle.flow.specs.Walks.{Raised, RowFits}
use Rattle.flow.proofs.Fill.{Filling, filling_none, filling_more, filling_length, filling_ahead, filling_whole}
use Rattle.flow.proofs.Rows.{length_joined, get_or_joined}

-- What must lie in the row for variable j.
abbrev need_at : ℕ → List ℕ → ℕ → Need ℕ
need_at k Γ j = record { place = k + j; needed = get_or Γ j empty }

one_need : (τ : List ℕ) (k i s : ℕ) (Γ : List ℕ) → s ≡ get_or Γ i empty →
    set τ (k + i) (union (get_or τ (k + i) 0) s) ≡ grow τ (need_at k Γ i ∷ [])
unfolding grow at empty
one_need τ k i s Γ e = rw e

-- A list in the place of the row.
abbrev over : List ℕ → ℕ → ℕ → List ℕ → List ℕ
over new k w l = take k new ++ (l ++ drop w (drop k new))

set_right : (p q : List ℕ) (i v : ℕ) → set (p ++ q) (length p + i) v ≡ p ++ set q i v
set_right [] q i v = ap (λ (n : ℕ). set q n v) (zero-add i)
set_right (x ∷ p) q i v =
    ap (λ (n : ℕ). set (x ∷ (p ++ q)) n v) (suc-add (length p) i) ∙ ap (λ (t : List ℕ). x ∷ t) (set_right p q i v)

module _ (new sets : List ℕ) (k w : ℕ) (f : RowFits k w (length new)) (h : w ≤ length sets) where
  front : length (take k new) ≡ k
  front = length-take-le k new (omega (arith, f.fits))

  long_row : length (take w (drop k new)) ≡ w
  long_row = length-take-le w (drop k new) (simp length-drop (omega (arith, f.fits)))

  long_sets : length (take w sets) ≡ w
  long_sets = length-take-le w sets h

  over_at : (l : List ℕ) (i : ℕ) → i < length l → get_or (over new k w l) (k + i) 0 ≡ get_or l i 0
  over_at l i g =
      ap (λ (n : ℕ). get_or (over new k w l) (n + i) 0) (sym front)
      ∙ get_or-append-add (take k new) (l ++ drop w (drop k new)) i 0
      ∙ get_or-append l (drop w (drop k new)) 0 i g

  over_set : (l : List ℕ) (i v : ℕ) → i < length l → set (over new k w l) (k + i) v ≡ over new k w (set l i v)
  over_set l i v g =
      ap (λ (n : ℕ). set (over new k w l) (n + i) v) (sym front)
      ∙ set_right (take k new) (l ++ drop w (drop k new)) i v
      ∙ ap (λ (t : List ℕ). take k new ++ t) (set-append_left l (drop w (drop k new)) i v g)

  -- The first i needs, met one after another, fill the row with its union.
  record Grown (i : ℕ) : Type 0 where
    pub part : List ℕ
    pub filling : Filling (take w (drop k new)) (joined union (take w (drop k new)) (take w sets)) i part
    pub same : grow new (each i (need_at k (take w sets))) ≡ over new k w part

  united : length (joined union (take w (drop k new)) (take w sets)) ≡ w
  united = length_joined union (take w (drop k new)) (take w sets) (long_row ∙ sym long_sets) ∙ long_row

  grown : (i : ℕ) → i ≤ w → Grown i
  unfolding each grow empty
  grown zero g =
      record {
        part = take w (drop k new);
        filling = filling_none (take w (drop k new)) _ (omega (arith, united, long_row));
        same = sym (put_same k w new);
      }
  grown (suc i) g =
      let t = grown i (omega arith) in
      let n : length t.part ≡ w = filling_length t.filling ∙ long_row in
      let s = get_or (take w sets) i 0 in
      record {
        part = set t.part i (union (get_or t.part i 0) s);
        filling =
            rw add-one at
            (filling_more {v = union (get_or t.part i 0) s} t.filling (omega (arith, united))
            (rw (filling_ahead t.filling)
            (sym
            (get_or_joined union (take w (drop k new)) (take w sets) i 0 (long_row ∙ sym long_sets) (omega (arith, long_row))))));
        same =
            grow_append new (each i (need_at k (take w sets))) (need_at k (take w sets) i ∷ [])
            ∙ ap (λ (τ : List ℕ). grow τ (need_at k (take w sets) i ∷ [])) t.same
            ∙ sym (one_need (over new k w t.part) k i s (take w sets) refl)
            ∙ ap (λ (x : ℕ). set (over new k w t.part) (k + i) (union x s)) (over_at t.part i (omega arith))
            ∙ over_set t.part i (union (get_or t.part i 0) s) (omega arith);
      }

  pub raised_row : {n : ℕ} → n ≡ w → Raised new k w sets (put_mid k n new (joined union (mid_of k n new) (take w sets)))
  unfolding arriving
  raised_row e =
      let t = grown w (omega arith) in
      let j = filling_whole t.filling (omega (arith, united, long_row)) (omega (arith, united)) in
      let same : over new k w (joined union (take w (drop k new)) (take w sets)) ≡ grow new (each w (need_at k (take w sets))) =
      sym (t.same ∙ ap (over new k w) j) in
      rw e
      (record {
        added = λ σ. same;
        long = ap length same ∙ length_grow new (each w (need_at k (take w sets)));
      })
