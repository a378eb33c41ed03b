-- A table's shape by its number of levels, and its validity by its three tests.
use mathlib.Core.Path.{◌≡◌, refl, sym, ◌∙◌}
use mathlib.Core.Bool.{Bool, true, false, ◌&&◌}
use Rattle.std.proofs.Common.{is_le, nat_cmp}
use Rattle.std.proofs.lemmas.Bool.Decides.{nat_tests}
use mathlib.Core.List.{List}
use Prim.Native.Nat.{ℕ, ◌+◌, ◌*◌, ◌≤◌}
use native.Mathlib.Omega.{arith}
use lib.Dec.{eqb, leb}
use lib.ListN.{length}
use borrow.Author.Tests.{leb-true}
use Rattle.meaning.specs.Limits.{most_levels}
use Rattle.meaning.specs.Levels.{levels, shaped, closed, idempotent, commutative, associative, is_bottom, valid, bottom}
use Rattle.meaning.proofs.Lists.{both, both_left, both_right}
use Rattle.meaning.proofs.Levels.{bottom_tested}
use Rattle.levels.specs.Lawful.{lawful}
use Rattle.levels.proofs.Laws.{against}

-- The order's answer that the standard library gives is the test.
le_tested : (a b : ℕ) → is_le (nat_cmp a b) ≡ leb a b
le_tested a b = grind (arith, nat_tests)

-- A third test behind two that hold, or do not.
third : (a b x : Bool) {r : Bool} → r ≡ (a && b) → r ≡ true → x ≡ (a && (b && x))
third true true x e h = refl
third false b x e h = cc
third true false x e h = cc

no_third : (a b x : Bool) {r : Bool} → r ≡ (a && b) → r ≡ false → r ≡ (a && (b && x))
no_third true true x e h = cc
no_third false b x e h = e
no_third true false x e h = e

-- The shape.
module _ (t : List ℕ) (n : ℕ) {r : Bool} (e : n ≡ levels t) (h : r ≡ (is_le (nat_cmp 1 n) && is_le (nat_cmp n most_levels))) where
  pub in_range : r ≡ true → eqb (length t) (1 + n * n) ≡ shaped t
  unfolding shaped
  in_range k = rw (← e) (third (leb 1 n) (leb n most_levels) (eqb (length t) (1 + n * n)) (rw (le_tested 1 n, le_tested n most_levels) at h) k)

  pub out_of_range : r ≡ false → r ≡ shaped t
  unfolding shaped
  out_of_range k = rw (← e) (no_third (leb 1 n) (leb n most_levels) (eqb (length t) (1 + n * n)) (rw (le_tested 1 n, le_tested n most_levels) at h) k)

-- The tests.
module _ (t : List ℕ) where
  pub unshaped : {r v : Bool} → r ≡ shaped t → r ≡ false → v ≡ false → v ≡ valid t
  unfolding valid
  unshaped e k h = rw (← e, k) h

  pub unlawful : {q v : Bool} → q ≡ lawful t → v ≡ q → v ≡ false → v ≡ valid t
  unfolding valid lawful
  unlawful {q} e f k =
      k ∙ against (valid t) {x = q} (rw (← f, k) refl) λ v.
      let v₁ = both_right (shaped t) _ v in
      let v₂ = both_right (closed t) _ v₁ in
      let v₃ = both_right (idempotent t) _ v₂ in
      let v₄ = both_right (commutative t) _ v₃ in
      e ∙ both (both_left (closed t) _ v₁) (both (both_left (idempotent t) _ v₂) (both (both_left (commutative t) _ v₃) (both_left (associative t) _ v₄)))

  shaped_some : shaped t ≡ true → 1 ≤ levels t
  unfolding shaped
  shaped_some e = leb-true 1 (levels t) (both_left (leb 1 (levels t)) _ e)

  pub bottom_decides : {r q v x : Bool} {b : ℕ} → r ≡ shaped t → r ≡ true → q ≡ lawful t → v ≡ q → v ≡ true →
      b ≡ bottom t → x ≡ is_bottom t b → x ≡ valid t
  unfolding valid lawful
  bottom_decides e k f m l g h =
      let s : shaped t ≡ true = sym e ∙ k in
      let w₁ : lawful t ≡ true = sym f ∙ sym m ∙ l in
      let w₂ = both_right (closed t) _ w₁ in
      let w₃ = both_right (idempotent t) _ w₂ in
      rw (s, both_left (closed t) _ w₁, both_left (idempotent t) _ w₂, both_left (commutative t) _ w₃, both_right (commutative t) _ w₃)
      (h ∙ rw g (bottom_tested t (shaped_some s)))
