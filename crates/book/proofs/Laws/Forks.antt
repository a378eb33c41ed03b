-- A condition and two parts of one kind behind a code: the ordinary if and the closing if.
use mathlib.Core.Path.{◌≡◌, refl, sym, ap, ap₂, ◌∙◌}
use mathlib.Core.List.{List}
use Prim.Native.Nat.{ℕ, ◌+◌}
use native.Mathlib.Omega.{arith}
use lib.ListN.{drop}
use lib.Seq.{drop-drop}
use Rattle.meaning.specs.Tree.{Expr}
use Rattle.meaning.specs.Reading.{Parsed, got, more, and_then, Scope, expr}
use Rattle.book.specs.Taken.{Taken, Bytes, Fault, taken, plus}
use Rattle.book.specs.Parts.{no_loops, expr_taken}
use Rattle.book.proofs.Parts.{from, from_drop, plus_fault, plus_apart, Got, was_got, was_behind, was_stopped, stops, one_more, goes_behind, stops_behind}

abbrev fork : {B C : Type 0} → (C → ℕ) → (Expr → B → B → C) → (List ℕ → Parsed B) → Scope → ℕ → List ℕ → Taken
fork all join inner v d s =
    taken all (more 1 (and_then (drop 1 s) (expr v d (drop 1 s)) λ e s. and_then s (inner s) λ a s. and_then s (inner s) λ b s. got (join e a b) 0))

-- The condition, behind the code.
pub record Tested (v : Scope) (d : ℕ) (s : List ℕ) (k n l : ℕ) : Type 0 where
  pub bytes : ℕ
  pub got_it : Got no_loops (expr v d (drop 1 s)) bytes 0
  pub all_bytes : n ≡ 1 + bytes
  pub all_loops : l ≡ k

pub tested : {t : Taken} {n l : ℕ} (v : Scope) (d : ℕ) (s : List ℕ) (k : ℕ) → t ≡ expr_taken v d (from 1 s) → Bytes n l ≡ plus 1 k t → Tested v d s k n l
tested {t} v d s k h e =
    let b = was_behind 1 k t e in
    let g : Got no_loops (expr v d (drop 1 s)) b.bytes b.loops = was_got no_loops (expr v d (drop 1 s)) b.is (rw from_drop at h) in
    record { bytes = b.bytes; got_it = record { tree = g.tree; is = g.is; count = refl }; all_bytes = b.all_bytes; all_loops = omega (arith, b.all_loops, g.count) }

pub test_stops : {B : Type 0} (all : B → ℕ) {t : Taken} {x q : ℕ} (v : Scope) (d : ℕ) (s : List ℕ) (k : ℕ) (g : Expr → List ℕ → Parsed B) →
    t ≡ expr_taken v d (from 1 s) → Fault x q ≡ plus 1 k t → Fault x q ≡ taken all (more 1 (and_then (drop 1 s) (expr v d (drop 1 s)) g))
test_stops all {t} v d s k g h w =
    let f = was_stopped 1 k t w in
    ap₂ Fault refl f.all_places ∙ plus_fault 1 0 f.is ∙ stops_behind no_loops all 1 (drop 1 s) (expr v d (drop 1 s)) g f.is (rw from_drop at h)

module _ {B C : Type 0} (all : C → ℕ) (join : Expr → B → B → C) (inner : List ℕ → Parsed B) where
  pub fork_test : {t : Taken} {x q : ℕ} (v : Scope) (d : ℕ) (s : List ℕ) → t ≡ expr_taken v d (from 1 s) → Fault x q ≡ plus 1 0 t → Fault x q ≡ fork all join inner v d s
  fork_test v d s h w = test_stops all v d s 0 _ h w

module _ {B C : Type 0} (count : B → ℕ) (all : C → ℕ) (join : Expr → B → B → C) (inner : List ℕ → Parsed B) where
  pub fork_first : {t u : Taken} {n l x q : ℕ} (v : Scope) (d : ℕ) (s : List ℕ) → t ≡ expr_taken v d (from 1 s) → Bytes n l ≡ plus 1 0 t →
      u ≡ taken count (inner (from n s)) → Fault x q ≡ plus n l u → Fault x q ≡ fork all join inner v d s
  fork_first {t} {u} {n} {l} v d s h e w q =
      let a = tested v d s 0 h e in
      let f = was_stopped n l u q in
      let y : List ℕ = drop n s in
      let one : u ≡ taken count (inner y) = rw (from_drop n s) at w in
      ap₂ Fault refl f.all_places ∙ plus_fault n 0 f.is ∙ ap (plus n 0) (stops count all y (inner y) _ f.is one)
      ∙ sym (goes_behind no_loops all 1 s (expr v d (drop 1 s)) _ a.all_bytes a.got_it)

  pub fork_whole : ((e : Expr) (a b : B) → all (join e a b) ≡ count a + count b) → {r t u y : Taken} {n l m k : ℕ} (v : Scope) (d : ℕ) (s : List ℕ) →
      t ≡ expr_taken v d (from 1 s) → Bytes n l ≡ plus 1 0 t → u ≡ taken count (inner (from n s)) → Bytes m k ≡ plus n l u →
      y ≡ taken count (inner (from m s)) → r ≡ plus m k y → r ≡ fork all join inner v d s
  fork_whole j {r} {t} {u} {y} {n} {l} {m} {k} v d s h e w f z q =
      let a = tested v d s 0 h e in
      let b = was_behind n l u f in
      let x : List ℕ = drop n s in
      let one : u ≡ taken count (inner x) = rw (from_drop n s) at w in
      let here : m ≡ n + b.bytes = b.all_bytes in
      let more_loops : k ≡ b.loops = omega (arith, b.all_loops, a.all_loops) in
      let two : y ≡ taken count (inner (drop b.bytes x)) = rw (from_drop m s, here, ← drop-drop b.bytes n s) at z in
      q ∙ ap₂ (λ i o. plus i o y) here more_loops ∙ ap (plus (n + b.bytes) b.loops) two ∙ plus_apart n b.bytes b.loops (taken count (inner (drop b.bytes x)))
      ∙ ap (plus n 0) (sym (one_more count count all x (inner x) inner (join a.got_it.tree) (j a.got_it.tree) b.is one))
      ∙ sym (goes_behind no_loops all 1 s (expr v d (drop 1 s)) _ a.all_bytes a.got_it)
