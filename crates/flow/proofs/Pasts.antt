-- Expressions that are passed over: the loop over their parts ends where they end.
use mathlib.Core.Path.{◌≡◌, refl, sym, ◌∙◌}
use mathlib.Core.List.{List}
use Prim.Native.Nat.{ℕ, ◌+◌, ◌*◌, ◌-◌, ◌≤◌, ◌<◌}
use native.Mathlib.Omega.{arith}
use lib.ListN.{length, get_or}
use Rattle.meaning.specs.Limits.{most_bytes}
use Rattle.meaning.specs.Reading.{entry}
use Rattle.book.proofs.Text.{ExprHere, ArgsHere}
use Rattle.book.proofs.Views.{expr_code, constant_view, variable_view, operation_view, call_view, no_args_view, args_view}
use Rattle.book.proofs.Views.Bounds.{args_spans}
use Rattle.flow.specs.Exprs.{within, PastPre, PastPost}
use Rattle.flow.proofs.Exprs.{args_moved, counted_args, more_here, before_here, Called, given_here}

-- Parts still open, as the arguments of a call stand: k of them, one after the other, up to the same end.
pub record Passed (b : List ℕ) (n i k j w : ℕ) (x : ArgsHere b (within b w) n i) : Type 0 where
  pub here : ArgsHere b (within b w) k j
  pub ends : here.next ≡ x.next

-- The n expressions at i, where k parts are still open, the next of them at j.
pub record Passing (b : List ℕ) (n i k j : ℕ) : Type 0 where
  pub pre : PastPre b n i
  pub on : i ≤ j
  pub room : j + k ≤ length b
  pub short : length b ≤ most_bytes
  pub left : (w : ℕ) (x : ArgsHere b (within b w) n i) → Passed b n i k j w x

passed_room : {b : List ℕ} {n i k j : ℕ} (p : PastPre b n i) → Passed b n i k j p.w p.here → j + k ≤ length b
passed_room {b} {n} {i} {k} {j} p l =
    let h = counted_args l.here.tree b (within b p.w) k j l.here.next l.here.is in
    let s = args_spans l.here in
    omega arith

passing_all : {b : List ℕ} {n i k j : ℕ} → PastPre b n i → i ≤ j → ((w : ℕ) (x : ArgsHere b (within b w) n i) → Passed b n i k j w x) →
    Passing b n i k j
passing_all p h f = record { pre = p; on = h; room = passed_room p (f p.w p.here); short = p.listed.short; left = f }

pub passing_none : {b : List ℕ} {n i : ℕ} → PastPre b n i → Passing b n i n i
passing_none p = passing_all p (omega arith) (λ w x. record { here = x; ends = refl })

-- An operation: its two operands are open in its place.
pub passing_two : {b : List ℕ} {n i k j : ℕ} → Passing b n i k j → 0 < k → get_or b j 0 ≡ 0x12 → Passing b n i (k + 1) (j + 2)
passing_two {b} {n} {i} {k} {j} q h e =
    passing_all q.pre (omega (arith, q.on))
    (λ w x.
    let l = q.left w x in
    let y = args_view l.here h in
    let m = y.some in
    let z = operation_view y.head e in
    record {
      here = more_here (k + 1) k z.left (omega arith) (more_here k y.fewer z.right m (args_moved refl (sym z.next) y.rest));
      ends = sym y.next ∙ l.ends;
    })

-- A part without parts is passed over.
passing_one : {b : List ℕ} {n i k j m : ℕ} → Passing b n i k j → 0 < k → j ≤ m → ((w : ℕ) (x : ExprHere b (within b w) j) → x.next ≡ m) →
    Passing b n i (k - 1) m
passing_one {b} {n} {i} {k} {j} {m} q h a f =
    passing_all q.pre (omega (arith, q.on))
    (λ w x.
    let l = q.left w x in
    let y = args_view l.here h in
    let s = y.some in
    record { here = args_moved (omega arith) (sym (f w y.head)) y.rest; ends = sym y.next ∙ l.ends })

pub passing_constant : {b : List ℕ} {n i k j : ℕ} → Passing b n i k j → 0 < k → get_or b j 0 ≡ 0x10 → Passing b n i (k - 1) (j + 5)
passing_constant q h c = passing_one q h (omega arith) (λ w x. (constant_view x c).next)

-- The open part at j.
abbrev passing_head : {b : List ℕ} {n i k j : ℕ} (q : Passing b n i k j) → 0 < k → ExprHere b (within b q.pre.w) j
passing_head q h = (args_view (q.left q.pre.w q.pre.here).here h).head

pub passing_variable : {b : List ℕ} {n i k j : ℕ} → Passing b n i k j → 0 < k → (get_or b j 0 ≡ 0x12 → ⊥) → (get_or b j 0 ≡ 0x10 → ⊥) →
    (get_or b j 0 ≡ 0x13 → ⊥) → Passing b n i (k - 1) (j + 2)
passing_variable q h d e f =
    let c = expr_code (passing_head q h) in
    passing_one q h (omega arith) (λ w x. (variable_view x (omega arith)).next)

-- A call: its arguments are open in its place.
pub passing_call : {b : List ℕ} {n i k j p m : ℕ} → Passing b n i k j → 0 < k → get_or b j 0 ≡ 0x13 → p ≡ get_or b (j + 1) 0 → m ≡ (entry b p).parameters →
    Passing b n i (k - 1 + m) (j + 2)
passing_call {b} {n} {i} {k} {j} {p} {m} q h g d e =
    let c = q.pre.listed in
    let f : Called b j p m = record { callee = d; count = e } in
    passing_all q.pre (omega (arith, q.on))
    (λ w x.
    let l = q.left w x in
    let y = args_view l.here h in
    let s = y.some in
    let z = given_here c f g w y.head in
    record {
      here = args_moved (omega arith) refl (before_here m y.fewer z (args_moved refl (sym (call_view y.head g).next) y.rest));
      ends = sym y.next ∙ l.ends;
    })

pub passing_there : {b : List ℕ} {n i k j : ℕ} → Passing b n i k j → 0 < k → get_or b j 0 ≡ 0x13 → j + 1 < length b
passing_there q h g = (call_view (passing_head q h) g).there

pub passing_entry : {b : List ℕ} {n i k j p : ℕ} → Passing b n i k j → 0 < k → get_or b j 0 ≡ 0x13 → p ≡ get_or b (j + 1) 0 → 7 + 6 * p ≤ length b
passing_entry q h g e = omega (arith, (call_view (passing_head q h) g).known, q.pre.listed.room)

pub passing_returns : {b : List ℕ} {n i k j : ℕ} → Passing b n i k j → k ≤ 0 → PastPost b n i j
passing_returns {b} {n} {i} {k} {j} q h =
    record {
      ends = λ w x. let l = q.left w x in sym (no_args_view l.here (omega arith)).next ∙ l.ends;
      on = q.on;
      inside = omega (arith, q.room);
    }
