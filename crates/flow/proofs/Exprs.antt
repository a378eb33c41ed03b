-- The set of an expression, form by form, and the loop over its parts: what the walk of them gives is what the rules give.
use mathlib.Core.Path.{◌≡◌, refl, sym, ap, ◌∙◌}
use mathlib.Core.List.{List, [], ◌∷◌}
use Prim.Native.Nat.{ℕ, suc, ◌+◌, ◌-◌, ◌≤◌, ◌<◌}
use native.Mathlib.Omega.{arith}
use lib.ListN.{length, get_or, take}
use lib.Seq.{get_or-take}
use lib.Bits.{bit_or}
use Rattle.meaning.specs.Limits.{most_bytes}
use Rattle.meaning.specs.Reading.{Scope, arities, entries, entry}
use Rattle.meaning.specs.Sets.{empty, union}
use Rattle.meaning.specs.Flow.{Walk, by_sets, flow, flows}
use Rattle.meaning.specs.Tree.{Args, nil, arg}
use Rattle.meaning.proofs.Sets.{union_assoc, union_empty_l, union_empty_r}
use Rattle.book.proofs.Text.{ExprHere, ArgsHere, ArgsAt}
use Rattle.book.proofs.Views.{expr_code, constant_view, variable_view, operation_view, call_view, no_args_view, args_view}
use Rattle.book.proofs.Views.Bounds.{expr_spans, args_spans}
use Rattle.flow.specs.Rows.{most_variables}
use Rattle.flow.specs.Exprs.{within, Listed, ExprPre, CodedPre, ExprPost, ExprAnswer}
use Rattle.flow.specs.Packed.{set_in, next_in, Flowed}

abbrev pub args_moved : {b : List ℕ} {v : Scope} {n m i j : ℕ} → n ≡ m → i ≡ j → ArgsHere b v m j → ArgsHere b v n i
args_moved {b} {v} d e x = record { tree = x.tree; next = x.next; is = rw (d, e) x.is }

-- What is given and where it ends, and so where the walk stands.
pub expr_post : {b σ bits : List ℕ} {i given next : ℕ} → ExprPre b σ i →
    ((w : ℕ) (x : ExprHere b (within b w) i) → given ≡ flow x.tree (by_sets σ w) (take w bits)) →
    ((w : ℕ) (x : ExprHere b (within b w) i) → next ≡ x.next) → ExprPost b σ bits i given next
expr_post p g e =
    let s = expr_spans p.here in
    let n = e p.w p.here in
    record { gave = g; ends = e; on = omega arith; inside = omega arith }

pub constant_law : {b σ : List ℕ} (bits : List ℕ) {i : ℕ} → ExprPre b σ i → get_or b i 0 ≡ 0x10 → ExprPost b σ bits i 0 (i + 5)
unfolding flow empty
constant_law bits p h =
    expr_post p (λ w x. rw (constant_view x h).tree) (λ w x. sym (constant_view x h).next)

pub variable_law : {b σ bits : List ℕ} {i y s : ℕ} → ExprPre b σ i → get_or b i 0 ≡ 0x11 → y ≡ get_or b (i + 1) 0 → s ≡ get_or bits y 0 →
    ExprPost b σ bits i s (i + 2)
unfolding flow empty
variable_law {b} {σ} {bits} {i} {y} {s} p h k e =
    expr_post p
    (λ w x. rw ((variable_view x h).tree, e, k) (sym (get_or-take w bits (get_or b (i + 1) 0) 0 (variable_view x h).known)))
    (λ w x. sym (variable_view x h).next)

pub record VariableFacts (b : List ℕ) (i : ℕ) : Type 0 where
  pub there : i + 1 < length b
  pub known : get_or b (i + 1) 0 < most_variables

pub variable_facts : {b σ : List ℕ} {i : ℕ} → ExprPre b σ i → get_or b i 0 ≡ 0x11 → VariableFacts b i
variable_facts p h =
    let y = variable_view p.here h in
    let k = y.known in
    let n = p.narrow in
    record { there = y.there; known = omega arith }

-- Each part takes a byte at the least, so no more parts are open than bytes are left.
pub counted_args : (es : Args) (b : List ℕ) (v : Scope) (n at next : ℕ) → ArgsAt es b v n at next → at + n ≤ next
unfolding ArgsAt
counted_args nil b v n at next x = omega arith
counted_args (arg e es) b v n at next x =
    let h = expr_spans (record { tree = e; next = x.mid; is = x.head }) in
    let k = counted_args es b v x.fewer x.mid next x.rest in
    omega arith

-- No part, and one part before others.
pub none_at : (b : List ℕ) (v : Scope) (i : ℕ) → i ≤ length b → ArgsAt nil b v 0 i i
unfolding ArgsAt
none_at b v i h = record { none = refl; fits = h; ends = refl }

abbrev pub none_here : {b : List ℕ} {v : Scope} (i : ℕ) → i ≤ length b → ArgsHere b v 0 i
none_here {b} {v} i h = record { tree = nil; next = i; is = none_at b v i h }

pub more_at : {b : List ℕ} {v : Scope} (k m : ℕ) {i : ℕ} (x : ExprHere b v i) → k ≡ suc m → (y : ArgsHere b v m x.next) →
    ArgsAt (arg x.tree y.tree) b v k i y.next
unfolding ArgsAt
more_at k m x e y = record { fewer = m; some = e; mid = x.next; head = x.is; rest = y.is }

abbrev pub more_here : {b : List ℕ} {v : Scope} (k m : ℕ) {i : ℕ} (x : ExprHere b v i) → k ≡ suc m → ArgsHere b v m x.next → ArgsHere b v k i
more_here k m x e y = record { tree = arg x.tree y.tree; next = y.next; is = more_at k m x e y }

-- The arguments of a call stand before the parts that were open behind it.
unfoldable pub before : Args → Args → Args
before nil fs = fs
before (arg e es) fs = arg e (before es fs)

pub before_at : (es fs : Args) (b : List ℕ) (v : Scope) (n m at mid next : ℕ) → ArgsAt es b v n at mid → ArgsAt fs b v m mid next →
    ArgsAt (before es fs) b v (n + m) at next
unfolding ArgsAt before
before_at nil fs b v n m at mid next x y =
    let e : n + m ≡ m = omega (arith, x.none) in
    rw (e, ← x.ends) y
before_at (arg e es) fs b v n m at mid next x y =
    let k = x.some in
    record {
      fewer = x.fewer + m;
      some = omega arith;
      mid = x.mid;
      head = x.head;
      rest = before_at es fs b v x.fewer m x.mid mid next x.rest y;
    }

abbrev pub before_here : {b : List ℕ} {v : Scope} (n m : ℕ) {i : ℕ} (x : ArgsHere b v n i) → ArgsHere b v m x.next → ArgsHere b v (n + m) i
before_here {b} {v} n m {i} x y =
    record {
      tree = before x.tree y.tree;
      next = y.next;
      is = before_at x.tree y.tree b v n m i x.next y.next x.is y.is;
    }

pub length_flows : (es : Args) (b : List ℕ) (v : Scope) (n at next : ℕ) (W : Walk ℕ) (Γ : List ℕ) → ArgsAt es b v n at next → length (flows es W Γ) ≡ n
unfolding flows ArgsAt
length_flows nil b v n at next W Γ x = sym x.none
length_flows (arg e es) b v n at next W Γ x = ap suc (length_flows es b v x.fewer x.mid next W Γ x.rest) ∙ sym x.some

-- What the parts still open add: the union of their sets.
unfoldable pub all : List ℕ → ℕ
all [] = empty
all (s ∷ l) = union s (all l)

-- Parts still open, as the arguments of a call stand: k of them, one after the other.
pub record Opened (b σ bits : List ℕ) (i k j s w : ℕ) (x : ExprHere b (within b w) i) : Type 0 where
  pub here : ArgsHere b (within b w) k j
  pub gave : union s (all (flows here.tree (by_sets σ w) (take w bits))) ≡ flow x.tree (by_sets σ w) (take w bits)
  pub ends : here.next ≡ x.next

-- The walk of the expression at i, where k parts are still open, the next of them at j, and s is the set of those that are closed.
pub record Open (b σ bits : List ℕ) (i k j s : ℕ) : Type 0 where
  pub pre : ExprPre b σ i
  pub on : i ≤ j
  pub room : j + k ≤ length b
  pub short : length b ≤ most_bytes
  pub left : (w : ℕ) (x : ExprHere b (within b w) i) → Opened b σ bits i k j s w x

opened_room : {b σ bits : List ℕ} {i k j s : ℕ} (p : ExprPre b σ i) → Opened b σ bits i k j s p.w p.here → j + k ≤ length b
opened_room {b} {σ} {bits} {i} {k} {j} p l =
    let h = counted_args l.here.tree b (within b p.w) k j l.here.next l.here.is in
    let n = args_spans l.here in
    omega arith

open_all : {b σ bits : List ℕ} {i k j s : ℕ} → ExprPre b σ i → i ≤ j → ((w : ℕ) (x : ExprHere b (within b w) i) → Opened b σ bits i k j s w x) →
    Open b σ bits i k j s
open_all p h f = record { pre = p; on = h; room = opened_room p (f p.w p.here); short = p.contents.listed.short; left = f }

-- At first the expression itself is open.
pub open_none : {b σ : List ℕ} (bits : List ℕ) {i : ℕ} → ExprPre b σ i → Open b σ bits i 1 i 0
unfolding flows all empty
open_none {b} {σ} bits {i} p =
    open_all p (omega arith)
    (λ w x. record {
      here = more_here 1 0 x refl (none_here x.next (expr_spans x).within);
      gave = union_empty_l (union (flow x.tree (by_sets σ w) (take w bits)) 0) ∙ union_empty_r (flow x.tree (by_sets σ w) (take w bits));
      ends = refl;
    })

-- An operation: its two operands are open in its place.
pub open_two : {b σ bits : List ℕ} {i k j s : ℕ} → Open b σ bits i k j s → 0 < k → get_or b j 0 ≡ 0x12 → Open b σ bits i (k + 1) (j + 2) s
unfolding flow flows all
open_two {b} {σ} {bits} {i} {k} {j} {s} q h e =
    open_all q.pre (omega (arith, q.on))
    (λ w x.
    let l = q.left w x in
    let y = args_view l.here h in
    let n = y.some in
    let z = operation_view y.head e in
    let W = by_sets σ w in
    let Γ = take w bits in
    record {
      here = more_here (k + 1) k z.left (omega arith) (more_here k y.fewer z.right n (args_moved refl (sym z.next) y.rest));
      gave =
          ap (union s) (sym (union_assoc (flow z.left.tree W Γ) (flow z.right.tree W Γ) (all (flows y.rest.tree W Γ))))
          ∙ ap (λ t. union s (union (flow t W Γ) (all (flows y.rest.tree W Γ)))) (sym z.tree)
          ∙ ap (λ t. union s (all (flows t W Γ))) (sym y.tree)
          ∙ l.gave;
      ends = sym y.next ∙ l.ends;
    })

-- A part whose set is known is closed.
open_one : {b σ bits : List ℕ} {i k j s u v m : ℕ} → Open b σ bits i k j s → 0 < k → ExprPost b σ bits j v m → u ≡ union s v →
    Open b σ bits i (k - 1) m u
unfolding flows all
open_one {b} {σ} {bits} {i} {k} {j} {s} {u} {v} {m} q h p e =
    open_all q.pre (omega (arith, q.on, p.on))
    (λ w x.
    let l = q.left w x in
    let y = args_view l.here h in
    let n = y.some in
    let W = by_sets σ w in
    let Γ = take w bits in
    record {
      here = args_moved (omega arith) (p.ends w y.head) y.rest;
      gave =
          ap (λ (t : ℕ). union t (all (flows y.rest.tree W Γ))) e
          ∙ union_assoc s v (all (flows y.rest.tree W Γ))
          ∙ ap (λ (t : ℕ). union s (union t (all (flows y.rest.tree W Γ)))) (p.gave w y.head)
          ∙ ap (λ t. union s (all (flows t W Γ))) (sym y.tree)
          ∙ l.gave;
      ends = sym y.next ∙ l.ends;
    })

-- Where the next open part stands.
open_pre : {b σ bits : List ℕ} {i k j s : ℕ} → Open b σ bits i k j s → 0 < k → ExprPre b σ j
open_pre q h =
    let p = q.pre in
    record { contents = p.contents; w = p.w; narrow = p.narrow; here = (args_view (q.left p.w p.here).here h).head }

pub open_variable : {b σ bits : List ℕ} {i k j s y : ℕ} → Open b σ bits i k j s → 0 < k → get_or b j 0 ≡ 0x11 → y ≡ get_or b (j + 1) 0 →
    Open b σ bits i (k - 1) (j + 2) (bit_or s (get_or bits y 0))
unfolding union
open_variable q h c e = open_one q h (variable_law (open_pre q h) c e refl) refl

pub open_variable_there : {b σ bits : List ℕ} {i k j s : ℕ} → Open b σ bits i k j s → 0 < k → get_or b j 0 ≡ 0x11 → j + 1 < length b
open_variable_there q h c = (variable_view (open_pre q h).here c).there

pub open_variable_known : {b σ bits : List ℕ} {i k j s y : ℕ} → Open b σ bits i k j s → 0 < k → get_or b j 0 ≡ 0x11 → y ≡ get_or b (j + 1) 0 →
    y < most_variables
open_variable_known q h c e = omega (arith, (variable_view (open_pre q h).here c).known, (open_pre q h).narrow)

pub open_constant : {b σ bits : List ℕ} {i k j s : ℕ} → Open b σ bits i k j s → 0 < k → get_or b j 0 ≡ 0x10 → Open b σ bits i (k - 1) (j + 5) s
unfolding empty
open_constant {b} {σ} {bits} {i} {k} {j} {s} q h c = open_one q h (constant_law bits (open_pre q h) c) (sym (union_empty_r s))

-- The last code that an expression may have.
pub open_call_pre : {b σ bits : List ℕ} {i k j s : ℕ} → Open b σ bits i k j s → 0 < k → (get_or b j 0 ≡ 0x12 → ⊥) → (get_or b j 0 ≡ 0x11 → ⊥) →
    (get_or b j 0 ≡ 0x10 → ⊥) → CodedPre 0x13 b σ j
open_call_pre q h x y z =
    let p = open_pre q h in
    let e = expr_code p.here in
    record { pre = p; there = e.there; is = omega arith }

pub open_call : {b σ bits : List ℕ} {i k j s r v m : ℕ} → Open b σ bits i k j s → 0 < k → ExprAnswer b σ bits j r → v ≡ set_in r → m ≡ next_in r →
    Open b σ bits i (k - 1) m (bit_or s v)
unfolding union
open_call {b} {σ} {bits} {i} {k} {j} {s} {r} {v} {m} q h p e f = rw (e, f) (open_one q h p.is refl)

-- Where p is the procedure called and n its parameters.
pub record Called (b : List ℕ) (i p n : ℕ) : Type 0 where
  pub callee : p ≡ get_or b (i + 1) 0
  pub count : n ≡ (entry b p).parameters

-- The arguments are counted by the contents.
pub counted : {b : List ℕ} {i p n : ℕ} → Listed b → Called b i p n → get_or b i 0 ≡ 0x13 → (w : ℕ) (x : ExprHere b (within b w) i) →
    n ≡ get_or (arities (entries b)) (get_or b (i + 1) 0) 0
counted {b} {i} c k h w x =
    k.count ∙ ap (λ (q : ℕ). (entry b q).parameters) k.callee ∙ sym (c.arity (get_or b (i + 1) 0) (call_view x h).known)

abbrev pub given_here : {b : List ℕ} {i p n : ℕ} → Listed b → Called b i p n → get_or b i 0 ≡ 0x13 → (w : ℕ) (x : ExprHere b (within b w) i) →
    ArgsHere b (within b w) n (i + 2)
given_here c k h w x = args_moved (counted c k h w x) refl (call_view x h).given

pub flowed_post : {b σ bits : List ℕ} {i s n r : ℕ} → ExprPost b σ bits i s n → Flowed s n r → ExprAnswer b σ bits i r
flowed_post p f = record { is = rw (f.set_is, f.next_is) p }

pub open_returns : {b σ bits : List ℕ} {i k j s r : ℕ} → Open b σ bits i k j s → k ≤ 0 → Flowed s j r → ExprAnswer b σ bits i r
unfolding flows all empty
open_returns {b} {σ} {bits} {i} {k} {j} {s} q h f =
    flowed_post
    (expr_post q.pre
    (λ w x.
    let l = q.left w x in
    sym (union_empty_r s)
    ∙ ap (λ t. union s (all (flows t (by_sets σ w) (take w bits)))) (sym (no_args_view l.here (omega arith)).tree)
    ∙ l.gave)
    (λ w x. let l = q.left w x in sym (no_args_view l.here (omega arith)).next ∙ l.ends))
    f
