-- Assignment: the set of one variable is replaced.
use mathlib.Core.Path.{◌≡◌, refl, sym, ap, ◌∙◌}
use mathlib.Core.List.{List}
use Prim.Native.Nat.{ℕ, ◌+◌, ◌<◌}
use native.Mathlib.Nat.{mul-zero, add-zero}
use native.Mathlib.Omega.{arith}
use lib.ListN.{length, get_or, set, length-set}
use lib.Seq.{take-set-lt}
use lib.Bits.{bit_or}
use Rattle.meaning.specs.Tree.{loops}
use Rattle.meaning.specs.Sets.{empty, union}
use Rattle.meaning.specs.Flow.{flow, after, needs, grow}
use Rattle.meaning.proofs.Sets.{union_empty_l, union_comm}
use Rattle.book.proofs.Views.{assign_view}
use Rattle.book.proofs.Views.Bounds.{expr_spans}
use Rattle.flow.specs.Rows.{most_variables}
use Rattle.flow.specs.Packed.{set_in, next_in}
use Rattle.flow.specs.Exprs.{ExprPre, ExprPost, ExprAnswer}
use Rattle.flow.specs.Walks.{Going, Standing, going, standing, rules, used, CmdCodedPre, CmdPost, AssignPre, AssignPost}
use Rattle.flow.proofs.Exprs.{constant_law, variable_law, variable_facts}
use Rattle.flow.proofs.Commands.{cmd_post}

assign_law : {G : Going} {S : Standing} {g y u v m : ℕ} → CmdCodedPre 0x01 G S → y ≡ get_or G.book (S.at + 1) 0 →
    ExprPost G.book G.old S.sets (S.at + 2) v m → u ≡ union v g → CmdPost G g S (standing m S.row S.new (set S.sets y u))
unfolding needs grow after loops
assign_law {G} {S} {g} {y} {u} {v} {m} p k e f =
    cmd_post p.pre
    (record { long = length-set S.sets y u ∙ p.pre.ready.wide.long })
    (λ x. rw (assign_view x p.is).tree)
    (λ x.
    let z = assign_view x p.is in
    rw (z.tree, k, f, e.gave G.width z.given)
    (take-set-lt G.width S.sets (get_or G.book (S.at + 1) 0) (union (flow z.given.tree (rules G) (used G S)) g) z.known))
    (λ x. let z = assign_view x p.is in e.ends G.width z.given ∙ sym z.next)
    (λ x. rw ((assign_view x p.is).tree, mul-zero) (sym (add-zero S.row)))

assign_post : {b σ sets sets' : List ℕ} {i g next : ℕ} → AssignPre b σ i sets →
    ((new : List ℕ) (r w : ℕ) → CmdCodedPre 0x01 (going b σ w) (standing i r new sets) →
    CmdPost (going b σ w) g (standing i r new sets) (standing next r new sets')) → AssignPost b σ i sets g sets' next
assign_post p f = record { is = f; on = (f p.new p.row p.w p.coded).on }

pub assign_pre : {b σ sets : List ℕ} {i : ℕ} → AssignPre b σ i sets → ExprPre b σ (i + 2)
assign_pre p =
    let q = p.coded.pre in
    record { contents = q.ready.contents; w = p.w; narrow = q.ready.narrow; here = (assign_view q.here p.coded.is).given }

pub assign_returns : {b σ sets sets' : List ℕ} {i g y z u m : ℕ} → AssignPre b σ i sets → y ≡ get_or b (i + 1) 0 →
    ExprAnswer b σ sets (i + 2) z → u ≡ union g (set_in z) → sets' ≡ set sets y u → m ≡ next_in z → AssignPost b σ i sets g sets' m
assign_returns {g = g} {z = z} p k e f n h = assign_post p λ new r w q. rw (n, h) (assign_law q k e.is (f ∙ union_comm g (set_in z)))

-- A variable's set is taken as it stands.
pub assign_copied : {b σ sets sets' : List ℕ} {g i y z : ℕ} → AssignPre b σ i sets → y ≡ get_or b (i + 1) 0 → get_or b (i + 2) 0 ≡ 0x11 →
    z ≡ get_or b (i + 3) 0 → sets' ≡ set sets y (bit_or (get_or sets z 0) g) → AssignPost b σ i sets g sets' (i + 4)
unfolding union
assign_copied {b} {σ} {sets} {sets'} {g} {i} {y} {z} p k c e m =
    let f : z ≡ get_or b (i + 2 + 1) 0 = e ∙ ap (λ (n : ℕ). get_or b n 0) (omega arith) in
    let n : i + 4 ≡ i + 2 + 2 = omega arith in
    assign_post p λ new r w q. rw (m, n) (assign_law q k (variable_law (assign_pre p) c f refl) refl)

-- A constant has no set.
pub assign_constant : {b σ sets sets' : List ℕ} {g i y : ℕ} → AssignPre b σ i sets → y ≡ get_or b (i + 1) 0 → get_or b (i + 2) 0 ≡ 0x10 →
    sets' ≡ set sets y g → AssignPost b σ i sets g sets' (i + 7)
unfolding empty
assign_constant {b} {σ} {sets} {sets'} {g} {i} p k c m =
    let n : i + 7 ≡ i + 2 + 5 = omega arith in
    assign_post p λ new r w q. rw (m, n) (assign_law q k (constant_law sets (assign_pre p) c) (sym (union_empty_l g)))

-- What is read stands in the book, and the variables are the procedure's.
pub assign_code : {b σ sets : List ℕ} {i : ℕ} → AssignPre b σ i sets → i + 2 < length b
assign_code p = omega (arith, expr_spans (assign_pre p).here)

pub assign_name : {b σ sets : List ℕ} {i : ℕ} → AssignPre b σ i sets → i + 1 < length b
assign_name p = omega (arith, assign_code p)

pub assign_known : {b σ sets : List ℕ} {i y : ℕ} → AssignPre b σ i sets → y ≡ get_or b (i + 1) 0 → y < most_variables
assign_known p e = omega (arith, (assign_view p.coded.pre.here p.coded.is).known, p.coded.pre.ready.narrow)

pub copied_name : {b σ sets : List ℕ} {i : ℕ} → AssignPre b σ i sets → get_or b (i + 2) 0 ≡ 0x11 → i + 3 < length b
copied_name p c = omega (arith, (variable_facts (assign_pre p) c).there)

pub copied_known : {b σ sets : List ℕ} {i z : ℕ} → AssignPre b σ i sets → get_or b (i + 2) 0 ≡ 0x11 → z ≡ get_or b (i + 3) 0 → z < most_variables
copied_known {b} {σ} {sets} {i} {z} p c e =
    let f : z ≡ get_or b (i + 2 + 1) 0 = e ∙ ap (λ (n : ℕ). get_or b n 0) (omega arith) in
    omega (arith, (variable_facts (assign_pre p) c).known)
