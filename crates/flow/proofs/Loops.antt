-- A loop: the sets arrive at its row, the condition and the run start from the row as it stood, and the row is what the loop leaves.
use mathlib.Core.Path.{◌≡◌, refl, sym, ap, ◌∙◌}
use mathlib.Core.List.{List, ◌++◌}
use Prim.Native.Nat.{ℕ, ◌+◌, ◌*◌, ◌≤◌}
use native.Mathlib.Nat.{mul-one}
use native.Mathlib.Omega.{arith}
use lib.ListN.{length, get_or}
use Rattle.meaning.specs.Tree.{loops, loops_in}
use Rattle.meaning.specs.Sets.{union}
use Rattle.meaning.specs.Flow.{Need, after, needs, arriving, grow}
use Rattle.meaning.proofs.Needs.{grow_append}
use Rattle.book.proofs.Views.{cmd_code, loop_view}
use Rattle.flow.specs.Rows.{Held}
use Rattle.flow.specs.Packed.{set_in, next_in}
use Rattle.flow.specs.Exprs.{ExprPre, ExprPost, ExprAnswer}
use Rattle.flow.specs.Walks.{Going, Standing, going, standing, CmdAt, RunAt, rules}
use Rattle.flow.specs.Walks.{Raised, Arrived, CmdCodedPre, LoopPre, NestedPre, CmdPost, CmdAnswer, RunPre, RunPost, RunAnswer}
use Rattle.flow.proofs.Commands.{run_moved, rows_both, ready_on, cmd_post}

-- The walk at the loop's run, from its row.
abbrev inside_at : Going → Standing → ℕ → List ℕ → List ℕ → Standing
inside_at G S m new held = standing m (S.row + G.width) new held

abbrev inside_here : (G : Going) (S : Standing) (new held : List ℕ) {v m : ℕ} (x : CmdAt G S) → get_or G.book S.at 0 ≡ 0x03 →
    ExprPost G.book G.old held (S.at + 1) v m → RunAt G (inside_at G S m new held)
inside_here G S new held x h e = run_moved refl (e.ends G.width (loop_view x h).test) (loop_view x h).inside

loop_grow : {new₁ new₂ new₃ : List ℕ} (new : List ℕ) (ds bs cs : List (Need ℕ)) → new₁ ≡ grow new ds → new₂ ≡ grow new₁ bs →
    new₃ ≡ grow new₂ cs → new₃ ≡ grow new (ds ++ (bs ++ cs))
loop_grow {new₁} {new₂} {new₃} new ds bs cs p q t = rw (grow_append new ds (bs ++ cs), ← p, grow_append new₁ bs cs, ← q) t

repeat_law : {G : Going} {S T : Standing} {new₁ held new₃ held' : List ℕ} {g v m u : ℕ} → CmdCodedPre 0x03 G S →
    Raised S.new S.row G.width S.sets new₁ → Held G.old S.row G.width held →
    ExprPost G.book G.old held (S.at + 1) v m → u ≡ union g v → RunPost G u (inside_at G S m new₁ held) T →
    Raised T.new S.row G.width T.sets new₃ → Held G.old S.row G.width held' →
    CmdPost G g S (standing T.at T.row new₃ held')
unfolding needs after loops
repeat_law {G} {S} {T} {new₁} {held} {new₃} {held'} {g} {v} {m} {u} p a k e f y z l =
    cmd_post p.pre
    l.wide
    (λ x.
    let t = loop_view x p.is in
    let q = inside_here G S new₁ held x p.is e in
    rw (t.tree, ← k.same, ← e.gave G.width t.test, ← f)
    (loop_grow S.new _ _ _ (a.added G.old) (y.added q)
    (z.added G.old ∙ ap (λ (Γ : List ℕ). grow T.new (arriving (rules G) S.row Γ)) (y.sets q))))
    (λ x. rw (loop_view x p.is).tree l.same)
    (λ x. y.ends (inside_here G S new₁ held x p.is e) ∙ sym (loop_view x p.is).next)
    (λ x.
    let t = loop_view x p.is in
    rw t.tree
    (y.rows (inside_here G S new₁ held x p.is e)
    ∙ ap (λ (j : ℕ). S.row + j + G.width * loops_in t.inside.tree) (sym (mul-one G.width))
    ∙ sym (rows_both S.row G.width 1 (loops_in t.inside.tree))))

loop_room : {G : Going} {S : Standing} (p : CmdCodedPre 0x03 G S) →
    S.row + G.width + G.width * loops_in (loop_view p.pre.here p.is).inside.tree ≤ length G.old
unfolding loops
loop_room {G} {S} p =
    let t = loop_view p.pre.here p.is in
    rw mul-one at (rw (rows_both S.row G.width 1 (loops_in t.inside.tree)) at (rw t.tree at p.pre.room))

inside_pre : {G : Going} {S : Standing} {new₁ held : List ℕ} {v m : ℕ} → CmdCodedPre 0x03 G S →
    Raised S.new S.row G.width S.sets new₁ → Held G.old S.row G.width held →
    ExprPost G.book G.old held (S.at + 1) v m → RunPre G (inside_at G S m new₁ held)
inside_pre {G} {S} {new₁} {held} p a k e =
    record {
      ready = ready_on p.pre.ready a.long k.wide;
      here = inside_here G S new₁ held p.pre.here p.is e;
      room = loop_room p;
    }

-- What the code asks and gives.
pub repeat_test : {b σ new sets : List ℕ} {i r w : ℕ} → LoopPre (going b σ w) (standing i r new sets) → ExprPre b σ (i + 1)
repeat_test {w = w} p =
    let q = p.coded.pre in
    record { contents = q.ready.contents; w = w; narrow = q.ready.narrow; here = (loop_view q.here p.coded.is).test }

pub repeat_inside : {b σ new sets new₁ held : List ℕ} {i r w t m : ℕ} → LoopPre (going b σ w) (standing i r new sets) →
    Arrived σ new r w sets new₁ held → ExprAnswer b σ held (i + 1) t → m ≡ next_in t → RunPre (going b σ w) (standing m (r + w) new₁ held)
repeat_inside p a e h = rw h (inside_pre p.coded a.raised a.held e.is)

pub repeat_returns : {b σ new sets new₁ held new₂ sets₂ new₃ held' : List ℕ} {i r w g t u m z : ℕ} →
    LoopPre (going b σ w) (standing i r new sets) → Arrived σ new r w sets new₁ held → ExprAnswer b σ held (i + 1) t → m ≡ next_in t →
    u ≡ union g (set_in t) → RunAnswer (going b σ w) u (standing m (r + w) new₁ held) new₂ sets₂ z →
    Arrived σ new₂ r w sets₂ new₃ held' → CmdAnswer (going b σ w) g (standing i r new sets) new₃ held' z
repeat_returns p a e h f y z =
    record { is = repeat_law p.coded a.raised a.held e.is f (rw h at y.is) z.raised z.held }

-- A command that is neither an assignment nor an if.
pub nested_loop : {b σ new sets : List ℕ} {i r w : ℕ} → NestedPre (going b σ w) (standing i r new sets) → (get_or b i 0 ≡ 0x02 → ⊥) →
    LoopPre (going b σ w) (standing i r new sets)
nested_loop {b} {σ} {new} {sets} {i} {r} {w} p y =
    let h = cmd_code p.pre.here in
    let x = p.other in
    let c : CmdCodedPre 0x03 (going b σ w) (standing i r new sets) = record { pre = p.pre; there = p.there; is = omega arith } in
    record { coded = c; fits = omega (arith, loop_room c) }
