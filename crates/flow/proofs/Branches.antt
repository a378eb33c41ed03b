-- An if: both runs start from the same sets, under the condition's set too, and their sets are united.
use mathlib.Core.Path.{◌≡◌, refl, sym, ap, ap₂, subst, ◌∙◌}
use mathlib.Core.List.{List}
use Prim.Native.Nat.{ℕ, ◌+◌, ◌*◌, ◌≤◌}
use native.Mathlib.Omega.{arith}
use lib.ListN.{length, get_or}
use Rattle.meaning.specs.Tree.{loops, loops_in}
use Rattle.meaning.specs.Sets.{union}
use Rattle.meaning.specs.Flow.{after, needs, needs_in, joined, grow}
use Rattle.meaning.proofs.Needs.{grow_append}
use Rattle.book.proofs.Views.{branch_view}
use Rattle.flow.specs.Rows.{Wide}
use Rattle.flow.specs.Packed.{set_in, next_in, at_in, row_in}
use Rattle.flow.specs.Exprs.{ExprPre, ExprPost, ExprAnswer}
use Rattle.flow.specs.Walks.{Going, Standing, going, standing, CmdAt, RunAt, rules, used}
use Rattle.flow.specs.Walks.{CmdCodedPre, CmdPost, CmdAnswer, RunPre, RunPost, RunAnswer}
use Rattle.flow.proofs.Rows.{length_joined, take_joined}
use Rattle.flow.proofs.Commands.{run_moved, rows_both, ready_on, cmd_post}

-- The walk at the first run, and at the second from the same sets.
abbrev yes_at : Standing → ℕ → Standing
yes_at S m = standing m S.row S.new S.sets

abbrev no_at : Standing → Standing → Standing
no_at S T = standing T.at T.row T.new S.sets

module _ (G : Going) (S : Standing) (x : CmdAt G S) (h : get_or G.book S.at 0 ≡ 0x02)
    {v m : ℕ} (e : ExprPost G.book G.old S.sets (S.at + 1) v m) where
  abbrev yes_here : RunAt G (yes_at S m)
  yes_here = run_moved refl (e.ends G.width (branch_view x h).test) (branch_view x h).yes

  abbrev no_here : {u : ℕ} {T : Standing} → RunPost G u (yes_at S m) T → RunAt G (no_at S T)
  no_here p = run_moved (p.rows yes_here) (p.ends yes_here) (branch_view x h).no

branch_law : {G : Going} {S T U : Standing} {g v m u : ℕ} {sets : List ℕ} → CmdCodedPre 0x02 G S →
    ExprPost G.book G.old S.sets (S.at + 1) v m → u ≡ union g v → RunPost G u (yes_at S m) T → RunPost G u (no_at S T) U →
    sets ≡ joined union T.sets U.sets → CmdPost G g S (standing U.at U.row U.new sets)
unfolding needs after loops
branch_law {G} {S} {T} {U} {g} {v} {m} {u} {sets} p e f y z h =
    cmd_post p.pre
    (record { long = ap length h ∙ length_joined union T.sets U.sets (omega (arith, y.wide.long, z.wide.long)) ∙ y.wide.long })
    (λ x.
    let t = branch_view x p.is in
    rw (t.tree, ← e.gave G.width t.test, ← f, grow_append)
    (z.added (no_here G S x p.is e y)
    ∙ ap (λ (τ : List ℕ). grow τ (needs_in t.no.tree (rules G) (used G S) u)) (y.added (yes_here G S x p.is e))))
    (λ x.
    let t = branch_view x p.is in
    rw (
      t.tree,
      ← e.gave G.width t.test,
      ← f,
      h,
      take_joined union G.width T.sets U.sets (omega (arith, y.wide.long, z.wide.long)),
    )
    (ap₂ (joined union) (y.sets (yes_here G S x p.is e)) (z.sets (no_here G S x p.is e y))))
    (λ x. z.ends (no_here G S x p.is e y) ∙ sym (branch_view x p.is).next)
    (λ x.
    let t = branch_view x p.is in
    rw t.tree
    (z.rows (no_here G S x p.is e y)
    ∙ ap (λ (k : ℕ). k + G.width * loops_in t.no.tree) (y.rows (yes_here G S x p.is e))
    ∙ sym (rows_both S.row G.width (loops_in t.yes.tree) (loops_in t.no.tree))))

branch_room : {G : Going} {S : Standing} (p : CmdCodedPre 0x02 G S) →
    S.row + G.width * loops_in (branch_view p.pre.here p.is).yes.tree
    + G.width * loops_in (branch_view p.pre.here p.is).no.tree ≤ length G.old
unfolding loops
branch_room {G} {S} p =
    let t = branch_view p.pre.here p.is in
    rw (rows_both S.row G.width (loops_in t.yes.tree) (loops_in t.no.tree)) at (rw t.tree at p.pre.room)

yes_pre : {G : Going} {S : Standing} {v m : ℕ} → CmdCodedPre 0x02 G S → ExprPost G.book G.old S.sets (S.at + 1) v m →
    RunPre G (yes_at S m)
yes_pre {G} {S} p e =
    let k = branch_room p in
    record { ready = ready_on p.pre.ready refl p.pre.ready.wide; here = yes_here G S p.pre.here p.is e; room = omega arith }

no_pre : {G : Going} {S T : Standing} {v m u : ℕ} → CmdCodedPre 0x02 G S → ExprPost G.book G.old S.sets (S.at + 1) v m →
    RunPost G u (yes_at S m) T → RunPre G (no_at S T)
no_pre {G} {S} {T} p e y =
    let q = yes_here G S p.pre.here p.is e in
    record {
      ready = ready_on p.pre.ready y.long p.pre.ready.wide;
      here = no_here G S p.pre.here p.is e y;
      room =
          subst (λ (k : ℕ). k + G.width * loops_in (branch_view p.pre.here p.is).no.tree ≤ length G.old)
          (sym (y.rows q)) (branch_room p);
    }

-- What the code asks and gives.
pub branch_test : {b σ new sets : List ℕ} {i r w : ℕ} → CmdCodedPre 0x02 (going b σ w) (standing i r new sets) → ExprPre b σ (i + 1)
branch_test {w = w} p =
    record { contents = p.pre.ready.contents; w = w; narrow = p.pre.ready.narrow; here = (branch_view p.pre.here p.is).test }

pub branch_yes : {b σ new sets : List ℕ} {i r w t m : ℕ} → CmdCodedPre 0x02 (going b σ w) (standing i r new sets) →
    ExprAnswer b σ sets (i + 1) t → m ≡ next_in t → RunPre (going b σ w) (standing m r new sets)
branch_yes p e h = rw h (yes_pre p e.is)

-- The second run may start from any sets; `branch_returns` asks for those of the start.
pub branch_no : {b σ new sets new₁ sets₁ sets₂ : List ℕ} {i r w t m u y i₁ r₁ : ℕ} → Wide sets₂ →
    RunAnswer (going b σ w) u (standing m r new sets) new₁ sets₁ y → i₁ ≡ at_in y → r₁ ≡ row_in y → m ≡ next_in t →
    ExprAnswer b σ sets (i + 1) t → CmdCodedPre 0x02 (going b σ w) (standing i r new sets) →
    RunPre (going b σ w) (standing i₁ r₁ new₁ sets₂)
branch_no f y k l h e p =
    let q = no_pre p e.is (rw h at y.is) in
    rw (k, l) (record { ready = ready_on q.ready refl f; here = q.here; room = q.room })

pub branch_returns : {b σ new sets new₁ sets₁ new₂ sets₂ sets₃ : List ℕ} {i r w g t u m y i₁ r₁ z : ℕ} →
    CmdCodedPre 0x02 (going b σ w) (standing i r new sets) → ExprAnswer b σ sets (i + 1) t → u ≡ union g (set_in t) → m ≡ next_in t →
    RunAnswer (going b σ w) u (standing m r new sets) new₁ sets₁ y → i₁ ≡ at_in y → r₁ ≡ row_in y →
    RunAnswer (going b σ w) u (standing i₁ r₁ new₁ sets) new₂ sets₂ z → sets₃ ≡ joined union sets₁ sets₂ →
    CmdAnswer (going b σ w) g (standing i r new sets) new₂ sets₃ z
branch_returns p e f h y k l z q = record { is = branch_law p e.is f (rw h at y.is) (rw (k, l) at z.is) q }

-- The rows that are united are as wide as any: what a run has left, or what the if has found.
pub ran_wide : {G : Going} {S : Standing} {new sets : List ℕ} {g r : ℕ} → RunAnswer G g S new sets r → Wide sets
ran_wide y = y.is.wide

pub found_wide : {b σ new sets : List ℕ} {i r w : ℕ} → CmdCodedPre 0x02 (going b σ w) (standing i r new sets) → Wide sets
found_wide p = p.pre.ready.wide
