-- The walk of a run: what has been walked, and what is left.
use mathlib.Core.Path.{◌≡◌, refl, sym, ap, ap₂, ◌∙◌}
use mathlib.Core.List.{List}
use Prim.Native.Nat.{ℕ, ◌+◌, ◌*◌, ◌≤◌}
use native.Mathlib.Nat.{mul-zero, add-zero}
use native.Mathlib.Omega.{arith}
use lib.ListN.{length, get_or}
use Rattle.meaning.specs.Tree.{loops, loops_in}
use Rattle.meaning.specs.Flow.{after, afters, needs, needs_in, grow}
use Rattle.meaning.proofs.Needs.{grow_append}
use Rattle.book.proofs.Views.{run_code, stop_view, then_view}
use Rattle.book.proofs.Views.Bounds.{run_spans}
use Rattle.flow.specs.Rows.{Wide}
use Rattle.flow.specs.Walks.{Going, Standing, standing, RunAt, rules, used, CmdPre, CmdPost, RunPre, RunPost, RunLeft, Running}
use Rattle.flow.proofs.Commands.{run_moved, rows_both, ready_on}

running_all : {G : Going} {g : ℕ} {S T : Standing} → RunPre G S → Wide T.sets → length T.new ≡ length S.new → S.at ≤ T.at →
    ((x : RunAt G S) → RunLeft G g S T x) → Running G g S T
running_all p h e o f =
    let l = f p.here in
    record { pre = p; there = (run_code l.here).there; row = omega (arith, l.rows, p.room); wide = h; long = e; on = o; left = f }

left_more : {G : Going} {g : ℕ} {S T U : Standing} {x : RunAt G S} → RunLeft G g S T x → (get_or G.book T.at 0 ≡ 0 → ⊥) →
    CmdPost G g T U → RunLeft G g S U x
unfolding needs_in afters loops_in
left_more {G} {g} {S} {T} {U} {x} l h p =
    let t = then_view l.here h in
    let W = rules G in
    let Γ = used G T in
    record {
      here = run_moved (p.rows t.head) (p.ends t.head) t.rest;
      added =
          ap₂ (λ (τ Δ : List ℕ). grow τ (needs_in t.rest.tree W Δ g)) (p.added t.head) (p.sets t.head)
          ∙ sym (grow_append T.new (needs t.head.tree W Γ g) (needs_in t.rest.tree W (after t.head.tree W Γ g) g))
          ∙ ap (λ s. grow T.new (needs_in s W Γ g)) (sym t.tree)
          ∙ l.added;
      sets =
          ap (λ (Δ : List ℕ). afters t.rest.tree W Δ g) (p.sets t.head)
          ∙ ap (λ s. afters s W Γ g) (sym t.tree)
          ∙ l.sets;
      ends = sym t.next ∙ l.ends;
      rows =
          ap (λ (k : ℕ). k + G.width * loops_in t.rest.tree) (p.rows t.head)
          ∙ sym (rows_both T.row G.width (loops t.head.tree) (loops_in t.rest.tree))
          ∙ ap (λ s. T.row + G.width * loops_in s) (sym t.tree)
          ∙ l.rows;
    }

pub running_more : {G : Going} {g : ℕ} {S T U : Standing} → Running G g S T → (get_or G.book T.at 0 ≡ 0 → ⊥) → CmdPost G g T U →
    Running G g S U
running_more q h p =
    running_all q.pre p.wide (p.long ∙ q.long) (omega (arith, q.on, p.on)) (λ x. left_more (q.left x) h p)

pub running_done : {G : Going} {g : ℕ} {S T : Standing} → Running G g S T → get_or G.book T.at 0 ≡ 0 →
    RunPost G g S (standing (T.at + 1) T.row T.new T.sets)
unfolding needs_in afters loops_in grow
running_done {G} {g} {S} {T} q h =
    let p = q.pre in
    let y = q.left p.here in
    let n = run_spans p.here in
    let s = (stop_view y.here h).next in
    let e = y.ends in
    let W = rules G in
    let Γ = used G T in
    record {
      wide = q.wide;
      added = λ x. let l = q.left x in ap (λ s. grow T.new (needs_in s W Γ g)) (sym (stop_view l.here h).tree) ∙ l.added;
      sets = λ x. let l = q.left x in ap (λ s. afters s W Γ g) (sym (stop_view l.here h).tree) ∙ l.sets;
      ends = λ x. let l = q.left x in sym (stop_view l.here h).next ∙ l.ends;
      rows = λ x.
          let l = q.left x in
          sym (add-zero T.row)
          ∙ ap (λ (k : ℕ). T.row + k) (sym (mul-zero G.width))
          ∙ ap (λ s. T.row + G.width * loops_in s) (sym (stop_view l.here h).tree)
          ∙ l.rows;
      long = q.long;
      on = omega arith;
      inside = omega arith;
    }

-- What the walk of the next command asks.
pub running_pre : {G : Going} {g : ℕ} {S T : Standing} → Running G g S T → (get_or G.book T.at 0 ≡ 0 → ⊥) → CmdPre G T
unfolding loops_in
running_pre {G} {g} {S} {T} q h =
    let p = q.pre in
    let y = q.left p.here in
    let t = then_view y.here h in
    let k : T.row + G.width * loops t.head.tree + G.width * loops_in t.rest.tree ≡ S.row + G.width * loops_in p.here.tree =
    sym (rows_both T.row G.width (loops t.head.tree) (loops_in t.rest.tree))
    ∙ ap (λ s. T.row + G.width * loops_in s) (sym t.tree)
    ∙ y.rows in
    record { ready = ready_on p.ready q.long q.wide; here = t.head; room = omega (arith, p.room) }

pub running_none : {G : Going} {S : Standing} (g : ℕ) → RunPre G S → Running G g S S
running_none g p =
    running_all p p.ready.wide refl (omega arith)
    (λ x. record { here = x; added = refl; sets = refl; ends = refl; rows = refl })
