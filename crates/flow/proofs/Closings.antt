-- What a closing sequence adds to the summary: a return, a closing if, and a loop over the ordinary commands before them.
use mathlib.Core.Path.{◌≡◌, refl, sym, ap, ap₂, subst, ◌∙◌}
use mathlib.Core.List.{List}
use Prim.Native.Nat.{ℕ, ◌+◌, ◌*◌, ◌≤◌, ◌<◌}
use native.Mathlib.Nat.{mul-zero, add-zero}
use native.Mathlib.Omega.{arith}
use lib.ListN.{length, get_or, set}
use lib.Bits.{bit_or}
use Rattle.meaning.specs.Limits.{most_bytes}
use Rattle.meaning.specs.Tree.{loops, loops_of}
use Rattle.meaning.specs.Reading.{Scope}
use Rattle.meaning.specs.Sets.{empty, union}
use Rattle.meaning.specs.Flow.{after, needs, ends as returned, grow, at}
use Rattle.meaning.proofs.Sets.{union_comm}
use Rattle.meaning.proofs.Needs.{grow_append, length_grow}
use Rattle.book.proofs.Text.{ClosingHere}
use Rattle.book.proofs.Views.{closing_code, give_view, pick_view, first_view}
use Rattle.book.proofs.Views.Bounds.{closing_spans}
use Rattle.flow.specs.Rows.{Wide}
use Rattle.flow.specs.Copies.{most_places}
use Rattle.flow.specs.Packed.{set_in, next_in, at_in, row_in, Placed}
use Rattle.flow.specs.Exprs.{ExprPre, ExprPost, ExprAnswer}
use Rattle.flow.specs.Walks.{Going, Standing, going, standing, ClosingAt, rules, used, CmdPre}
use Rattle.flow.specs.Walks.{CmdPost, ClosingLeft, Nearing, ClosingPre, ClosingCodedPre, ClosingPost, ClosingAnswer}
use Rattle.flow.proofs.Commands.{rows_both, ready_on}

-- The same sequence, where its place is told otherwise.
abbrev closing_moved : {b : List ℕ} {v : Scope} {r q i j : ℕ} → r ≡ q → i ≡ j → ClosingHere b v q j → ClosingHere b v r i
closing_moved {b} {v} d e x = record { tree = x.tree; next = x.next; is = rw (d, e) x.is }

closing_post : {G : Going} {p g : ℕ} {S : Standing} {new' : List ℕ} {next r' : ℕ} → ClosingPre G p S →
    ((x : ClosingAt G S) → new' ≡ grow S.new (returned x.tree (rules G) p (used G S) g)) →
    ((x : ClosingAt G S) → next ≡ x.next) →
    ((x : ClosingAt G S) → r' ≡ S.row + G.width * loops_of x.tree) → ClosingPost G p g S new' next r'
closing_post {G} {p} {g} {S} c a e q =
    let n = closing_spans c.here in
    let m = e c.here in
    record {
      added = a;
      ends = e;
      rows = q;
      long = ap length (a c.here) ∙ length_grow S.new (returned c.here.tree (rules G) p (used G S) g);
      on = omega arith;
      inside = omega arith;
    }

-- A return.
give_law : {G : Going} {p g : ℕ} {S : Standing} {u v m : ℕ} → ClosingCodedPre 0x04 G p S →
    ExprPost G.book G.old S.sets (S.at + 1) v m → u ≡ union v g →
    ClosingPost G p g S (set S.new p (union (get_or S.new p 0) u)) m S.row
unfolding returned grow loops_of at empty
give_law {G} {p} {g} {S} q e f =
    closing_post q.pre
    (λ x. let t = give_view x q.is in rw (t.tree, ← e.gave G.width t.given, ← f))
    (λ x. let t = give_view x q.is in e.ends G.width t.given ∙ sym t.next)
    (λ x. rw ((give_view x q.is).tree, mul-zero) (sym (add-zero S.row)))

pub give_pre : {b σ new sets : List ℕ} {i r w p : ℕ} → ClosingCodedPre 0x04 (going b σ w) p (standing i r new sets) → ExprPre b σ (i + 1)
give_pre {w = w} q =
    record { contents = q.pre.ready.contents; w = w; narrow = q.pre.ready.narrow; here = (give_view q.pre.here q.is).given }

pub give_returns : {b σ new sets : List ℕ} {i r w p g u t m z : ℕ} → ClosingCodedPre 0x04 (going b σ w) p (standing i r new sets) →
    ExprAnswer b σ sets (i + 1) t → u ≡ union g (set_in t) → m ≡ next_in t → Placed m r z →
    ClosingAnswer (going b σ w) p g (standing i r new sets) (set new p (bit_or (get_or new p 0) u)) z
unfolding union
give_returns {g = g} {t = t} q e f h z = record { is = rw (z.at_is, z.row_is, h) (give_law q e.is (f ∙ union_comm g (set_in t))) }

pub give_at : {b σ new sets : List ℕ} {i r w p t m : ℕ} → ClosingCodedPre 0x04 (going b σ w) p (standing i r new sets) →
    ExprAnswer b σ sets (i + 1) t → m ≡ next_in t → m ≤ most_bytes
give_at q e h = omega (arith, e.is.inside, q.pre.ready.contents.listed.short)

pub give_row : {b σ new sets : List ℕ} {i r w p : ℕ} → ClosingCodedPre 0x04 (going b σ w) p (standing i r new sets) → r ≤ most_places
give_row q = omega (arith, q.pre.room, q.pre.ready.contents.places)

pub give_place : {b σ new sets : List ℕ} {i r w p : ℕ} → ClosingCodedPre 0x04 (going b σ w) p (standing i r new sets) → p < most_places
give_place q = omega (arith, q.pre.result, q.pre.ready.contents.places)

-- A closing if: both sequences start from the same sets.
abbrev yes_at : Standing → ℕ → Standing
yes_at S m = standing m S.row S.new S.sets

abbrev no_at : Standing → List ℕ → ℕ → ℕ → Standing
no_at S new₁ i₁ r₁ = standing i₁ r₁ new₁ S.sets

module _ (G : Going) (S : Standing) (x : ClosingAt G S) (h : get_or G.book S.at 0 ≡ 0x05)
    {v m : ℕ} (e : ExprPost G.book G.old S.sets (S.at + 1) v m) where
  abbrev yes_here : ClosingAt G (yes_at S m)
  yes_here = closing_moved refl (e.ends G.width (pick_view x h).test) (pick_view x h).yes

  abbrev no_here : {new₁ : List ℕ} {p u i₁ r₁ : ℕ} → ClosingPost G p u (yes_at S m) new₁ i₁ r₁ → ClosingAt G (no_at S new₁ i₁ r₁)
  no_here q = closing_moved (q.rows yes_here) (q.ends yes_here) (pick_view x h).no

pick_law : {G : Going} {S : Standing} {new₁ new₂ : List ℕ} {p g v m u i₁ r₁ i₂ r₂ : ℕ} → ClosingCodedPre 0x05 G p S →
    ExprPost G.book G.old S.sets (S.at + 1) v m → u ≡ union g v → ClosingPost G p u (yes_at S m) new₁ i₁ r₁ →
    ClosingPost G p u (no_at S new₁ i₁ r₁) new₂ i₂ r₂ → ClosingPost G p g S new₂ i₂ r₂
unfolding returned loops_of
pick_law {G} {S} {p = p} {u = u} q e f y z =
    closing_post q.pre
    (λ x.
    let t = pick_view x q.is in
    rw (t.tree, ← e.gave G.width t.test, ← f, grow_append)
    (z.added (no_here G S x q.is e y)
    ∙ ap (λ (τ : List ℕ). grow τ (returned t.no.tree (rules G) p (used G S) u)) (y.added (yes_here G S x q.is e))))
    (λ x. z.ends (no_here G S x q.is e y) ∙ sym (pick_view x q.is).next)
    (λ x.
    let t = pick_view x q.is in
    rw t.tree
    (z.rows (no_here G S x q.is e y)
    ∙ ap (λ (k : ℕ). k + G.width * loops_of t.no.tree) (y.rows (yes_here G S x q.is e))
    ∙ sym (rows_both S.row G.width (loops_of t.yes.tree) (loops_of t.no.tree))))

pick_room : {G : Going} {S : Standing} {p : ℕ} (q : ClosingCodedPre 0x05 G p S) →
    S.row + G.width * loops_of (pick_view q.pre.here q.is).yes.tree
    + G.width * loops_of (pick_view q.pre.here q.is).no.tree ≤ length G.old
unfolding loops_of
pick_room {G} {S} q =
    let t = pick_view q.pre.here q.is in
    rw (rows_both S.row G.width (loops_of t.yes.tree) (loops_of t.no.tree)) at (rw t.tree at q.pre.room)

yes_pre : {G : Going} {S : Standing} {p v m : ℕ} → ClosingCodedPre 0x05 G p S → ExprPost G.book G.old S.sets (S.at + 1) v m →
    ClosingPre G p (yes_at S m)
yes_pre {G} {S} q e =
    let k = pick_room q in
    record {
      ready = ready_on q.pre.ready refl q.pre.ready.wide;
      here = yes_here G S q.pre.here q.is e;
      room = omega arith;
      result = q.pre.result;
    }

no_pre : {G : Going} {S : Standing} {new₁ : List ℕ} {p v m u i₁ r₁ : ℕ} → ClosingCodedPre 0x05 G p S →
    ExprPost G.book G.old S.sets (S.at + 1) v m → ClosingPost G p u (yes_at S m) new₁ i₁ r₁ → ClosingPre G p (no_at S new₁ i₁ r₁)
no_pre {G} {S} q e y =
    let x = yes_here G S q.pre.here q.is e in
    record {
      ready = ready_on q.pre.ready y.long q.pre.ready.wide;
      here = no_here G S q.pre.here q.is e y;
      room =
          subst (λ (k : ℕ). k + G.width * loops_of (pick_view q.pre.here q.is).no.tree ≤ length G.old)
          (sym (y.rows x)) (pick_room q);
      result = q.pre.result;
    }

pub pick_test : {b σ new sets : List ℕ} {i r w p : ℕ} → ClosingCodedPre 0x05 (going b σ w) p (standing i r new sets) → ExprPre b σ (i + 1)
pick_test {w = w} q =
    record { contents = q.pre.ready.contents; w = w; narrow = q.pre.ready.narrow; here = (pick_view q.pre.here q.is).test }

pub pick_yes : {b σ new sets : List ℕ} {i r w p t m : ℕ} → ClosingCodedPre 0x05 (going b σ w) p (standing i r new sets) →
    ExprAnswer b σ sets (i + 1) t → m ≡ next_in t → ClosingPre (going b σ w) p (standing m r new sets)
pick_yes p e h = rw h (yes_pre p e.is)

pub pick_no : {b σ new sets new₁ : List ℕ} {i r w p t m u y i₁ r₁ : ℕ} →
    ClosingAnswer (going b σ w) p u (standing m r new sets) new₁ y → i₁ ≡ at_in y → r₁ ≡ row_in y → m ≡ next_in t →
    ExprAnswer b σ sets (i + 1) t → ClosingCodedPre 0x05 (going b σ w) p (standing i r new sets) →
    ClosingPre (going b σ w) p (standing i₁ r₁ new₁ sets)
pick_no y k l h e p = rw (k, l) (no_pre p e.is (rw h at y.is))

pub pick_returns : {b σ new sets new₁ new₂ : List ℕ} {i r w p g t u m y i₁ r₁ z : ℕ} →
    ClosingCodedPre 0x05 (going b σ w) p (standing i r new sets) → ExprAnswer b σ sets (i + 1) t → u ≡ union g (set_in t) → m ≡ next_in t →
    ClosingAnswer (going b σ w) p u (standing m r new sets) new₁ y → i₁ ≡ at_in y → r₁ ≡ row_in y →
    ClosingAnswer (going b σ w) p u (standing i₁ r₁ new₁ sets) new₂ z → ClosingAnswer (going b σ w) p g (standing i r new sets) new₂ z
pick_returns p e f h y k l z = record { is = pick_law p e.is f (rw h at y.is) (rw (k, l) at z.is) }

nearing_all : {G : Going} {p g : ℕ} {S T : Standing} → ClosingPre G p S → Wide T.sets → length T.new ≡ length S.new →
    S.at ≤ T.at → ((x : ClosingAt G S) → ClosingLeft G p g S T x) → Nearing G p g S T
nearing_all c h e o f =
    record { pre = c; there = (closing_code (f c.here).here).there; wide = h; long = e; on = o; left = f }

left_more : {G : Going} {p g : ℕ} {S T U : Standing} {x : ClosingAt G S} → ClosingLeft G p g S T x → get_or G.book T.at 0 < 0x04 →
    CmdPost G g T U → ClosingLeft G p g S U x
unfolding returned loops_of
left_more {G} {p} {g} {S} {T} {U} {x} l h q =
    let t = first_view l.here h in
    let W = rules G in
    let Γ = used G T in
    record {
      here = closing_moved (q.rows t.head) (q.ends t.head) t.rest;
      added =
          ap₂ (λ (τ Δ : List ℕ). grow τ (returned t.rest.tree W p Δ g)) (q.added t.head) (q.sets t.head)
          ∙ sym (grow_append T.new (needs t.head.tree W Γ g) (returned t.rest.tree W p (after t.head.tree W Γ g) g))
          ∙ ap (λ s. grow T.new (returned s W p Γ g)) (sym t.tree)
          ∙ l.added;
      ends = sym t.next ∙ l.ends;
      rows =
          ap (λ (k : ℕ). k + G.width * loops_of t.rest.tree) (q.rows t.head)
          ∙ sym (rows_both T.row G.width (loops t.head.tree) (loops_of t.rest.tree))
          ∙ ap (λ s. T.row + G.width * loops_of s) (sym t.tree)
          ∙ l.rows;
    }

pub nearing_more : {G : Going} {p g : ℕ} {S T U : Standing} → Nearing G p g S T → get_or G.book T.at 0 < 0x04 → CmdPost G g T U →
    Nearing G p g S U
nearing_more q h c =
    nearing_all q.pre c.wide (c.long ∙ q.long) (omega (arith, q.on, c.on)) (λ x. left_more (q.left x) h c)

-- What the walk of what is left asks: of the next command, of the closing command.
pub nearing_pre : {G : Going} {p g : ℕ} {S T : Standing} → Nearing G p g S T → ClosingPre G p T
nearing_pre q =
    let c = q.pre in
    let y = q.left c.here in
    record { ready = ready_on c.ready q.long q.wide; here = y.here; room = omega (arith, c.room, y.rows); result = c.result }

pub first_pre : {G : Going} {p : ℕ} {S : Standing} → ClosingPre G p S → get_or G.book S.at 0 < 0x04 → CmdPre G S
unfolding loops_of
first_pre {G} {p} {S} c h =
    let t = first_view c.here h in
    let k = rw (rows_both S.row G.width (loops t.head.tree) (loops_of t.rest.tree)) at (rw t.tree at c.room) in
    record { ready = c.ready; here = t.head; room = omega arith }

pub nearing_none : {G : Going} {p : ℕ} {S : Standing} (g : ℕ) → ClosingPre G p S → Nearing G p g S S
nearing_none g c =
    nearing_all c c.ready.wide refl (omega arith) (λ x. record { here = x; added = refl; ends = refl; rows = refl })

-- The closing command does what is left.
pub nearing_returns : {G : Going} {p g : ℕ} {S : Standing} {new sets new' : List ℕ} {i r z : ℕ} → Nearing G p g S (standing i r new sets) →
    ClosingAnswer G p g (standing i r new sets) new' z → ClosingAnswer G p g S new' z
nearing_returns q a =
    let z = a.is in
    record {
      is =
          closing_post q.pre
          (λ x. let l = q.left x in z.added l.here ∙ l.added)
          (λ x. let l = q.left x in z.ends l.here ∙ l.ends)
          (λ x. let l = q.left x in z.rows l.here ∙ l.rows);
    }
