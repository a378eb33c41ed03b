-- What a command comes to: an assignment, an if. (Loops stand in Turns.)
use Rattle.std.proofs.Common.{◌≡◌, ℕ, suc, ◌+◌, ◌-◌, ◌*◌, ◌<◌, ◌≤◌, List, length, get_or, take, set, sym, refl, ◌∙◌, arith, length-set}
use native.Mathlib.Decide.{ℕ_discrete}
use lib.Seq.{take-set-lt}
use Rattle.meaning.specs.Tree.{Cmd, assign, branch, loop, loops_in}
use Rattle.meaning.specs.Running.{tick, Callee, turns, act, acts, runs}
use Rattle.book.proofs.Text.{RunHere}
use Rattle.book.proofs.Views.{assign_view, branch_view, cmd_code, run_code}
use Rattle.book.proofs.Views.Bounds.{expr_spans, run_spans}
use Rattle.runner.specs.Outcome.{leaves}
use Rattle.runner.specs.Opened.{Opened, book_of, in_scope}
use Rattle.runner.specs.Answer.{answer_of, Ends, HasLeft, HasResult}
use Rattle.runner.specs.Frame.{cells, depths}
use Rattle.runner.specs.Parts.{Ready, EvalPre, CmdPre, CmdFormPre, CmdsPre, EvalPost, CmdPost, CmdsPost}
use Rattle.runner.specs.Skipping.{SomeCmd}
use Rattle.runner.specs.Jumping.{Jumps, SomeIf, JumpPre, TakenPost}
use Rattle.runner.proofs.Fall.{fall, fall_bytes, fall_steps}
use Rattle.runner.proofs.Packing.{has_ended, not_ended}
use Rattle.runner.proofs.Outcomes.{stop, go, taken, not_taken, no_step, before_one, left_over, said}
use Rattle.runner.proofs.Exprs.{ready_on, expr_ready}
use Rattle.runner.proofs.Leads.{of_run}

-- With no steps left no command is entered.
pub act_none : (c : Cmd) (f : Callee) (ρ a : List ℕ) (r : ℕ) → Ends 4 0 r → leaves r a ≡ act c f ρ 0
unfolding act turns
act_none (assign x e) f ρ a r z = no_step r a _ z
act_none (branch e s t) f ρ a r z = no_step r a _ z
act_none (loop k e s) f ρ a r z = no_step r a _ z

-- A run that stands there may be carried out.
pub run_ready : {b j : List ℕ} {row at f l : ℕ} {w : List ℕ} → Ready b j f l w → RunHere b (in_scope b (cells f)) row at → CmdsPre b j at f l w
run_ready {row = row} h x = record { ready = h; row = row; here = of_run x; there = (run_code x).there }

-- The end of a command that was carried out may be asked.
pub own_cmd : {b j j' : List ℕ} {at f l : ℕ} {w : List ℕ} → CmdPre b j at f l w → Jumps b j' → JumpPre (SomeCmd b) b at j'
own_cmd {f = f} h r =
    record {
      book = h.ready.book;
      variables = cells f;
      next = h.here.next;
      part = record { row = h.row; here = h.here; ends = refl };
      jumps = r;
    }

-- The command by its code, with its step spent or not.
module _ {b j : List ℕ} {at f l : ℕ} {w : List ℕ} (h : CmdPre b j at f l w) where
  pub loop_form : get_or b at 0 ≡ 0x03 → CmdFormPre 0x03 b j at f l w
  loop_form e = record { start = h; code = e }

  spent_form : {k : ℕ} → get_or b at 0 ≡ k → CmdFormPre k b j at f (l - 1) w
  spent_form e =
      record {
        start =
            record {
              ready = ready_on h.ready h.ready.jumps refl (omega arith);
              row = h.row;
              here = h.here;
              there = h.there;
            };
        code = e;
      }

  pub assign_form : get_or b at 0 ≡ 0x01 → CmdFormPre 0x01 b j at f (l - 1) w
  assign_form e = spent_form e

  pub branch_form : (get_or b at 0 ≡ 0x03 → ⊥) → (get_or b at 0 ≡ 0x01 → ⊥) → CmdFormPre 0x02 b j at f (l - 1) w
  branch_form p q = let k = cmd_code h.here in spent_form (omega arith)

  module _ {t : ℕ} (e : fall (depths f) l (length b - at + 1) ≡ t) where
    pub loop_falls : fall (depths f) l (length b - at) < t
    loop_falls = fall_bytes _ _ _ _ _ e (omega arith) (omega arith)

    pub spent_falls : (l ≡ 0 → ⊥) → fall (depths f) (l - 1) (length b - at + 1) < t
    spent_falls u = fall_steps _ _ _ _ _ e (omega arith) (omega (arith, h.ready.bytes))

  pub cmd_none : {r : ℕ} → l ≡ 0 → Ends 4 0 r → CmdPost b at f l w w j r
  cmd_none {r} e z =
      record {
        ran = λ g row x. rw e (act_none x.tree (runs (book_of g) (depths f)) (take (cells f) w) (take (cells f) w) r z);
        long = refl;
        fell = omega (arith, left_over r z);
        jumps = h.ready.jumps;
        jump = own_cmd h h.ready.jumps;
      }

pub cmd_stepped : {b : List ℕ} {at f l : ℕ} {w w' j' : List ℕ} {r : ℕ} → (l ≡ 0 → ⊥) → CmdPost b at f (suc (l - 1)) w w' j' r →
    CmdPost b at f l w w' j' r
cmd_stepped u p = rw (before_one u) at p

-- An assignment.
module _ {b j : List ℕ} {at f l : ℕ} {w : List ℕ} (h : CmdFormPre 0x01 b j at f l w) where
  pub assign_there : at + 1 < length b
  assign_there = (assign_view h.start.here h.code).there

  pub assign_pre : EvalPre b j (at + 2) f l w
  assign_pre = expr_ready h.start.ready (assign_view h.start.here h.code).given

  pub assign_falls : {t : ℕ} → fall (depths f) l (length b - at + 1) ≡ t → fall (depths f) l (length b - (at + 2) + 1) < t
  assign_falls e = fall_bytes _ _ _ _ _ e (omega arith) (omega (arith, assign_there))

  module _ {w₁ j₁ : List ℕ} {a : ℕ} (q : EvalPost b (at + 2) f l w w₁ j₁ a) where
    pub assign_stopped : 0x8000000000000000 ≤ a → CmdPost b at f (suc l) w w₁ j₁ a
    unfolding act tick
    assign_stopped u =
        record {
          ran =
              λ g row x.
              let v = assign_view x h.code in
              rw v.tree (stop a _ (take (cells f) w₁) _ _ (q.ran g v.given) (has_ended u));
          long = q.long;
          fell = omega (arith, q.fell);
          jumps = q.jumps;
          jump = own_cmd h.start q.jumps;
        }

    module _ {x : ℕ} (e : x ≡ get_or b (at + 1) 0) where
      assigned : x < cells f
      assigned = rw e (assign_view h.start.here h.code).known

      pub assign_cell : x < length w₁
      assign_cell = omega (arith, assigned, h.start.ready.room, q.long)

      pub assign_done : {u : ℕ} → a < 0x2000000000000000 → HasResult a u → CmdPost b at f (suc l) w (set w₁ x u) j₁ a
      unfolding act tick
      assign_done {u} z i =
          record {
            ran =
                λ g row y.
                let v = assign_view y h.code in
                let s = take-set-lt (cells f) w₁ x u assigned in
                rw (v.tree, go a _ _ _ (q.ran g v.given) (not_ended z), s, q.kept, ← e, ← i.is, not_ended z) (said _ (answer_of a).left);
            long = length-set w₁ x u ∙ q.long;
            fell = omega (arith, q.fell);
            jumps = q.jumps;
            jump = own_cmd h.start q.jumps;
          }

-- An if: its test, and then the run that the test's value takes.
module _ {b j : List ℕ} {at f l : ℕ} {w : List ℕ} (h : CmdFormPre 0x02 b j at f l w) where
  pub branch_pre : EvalPre b j (at + 1) f l w
  branch_pre = expr_ready h.start.ready (branch_view h.start.here h.code).test

  pub branch_falls : {t : ℕ} → fall (depths f) l (length b - at + 1) ≡ t → fall (depths f) l (length b - (at + 1) + 1) < t
  branch_falls e = fall_bytes _ _ _ _ _ e (omega arith) (omega (arith, h.start.there))

  module _ {w₁ j₁ : List ℕ} {a : ℕ} (q : EvalPost b (at + 1) f l w w₁ j₁ a) where
    pub branch_stopped : 0x8000000000000000 ≤ a → CmdPost b at f (suc l) w w₁ j₁ a
    unfolding act tick
    branch_stopped u =
        record {
          ran =
              λ g row x.
              let v = branch_view x h.code in
              rw v.tree (stop a _ (take (cells f) w₁) _ _ (q.ran g v.test) (has_ended u));
          long = q.long;
          fell = omega (arith, q.fell);
          jumps = q.jumps;
          jump = own_cmd h.start q.jumps;
        }

    pub branch_jump : JumpPre (SomeIf b) b at j₁
    branch_jump =
        record {
          book = h.start.ready.book;
          variables = cells f;
          next = h.start.here.next;
          part = record { row = h.start.row; here = h.start.here; code = h.code; ends = refl };
          jumps = q.jumps;
        }

    module _ {v m start : ℕ} {j₂ : List ℕ} (i : HasResult a v) (p : TakenPost b at j₂ v start) (k : HasLeft a m) where
      -- The run that is taken begins past the test.
      taken_run : CmdsPre b j₂ start f m w₁ × (at + 1 < start)
      taken_run =
          let x = branch_view h.start.here h.code in
          let r : Ready b j₂ f m w₁ = ready_on h.start.ready p.jumps q.long (omega (arith, k.is, q.fell)) in
          elim (ℕ_discrete v 0) [
            | yes e ↦
                (let y : start ≡ x.yes.next = p.no e _ _ h.start.here h.code in
                let n = h.start.row + cells f * loops_in x.yes.tree in
                (run_ready {row = n} r (rw y x.no), omega (arith, y, run_spans x.yes, expr_spans x.test)))
            | no u ↦
                (let y : start ≡ x.test.next = p.yes u _ _ h.start.here h.code in
                (run_ready {row = h.start.row} r (rw y x.yes), omega (arith, y, expr_spans x.test)))
          ]

      pub taken_pre : CmdsPre b j₂ start f m w₁
      taken_pre = taken_run.0

      pub taken_falls : {t : ℕ} → fall (depths f) l (length b - at + 1) ≡ t → fall (depths f) m (length b - start + 2) < t
      taken_falls e =
          let s = taken_run.0.there in
          fall_bytes _ _ _ _ _ e (omega (arith, k.is, q.fell)) (omega (arith, taken_run.1))

      module _ (z : a < 0x2000000000000000) {w₂ j₃ : List ℕ} {r : ℕ} (c : CmdsPost b start f m w₁ w₂ j₃ r) where
        -- What the run at that place did, whichever tree stands there.
        run_did : (g : Opened b) {row at₂ : ℕ} (x : RunHere b (in_scope b (cells f)) row at₂) → start ≡ at₂ →
            leaves r (take (cells f) w₂) ≡ acts x.tree (runs (book_of g) (depths f)) (take (cells f) w) (answer_of a).left
        run_did g {row} {at₂} x e =
            let s : CmdsPost b at₂ f (answer_of a).left w₁ w₂ j₃ r = rw (e, k.is) at c in
            rw q.kept at (s.ran g row (of_run x))

        pub branch_done : CmdPost b at f (suc l) w w₂ j₃ r
        unfolding act tick
        branch_done =
            record {
              ran =
                  λ g row x.
                  let y = branch_view x h.code in
                  rw (y.tree, go a _ _ _ (q.ran g y.test) (not_ended z))
                  (elim (ℕ_discrete v 0) [
                    | yes e ↦
                        rw (not_taken (answer_of a).value (answer_of a).left _ _ (sym i.is ∙ e)) (run_did g y.no (p.no e _ _ x h.code))
                    | no u ↦
                        rw (taken (answer_of a).value (answer_of a).left _ _ (λ e. u (i.is ∙ e))) (run_did g y.yes (p.yes u _ _ x h.code))
                  ]);
              long = c.long ∙ q.long;
              fell = omega (arith, c.fell, k.is, q.fell);
              jumps = c.jumps;
              jump = own_cmd h.start c.jumps;
            }
