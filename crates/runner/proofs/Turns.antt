-- A loop while it turns: fuel above the steps left.
use Rattle.std.proofs.Common.{◌≡◌, ℕ, zero, suc, ◌+◌, ◌-◌, ◌<◌, ◌≤◌, List, length, take, sym, refl, ◌∙◌, arith}
use Rattle.meaning.specs.Running.{Out, bind, tick, choose, yield, value, turns, act, acts, runs}
use Rattle.book.proofs.Text.{ExprHere, CmdHere, RunHere}
use Rattle.book.proofs.Views.{LoopView, loop_view}
use Rattle.runner.specs.Outcome.{leaves}
use Rattle.runner.specs.Opened.{Opened, book_of, in_scope}
use Rattle.runner.specs.Skipping.{SomeExpr}
use Rattle.runner.specs.Answer.{answer_of, Ends, HasLeft, HasResult}
use Rattle.runner.specs.Frame.{cells, depths}
use Rattle.runner.specs.Parts.{Ready, EvalPre, CmdFormPre, CmdsPre, EvalPost, CmdPost, CmdsPost}
use Rattle.runner.specs.Jumping.{EndsAt, Jumps, JumpPre, JumpPost}
use Rattle.runner.proofs.Fall.{fall, fall_steps}
use Rattle.runner.proofs.Packing.{has_ended, not_ended}
use Rattle.runner.proofs.Memo.{ends_expr}
use Rattle.runner.proofs.Ends.{one_expr}
use Rattle.runner.proofs.Leads.{of_run}
use Rattle.runner.proofs.Outcomes.{stop, go, taken, not_taken, no_step, left_over, said}
use Rattle.runner.proofs.Exprs.{ready_on, expr_ready}
use Rattle.runner.proofs.Commands.{run_ready, own_cmd}

-- A turn that has a step and fuel: the test, and then the body and the turns that are left, or nothing.
turn : (test : List ℕ → ℕ → Out ℕ) (inside : List ℕ → ℕ → Out (List ℕ)) (k : ℕ) (ρ : List ℕ) (l : ℕ) → 0 < k → (l ≡ 0 → ⊥) →
    turns test inside k ρ l
    ≡ bind (test ρ (l - 1)) (λ v n. choose v (λ n. bind (inside ρ n) λ ρ n. turns test inside (k - 1) ρ n) (λ n. yield ρ n) n)
unfolding turns tick
turn test inside zero ρ l f u = absurd (omega arith)
turn test inside (suc k) ρ zero f u = absurd (u refl)
turn test inside (suc k) ρ (suc l) f u =
    let e : suc k - 1 ≡ k = omega arith in
    let i : suc l - 1 ≡ l = omega arith in
    rw (e, i)

turn_none : (test : List ℕ → ℕ → Out ℕ) (inside : List ℕ → ℕ → Out (List ℕ)) (k : ℕ) (ρ a : List ℕ) (r : ℕ) → 0 < k → Ends 4 0 r →
    leaves r a ≡ turns test inside k ρ 0
unfolding turns
turn_none test inside zero ρ a r f z = absurd (omega arith)
turn_none test inside (suc k) ρ a r f z = no_step r a _ z

-- Its condition's end may be asked.
pub loop_jump : {b j : List ℕ} {at f l : ℕ} {w : List ℕ} → CmdFormPre 0x03 b j at f l w → JumpPre (SomeExpr b) b (at + 1) j
loop_jump h = one_expr h.start.ready.book (loop_view h.start.here h.code).test h.start.ready.jumps

-- The loop as it stood when it was begun, the place of its body, and what is left to do.
pub record Turning (b j₀ : List ℕ) (at f l₀ : ℕ) (w₀ : List ℕ) (inside : ℕ) (j : List ℕ) (l : ℕ) (w : List ℕ) : Type 0 where
  pub pre : CmdFormPre 0x03 b j₀ at f l₀ w₀
  pub ends : EndsAt b (at + 1) inside
  pub jumps : Jumps b j
  pub fuel : ℕ
  pub enough : l < fuel
  pub ran : (g : Opened b) (r : ℕ) (x : CmdHere b (in_scope b (cells f)) r at) (v : LoopView b (in_scope b (cells f)) r at x) →
      turns (λ ρ m. value v.test.tree (runs (book_of g) (depths f)) ρ m) (λ ρ m. acts v.inside.tree (runs (book_of g) (depths f)) ρ m) fuel
      (take (cells f) w) l
      ≡ act x.tree (runs (book_of g) (depths f)) (take (cells f) w₀) l₀
  pub long : length w ≡ length w₀
  pub fell : l ≤ l₀

pub turning_start : {b j j₁ : List ℕ} {at f l inside : ℕ} {w : List ℕ} → CmdFormPre 0x03 b j at f l w → JumpPost b (at + 1) j₁ inside →
    Turning b j₁ at f l w inside j₁ l w
unfolding act
turning_start {l = l} h e =
    record {
      pre =
          record {
            start =
                record {
                  ready = ready_on h.start.ready e.jumps refl (omega arith);
                  row = h.start.row;
                  here = h.start.here;
                  there = h.start.there;
                };
            code = h.code;
          };
      ends = e.ends;
      jumps = e.jumps;
      fuel = suc l;
      enough = omega arith;
      ran = λ g r x v. rw v.tree;
      long = refl;
      fell = omega arith;
    }

module _ {b j₀ : List ℕ} {at f l₀ : ℕ} {w₀ : List ℕ} {inside : ℕ} {j : List ℕ} {l : ℕ} {w : List ℕ} (p : Turning b j₀ at f l₀ w₀ inside j l w) where
  ready_now : {j₁ w₁ : List ℕ} {m : ℕ} → Jumps b j₁ → length w₁ ≡ length w → m ≤ l → Ready b j₁ f m w₁
  ready_now r e m = ready_on p.pre.start.ready r (e ∙ p.long) (omega (arith, p.fell))

  pub turns_spent : {r : ℕ} → l ≡ 0 → Ends 4 0 r → CmdPost b at f l₀ w₀ w j r
  turns_spent {r} e z =
      record {
        ran =
            λ g row x.
            let v = loop_view x p.pre.code in
            turn_none _ _ p.fuel (take (cells f) w) (take (cells f) w) r (omega (arith, p.enough)) z ∙ rw e at (p.ran g row x v);
        long = p.long;
        fell = omega (arith, left_over r z);
        jumps = p.jumps;
        jump = own_cmd p.pre.start p.jumps;
      }

  module _ (u : l ≡ 0 → ⊥) where
    pub turn_pre : EvalPre b j (at + 1) f (l - 1) w
    turn_pre = expr_ready (ready_now p.jumps refl (omega arith)) (loop_view p.pre.start.here p.pre.code).test

    pub turn_falls : {t : ℕ} → fall (depths f) l₀ (length b - at) ≡ t → fall (depths f) (l - 1) (length b - (at + 1) + 1) < t
    turn_falls e = fall_steps _ _ _ _ _ e (omega (arith, p.fell)) (omega (arith, p.pre.start.ready.bytes))

    -- The loop, opened by one turn.
    opened : (g : Opened b) (r : ℕ) (x : CmdHere b (in_scope b (cells f)) r at) (v : LoopView b (in_scope b (cells f)) r at x) →
        bind (value v.test.tree (runs (book_of g) (depths f)) (take (cells f) w) (l - 1))
        (λ c m.
        choose c
        (λ m.
        bind (acts v.inside.tree (runs (book_of g) (depths f)) (take (cells f) w) m) λ ρ m.
        turns (λ ρ m. value v.test.tree (runs (book_of g) (depths f)) ρ m) (λ ρ m. acts v.inside.tree (runs (book_of g) (depths f)) ρ m)
        (p.fuel - 1) ρ m)
        (λ m. yield (take (cells f) w) m) m)
        ≡ act x.tree (runs (book_of g) (depths f)) (take (cells f) w₀) l₀
    opened g r x v = sym (turn _ _ p.fuel (take (cells f) w) l (omega (arith, p.enough)) u) ∙ p.ran g r x v

    module _ {w₁ j₁ : List ℕ} {a : ℕ} (q : EvalPost b (at + 1) f (l - 1) w w₁ j₁ a) where
      test_fell : (answer_of a).left < l
      test_fell = omega (arith, q.fell)

      pub turns_stopped : 0x8000000000000000 ≤ a → CmdPost b at f l₀ w₀ w₁ j₁ a
      turns_stopped y =
          record {
            ran =
                λ g r x.
                let v = loop_view x p.pre.code in
                stop a _ (take (cells f) w₁) _ _ (q.ran g v.test) (has_ended y) ∙ opened g r x v;
            long = q.long ∙ p.long;
            fell = omega (arith, test_fell, p.fell);
            jumps = q.jumps;
            jump = own_cmd p.pre.start q.jumps;
          }

      module _ (z : a < 0x2000000000000000) where
        pub turns_done : {v : ℕ} → HasResult a v → v ≡ 0 → CmdPost b at f l₀ w₀ w₁ j₁ a
        turns_done {v} i y =
            record {
              ran =
                  λ g row x.
                  let k = loop_view x p.pre.code in
                  rw (not_ended z, q.kept)
                  (said _ _
                  ∙ rw (
                    go a _ _ _ (q.ran g k.test) (not_ended z),
                    not_taken (answer_of a).value (answer_of a).left _ _ (sym i.is ∙ y),
                  ) at (opened g row x k));
              long = q.long ∙ p.long;
              fell = omega (arith, test_fell, p.fell);
              jumps = q.jumps;
              jump = own_cmd p.pre.start q.jumps;
            }

        module _ {m : ℕ} (k : HasLeft a m) where
          pub inside_pre : CmdsPre b j₁ inside f m w₁
          inside_pre =
              let v = loop_view p.pre.start.here p.pre.code in
              run_ready {row = p.pre.start.row + cells f}
              (ready_now q.jumps q.long (omega (arith, k.is, test_fell)))
              (rw (ends_expr p.ends v.test) v.inside)

          pub inside_falls : {t : ℕ} → fall (depths f) l₀ (length b - at) ≡ t → fall (depths f) m (length b - inside + 2) < t
          inside_falls e = fall_steps _ _ _ _ _ e (omega (arith, k.is, test_fell, p.fell)) (omega (arith, p.pre.start.ready.bytes))

          module _ {v : ℕ} (i : HasResult a v) (y : v ≡ 0 → ⊥) {w₂ j₂ : List ℕ} {s : ℕ} (c : CmdsPost b inside f m w₁ w₂ j₂ s) where
            inside_did : (g : Opened b) {row : ℕ} (t : ExprHere b (in_scope b (cells f)) (at + 1)) (x : RunHere b (in_scope b (cells f)) row t.next) →
                leaves s (take (cells f) w₂) ≡ acts x.tree (runs (book_of g) (depths f)) (take (cells f) w) (answer_of a).left
            inside_did g {row} t x =
                let o : CmdsPost b t.next f (answer_of a).left w₁ w₂ j₂ s = rw (ends_expr p.ends t, k.is) at c in
                rw q.kept at (o.ran g row (of_run x))

            inside_fell : (answer_of s).left < l
            inside_fell = omega (arith, c.fell, k.is, test_fell)

            -- The loop with its test passed.
            entered : (g : Opened b) (row : ℕ) (x : CmdHere b (in_scope b (cells f)) row at) (v : LoopView b (in_scope b (cells f)) row at x) →
                bind (acts v.inside.tree (runs (book_of g) (depths f)) (take (cells f) w) (answer_of a).left)
                (λ ρ m.
                turns (λ ρ m. value v.test.tree (runs (book_of g) (depths f)) ρ m) (λ ρ m. acts v.inside.tree (runs (book_of g) (depths f)) ρ m)
                (p.fuel - 1) ρ m)
                ≡ act x.tree (runs (book_of g) (depths f)) (take (cells f) w₀) l₀
            entered g row x v =
                rw (
                  go a _ _ _ (q.ran g v.test) (not_ended z),
                  taken (answer_of a).value (answer_of a).left _ _ (λ e. y (i.is ∙ e)),
                ) at (opened g row x v)

            pub inside_stopped : 0x8000000000000000 ≤ s → CmdPost b at f l₀ w₀ w₂ j₂ s
            inside_stopped n =
                record {
                  ran =
                      λ g row x.
                      let v = loop_view x p.pre.code in
                      stop s _ (take (cells f) w₂) _ _ (inside_did g v.test v.inside) (has_ended n) ∙ entered g row x v;
                  long = c.long ∙ (q.long ∙ p.long);
                  fell = omega (arith, inside_fell, p.fell);
                  jumps = c.jumps;
                  jump = own_cmd p.pre.start c.jumps;
                }

            module _ {o : ℕ} (r : HasLeft s o) where
              pub turning_less : o < l
              turning_less = omega (arith, r.is, inside_fell)

              pub turning_on : s < 0x2000000000000000 → Turning b j₀ at f l₀ w₀ inside j₂ o w₂
              turning_on n =
                  record {
                    pre = p.pre;
                    ends = p.ends;
                    jumps = c.jumps;
                    fuel = p.fuel - 1;
                    enough = omega (arith, p.enough, r.is, inside_fell);
                    ran =
                        λ g row x v.
                        rw r.is (rw (go s _ _ _ (inside_did g v.test v.inside) (not_ended n)) at (entered g row x v));
                    long = c.long ∙ (q.long ∙ p.long);
                    fell = omega (arith, turning_less, p.fell);
                  }
