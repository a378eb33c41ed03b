-- What the arms of an expression come to.
use Rattle.std.proofs.Common.{◌≡◌, ℕ, suc, ◌+◌, ◌-◌, ◌<◌, ◌≤◌, List, length, get_or, take, refl, ◌∙◌, arith, get_or-take}
use Rattle.meaning.specs.Tree.{Expr, constant, variable, operation, call}
use Rattle.meaning.specs.Running.{tick, Callee, value, runs}
use Rattle.book.proofs.Text.{ExprHere}
use Rattle.book.proofs.Views.{variable_view, operation_view, expr_code}
use Rattle.book.proofs.Views.Bounds.{expr_spans}
use Rattle.runner.specs.Outcome.{outcome_of}
use Rattle.runner.specs.Opened.{Opened, book_of, in_scope}
use Rattle.runner.specs.Operating.{OperatePost}
use Rattle.runner.specs.Skipping.{SomeExpr}
use Rattle.runner.specs.Answer.{answer_of, Yields, Ends, HasLeft, HasResult}
use Rattle.runner.specs.Frame.{cells, depths}
use Rattle.runner.specs.Parts.{Ready, EvalPre, FormPre, RightPre, EvalPost, RightPost}
use Rattle.runner.specs.Smallness.{LeafPre, LeafPost, SmallPre, SmallPost}
use Rattle.runner.specs.Jumping.{Jumps, JumpPre, JumpPost}
use Rattle.runner.proofs.Fall.{fall, fall_bytes, fall_steps}
use Rattle.runner.proofs.Packing.{has_ended, not_ended}
use Rattle.runner.proofs.Memo.{ends_expr}
use Rattle.runner.proofs.Ends.{one_expr}
use Rattle.runner.proofs.Outcomes.{stop, go, no_step, before_one, made, left_made, left_over}

-- With no steps left no expression is entered.
value_none : (x : Expr) (f : Callee) (ρ : List ℕ) (r : ℕ) → Ends 4 0 r → outcome_of r ≡ value x f ρ 0
unfolding value
value_none (constant c) f ρ r e = no_step r _ _ e
value_none (variable y) f ρ r e = no_step r _ _ e
value_none (operation o x y) f ρ r e = no_step r _ _ e
value_none (call p es) f ρ r e = no_step r _ _ e

-- What is ready stays so with fewer steps, in the same room, with any memo that is right.
pub ready_on : {b j j' : List ℕ} {f l m : ℕ} {w w' : List ℕ} → Ready b j f l w → Jumps b j' → length w' ≡ length w → m ≤ l → Ready b j' f m w'
ready_on h k e m =
    record { book = h.book; bytes = h.bytes; room = omega (arith, h.room); shallow = h.shallow; few = omega (arith, h.few); jumps = k }

-- An expression that stands there may be evaluated.
pub expr_ready : {b j : List ℕ} {at f l : ℕ} {w : List ℕ} → Ready b j f l w → ExprHere b (in_scope b (cells f)) at → EvalPre b j at f l w
expr_ready h x = record { ready = h; here = x; there = (expr_code x).there }

-- The end of one that was evaluated may be asked.
pub own_jump : {b j j' : List ℕ} {at f l : ℕ} {w : List ℕ} → EvalPre b j at f l w → Jumps b j' → JumpPre (SomeExpr b) b at j'
own_jump h r = one_expr h.ready.book h.here r

module _ {b j : List ℕ} {at f l : ℕ} {w : List ℕ} (h : EvalPre b j at f l w) where
  pub same_place : {t : ℕ} → fall (depths f) l (length b - at + 1) ≡ t → fall (depths f) l (length b - at) < t
  same_place e = fall_bytes _ _ _ _ _ e (omega arith) (omega arith)

  -- Small expressions, in place.
  pub small_pre : SmallPre b at l w
  small_pre =
      record {
        start =
            record {
              book = h.ready.book;
              variables = cells f;
              here = h.here;
              room = omega (arith, h.ready.room);
              there = h.there;
              bytes = h.ready.bytes;
            };
        few = h.ready.few;
      }

  pub operand_small : {r : ℕ} → SmallPost b at l w r → r < 0x2000000000000000 → EvalPost b at f l w w j r
  operand_small p k = (p.gave k).ran f j (own_jump h h.ready.jumps)

  module _ (e : get_or b at 0 ≡ 0x11) where
    pub lookup_fits : at + 1 < length b
    lookup_fits = (variable_view h.here e).there

    pub lookup_cell : {x : ℕ} → x ≡ get_or b (at + 1) 0 → x < length w
    lookup_cell i = omega (arith, (variable_view h.here e).known, h.ready.room)

    pub eval_variable : {x r : ℕ} → x ≡ get_or b (at + 1) 0 → 0 < l → Yields (get_or w x 0) (l - 1) r → EvalPost b at f l w w j r
    unfolding value tick
    eval_variable {x} {r} i k y =
        let u : suc (l - 1) ≡ l = omega arith in
        record {
          ran =
              λ g z.
              let v = variable_view z e in
              rw (← u, v.tree, ← i, get_or-take (cells f) w x 0 (rw i v.known)) (made r y);
          kept = refl;
          long = refl;
          fell = omega (arith, left_made r y);
          jumps = h.ready.jumps;
          jump = own_jump h h.ready.jumps;
        }

  pub eval_none : {r : ℕ} → l ≡ 0 → Ends 4 0 r → EvalPost b at f l w w j r
  eval_none {r} e y =
      record {
        ran = λ g x. rw e (value_none x.tree (runs (book_of g) (depths f)) (take (cells f) w) r y);
        kept = refl;
        long = refl;
        fell = omega (arith, left_over r y);
        jumps = h.ready.jumps;
        jump = own_jump h h.ready.jumps;
      }

  pub form_pre : {k : ℕ} → get_or b at 0 ≡ k → FormPre k b j at f (l - 1) w
  form_pre e =
      record {
        start = record { ready = ready_on h.ready h.ready.jumps refl (omega arith); here = h.here; there = h.there };
        code = e;
      }

  pub form_falls : {t : ℕ} → (l ≡ 0 → ⊥) → fall (depths f) l (length b - at) ≡ t → fall (depths f) (l - 1) (length b - at + 2) < t
  form_falls u e = fall_steps _ _ _ _ _ e (omega arith) (omega (arith, h.ready.bytes))

  pub leaf_pre : (get_or b at 0 ≡ 0x12 → ⊥) → (get_or b at 0 ≡ 0x13 → ⊥) → LeafPre b at w
  leaf_pre p q = record { start = small_pre.start; leaf = let k = expr_code h.here in omega arith }

  pub eval_leaf : {v r : ℕ} → (l ≡ 0 → ⊥) → LeafPost b at w v → Yields v (l - 1) r → EvalPost b at f l w w j r
  eval_leaf {r = r} u p y =
      let z : EvalPost b at f (suc (l - 1)) w w j r = (p.gave (l - 1) r y).ran f j (own_jump h h.ready.jumps) in
      rw (before_one u) at z

-- An operation: its left operand first.
module _ {b j : List ℕ} {at f l : ℕ} {w : List ℕ} (h : FormPre 0x12 b j at f l w) where
  pub left_pre : EvalPre b j (at + 2) f l w
  left_pre = expr_ready h.start.ready (operation_view h.start.here h.code).left

  pub left_falls : {t : ℕ} → fall (depths f) l (length b - at + 2) ≡ t → fall (depths f) l (length b - (at + 2) + 1) < t
  left_falls e = fall_bytes _ _ _ _ _ e (omega arith) (omega (arith, h.start.there))

  module _ {w₁ j₁ : List ℕ} {a : ℕ} (p : EvalPost b (at + 2) f l w w₁ j₁ a) where
    pub left_stopped : 0x8000000000000000 ≤ a → EvalPost b at f (suc l) w w₁ j₁ a
    unfolding value tick
    left_stopped u =
        record {
          ran =
              λ g x.
              let v = operation_view x h.code in
              rw v.tree (stop a _ _ _ _ (p.ran g v.left) (has_ended u));
          kept = p.kept;
          long = p.long;
          fell = omega (arith, p.fell);
          jumps = p.jumps;
          jump = own_jump h.start p.jumps;
        }

    pub right_pre : a < 0x2000000000000000 → RightPre b j₁ at f a w₁
    right_pre z =
        record {
          form =
              record {
                start =
                    record {
                      ready = ready_on h.start.ready p.jumps p.long p.fell;
                      here = h.start.here;
                      there = h.start.there;
                    };
                code = h.code;
              };
          goes = z;
          jump = p.jump;
        }

    pub right_falls : {t : ℕ} → fall (depths f) l (length b - at + 2) ≡ t → fall (depths f) (answer_of a).left (length b - at + 1) < t
    right_falls e = fall_bytes _ _ _ _ _ e p.fell (omega arith)

-- Both together.
pub applied : {b : List ℕ} {at f l a r : ℕ} {w w₁ j₁ w₂ j₂ : List ℕ} → EvalPost b (at + 2) f l w w₁ j₁ a → RightPost b at f a w₁ w₂ j₂ r →
    EvalPost b at f (suc l) w w₂ j₂ r
applied {l = l} {w = w} {j₁ = j₁} p q = q.whole l w j₁ p

-- Its right operand, which stands where the left one ends.
module _ {b j : List ℕ} {at f a : ℕ} {w : List ℕ} (h : RightPre b j at f a w) where
  pub operation_fits : at + 1 < length b
  operation_fits = (operation_view h.form.start.here h.form.code).there

  module _ {j₁ : List ℕ} {mid m : ℕ} (e : JumpPost b (at + 2) j₁ mid) (k : HasLeft a m) where
    pub second_pre : EvalPre b j₁ mid f m w
    second_pre =
        let v = operation_view h.form.start.here h.form.code in
        let y : ExprHere b (in_scope b (cells f)) mid = rw (ends_expr e.ends v.left) v.right in
        expr_ready (ready_on h.form.start.ready e.jumps refl (omega (arith, k.is))) y

    pub second_falls : {t : ℕ} → fall (depths f) (answer_of a).left (length b - at + 1) ≡ t → fall (depths f) m (length b - mid + 1) < t
    second_falls i =
        let v = operation_view h.form.start.here h.form.code in
        let s = expr_spans v.left in
        let y = expr_code v.right in
        fall_bytes _ _ _ _ _ i (omega (arith, k.is)) (omega (arith, ends_expr e.ends v.left))

    module _ {w₁ j₂ : List ℕ} {c : ℕ} (q : EvalPost b mid f m w w₁ j₂ c) where
      right_fell : (answer_of c).left ≤ (answer_of a).left
      right_fell = omega (arith, k.is, q.fell)

      -- Over the variables that the left operand began with, and left as they were.
      right_did : (w₀ : List ℕ) → take (cells f) w ≡ take (cells f) w₀ → (g : Opened b) (x : ExprHere b (in_scope b (cells f)) (at + 2))
          (y : ExprHere b (in_scope b (cells f)) x.next) →
          outcome_of c ≡ value y.tree (runs (book_of g) (depths f)) (take (cells f) w₀) (answer_of a).left
      right_did w₀ n g x y =
          let s : EvalPost b x.next f (answer_of a).left w w₁ j₂ c = rw (ends_expr e.ends x, k.is) at q in
          rw n at (s.ran g y)

      pub right_stopped : 0x8000000000000000 ≤ c → RightPost b at f a w w₁ j₂ c
      unfolding value tick
      right_stopped u =
          record {
            whole =
                λ l w₀ j₀ p.
                record {
                  ran =
                      λ g x.
                      let v = operation_view x h.form.code in
                      rw (v.tree, go a _ _ _ (p.ran g v.left) (not_ended h.goes))
                      (stop c _ _ _ _ (right_did w₀ p.kept g v.left v.right) (has_ended u));
                  kept = q.kept ∙ p.kept;
                  long = q.long ∙ p.long;
                  fell = omega (arith, right_fell, p.fell);
                  jumps = q.jumps;
                  jump = own_jump h.form.start q.jumps;
                };
            fell = right_fell;
          }

      pub right_done : {u v i r : ℕ} → c < 0x2000000000000000 → HasResult a u → HasResult c v → HasLeft c i →
          OperatePost (get_or b (at + 1) 0) u v i r → RightPost b at f a w w₁ j₂ r
      unfolding value tick
      right_done {r = r} y s t i o =
          record {
            whole =
                λ l w₀ j₀ p.
                record {
                  ran =
                      λ g x.
                      let v = operation_view x h.form.code in
                      rw (
                        v.tree,
                        go a _ _ _ (p.ran g v.left) (not_ended h.goes),
                        go c _ _ _ (right_did w₀ p.kept g v.left v.right) (not_ended y),
                        ← s.is,
                        ← t.is,
                        ← i.is,
                      )
                      (o.gave v.o v.known);
                  kept = q.kept ∙ p.kept;
                  long = q.long ∙ p.long;
                  fell = omega (arith, o.fell, i.is, right_fell, p.fell);
                  jumps = q.jumps;
                  jump = own_jump h.form.start q.jumps;
                };
            fell = omega (arith, o.fell, i.is, right_fell);
          }
