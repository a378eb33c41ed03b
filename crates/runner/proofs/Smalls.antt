-- Small expressions: their values for their steps.
use Rattle.std.proofs.Common.{◌≡◌, ℕ, suc, ◌+◌, ◌-◌, ◌*◌, ◌<◌, ◌≤◌, List, length, get_or, take, sym, refl, ◌∙◌, arith, get_or-take}
use Rattle.std.specs.Prelude.{Result, Ok, Err, IfSome}
use Rattle.std.specs.Result.{result_ok}
use Rattle.runner.specs.Step.{packed_of}
use Rattle.runner.specs.declared.answer.Went.{Went}
use Rattle.runner.specs.declared.answer.Over.{Over}
use Rattle.meaning.specs.Running.{yield, bind, tick, value, runs}
use Rattle.book.proofs.Text.{four_bytes, ExprHere}
use Rattle.book.proofs.Views.{expr_code, constant_view, variable_view, operation_view}
use Rattle.runner.specs.Opened.{Opened, book_of, in_scope}
use Rattle.runner.specs.Operating.{OperatePost}
use Rattle.runner.specs.Outcome.{outcome_of}
use Rattle.runner.specs.Answer.{Yields}
use Rattle.runner.specs.Frame.{cells, depths}
use Rattle.runner.specs.Skipping.{SomeExpr}
use Rattle.runner.specs.Jumping.{EndsAt, Jumps, JumpPre}
use Rattle.runner.specs.Smallness.{SomewherePre, LeafPre, BothPre, Given, LeafPost, SmallPost}
use Rattle.runner.proofs.Memo.{expr_only, ends_expr}
use Rattle.runner.proofs.Packing.{made_going}
use Rattle.runner.proofs.Outcomes.{made, left_made, before_one}

module _ {b : List ℕ} {at : ℕ} {w : List ℕ} where
  -- A leaf: its value, for one step, and nothing has changed.
  pub constant_given : {c l r : ℕ} → get_or b at 0 ≡ 0x10 → c ≡ four_bytes b (at + 1) → Yields c l r → Given b at (suc l) w r
  unfolding value tick
  constant_given {c} {l} {r} h e y =
      record {
        ran =
            λ f j p.
            record {
              ran = λ g x. rw (constant_view x h).tree (made r (rw e at y));
              kept = refl;
              long = refl;
              fell = omega (arith, left_made r y);
              jumps = p.jumps;
              jump = p;
            };
      }

  pub variable_given : {x l r : ℕ} → get_or b at 0 ≡ 0x11 → x ≡ get_or b (at + 1) 0 → Yields (get_or w x 0) l r → Given b at (suc l) w r
  unfolding value tick
  variable_given {x} {l} {r} h e y =
      record {
        ran =
            λ f j p.
            record {
              ran = λ g z. let v = variable_view z h in rw (v.tree, ← e, get_or-take (cells f) w x 0 (rw e v.known)) (made r y);
              kept = refl;
              long = refl;
              fell = omega (arith, left_made r y);
              jumps = p.jumps;
              jump = p;
            };
      }

  module _ (h : LeafPre b at w) where
    -- A leaf that is no variable is a constant.
    constant_left : (get_or b at 0 ≡ 0x11 → ⊥) → get_or b at 0 ≡ 0x10
    constant_left u = let k = expr_code h.start.here in omega (arith, h.leaf)

    pub constant_fits : (get_or b at 0 ≡ 0x11 → ⊥) → at + 1 + 3 < length b
    constant_fits u = omega (arith, (constant_view h.start.here (constant_left u)).fits)

    pub variable_fits : get_or b at 0 ≡ 0x11 → at + 1 < length b
    variable_fits e = (variable_view h.start.here e).there

    pub variable_cell : {x : ℕ} → get_or b at 0 ≡ 0x11 → x ≡ get_or b (at + 1) 0 → x < length w
    variable_cell e i = omega (arith, (variable_view h.start.here e).known, h.start.room)

    pub leaf_constant : {c : ℕ} → (get_or b at 0 ≡ 0x11 → ⊥) → c ≡ four_bytes b (at + 1) → LeafPost b at w c
    leaf_constant u e = record { gave = λ l r. constant_given (constant_left u) e }

    pub leaf_variable : {x : ℕ} → get_or b at 0 ≡ 0x11 → x ≡ get_or b (at + 1) 0 → LeafPost b at w (get_or w x 0)
    leaf_variable e i = record { gave = λ l r. variable_given e i }

    pub variable_ends : get_or b at 0 ≡ 0x11 → EndsAt b at (at + 2)
    variable_ends e = expr_only (omega arith) (λ n next x. sym (x.ends ∙ (variable_view x.here e).next))

    pub constant_ends : (get_or b at 0 ≡ 0x11 → ⊥) → EndsAt b at (at + 5)
    constant_ends u =
        let e = constant_left u in
        expr_only (omega arith) (λ n next x. sym (x.ends ∙ (constant_view x.here e).next))

  -- Of an answer that has ended nothing is said.
  pub ok_small : {l : ℕ} (r : Result Went Over) → SmallPost b at l w (packed_of r) → IfSome (result_ok r) (λ a. SmallPost b at l w a.packed)
  ok_small (Ok a) p = p
  ok_small (Err o) p = tt

  pub small_leaf : {l r v : ℕ} → (l ≡ 0 → ⊥) → LeafPost b at w v → Yields v (l - 1) r → SmallPost b at l w r
  small_leaf {l} {r} u p y = record { gave = λ i. rw (before_one u) at (p.gave (l - 1) r y) }

  -- What a leaf's value is to the rules.
  leaf_is : {u l : ℕ} (f : ℕ) {j : List ℕ} → LeafPost b at w u → u < 0x100000000 → l ≤ 1000000 → Jumps b j → (g : Opened b)
      (x : ExprHere b (in_scope b (cells f)) at) → value x.tree (runs (book_of g) (depths f)) (take (cells f) w) (suc l) ≡ yield u l
  leaf_is {u} {l} f {j} p a s k g x =
      let r = u + l * 0x100000000 in
      let y : Yields u l r = made_going r a s refl in
      let i : JumpPre (SomeExpr b) b at j =
      record { book = g; variables = cells f; next = x.next; part = record { here = x; ends = refl }; jumps = k } in
      sym (((p.gave l r y).ran f j i).ran g x) ∙ made r y

module _ {b : List ℕ} {at l : ℕ} {w : List ℕ} (h : BothPre b at l w) where
  pub both_fits : at + 1 < length b
  both_fits = (operation_view h.start.start.here h.code).there

  first_here : SomewherePre b (at + 2) w
  first_here =
      let s = h.start.start in
      let v = operation_view s.here h.code in
      let k = expr_code v.left in
      record { book = s.book; variables = s.variables; here = v.left; room = s.room; there = k.there; bytes = s.bytes }

  pub first_there : at + 2 < length b
  first_there = first_here.there

  pub first_leaf : get_or b (at + 2) 0 ≤ 0x11 → LeafPre b (at + 2) w
  first_leaf k = record { start = first_here; leaf = omega arith }

  module _ {mid : ℕ} (m : EndsAt b (at + 2) mid) where
    second_here : SomewherePre b mid w
    second_here =
        let s = h.start.start in
        let v = operation_view s.here h.code in
        let k = expr_code v.right in
        let e = ends_expr m v.left in
        record {
          book = s.book;
          variables = s.variables;
          here = rw e v.right;
          room = s.room;
          there = rw e k.there;
          bytes = s.bytes;
        }

    pub second_there : mid < length b
    second_there = second_here.there

    pub second_leaf : get_or b mid 0 ≤ 0x11 → LeafPre b mid w
    second_leaf k = record { start = second_here; leaf = omega arith }

    -- An operation on two leaves takes three steps.
    both_did : {u v k r : ℕ} (f : ℕ) {j : List ℕ} → LeafPost b (at + 2) w u → LeafPost b mid w v → u < 0x100000000 → v < 0x100000000 →
        OperatePost (get_or b (at + 1) 0) u v k r → k ≤ 999999 → Jumps b j → (g : Opened b) (x : ExprHere b (in_scope b (cells f)) at) →
        outcome_of r ≡ value x.tree (runs (book_of g) (depths f)) (take (cells f) w) (suc (suc (suc k)))
    unfolding value tick bind yield
    both_did {k = k} f p q a c o s i g x =
        let y = operation_view x h.code in
        let e : LeafPost b y.left.next w _ = rw (ends_expr m y.left) at q in
        rw (y.tree, leaf_is {l = suc k} f p a (omega arith) i g y.left, leaf_is {l = k} f e c (omega arith) i g y.right)
        (o.gave y.o y.known)

    pub small_both : {u v r : ℕ} → 3 ≤ l → LeafPost b (at + 2) w u → LeafPost b mid w v → u < 0x100000000 → v < 0x100000000 →
        OperatePost (get_or b (at + 1) 0) u v (l - 3) r → SmallPost b at l w r
    small_both n p q a c o =
        let z : suc (suc (suc (l - 3))) ≡ l = omega arith in
        record {
          gave =
              λ u.
              record {
                ran =
                    λ f j i.
                    record {
                      ran = λ g x. rw z at (both_did f p q a c o (omega (arith, h.start.few)) i.jumps g x);
                      kept = refl;
                      long = refl;
                      fell = omega (arith, o.fell);
                      jumps = i.jumps;
                      jump = i;
                    };
              };
        }
