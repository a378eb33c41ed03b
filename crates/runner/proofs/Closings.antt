-- A closing sequence while it goes on.
use Rattle.std.proofs.Common.{◌≡◌, ℕ, suc, ◌+◌, ◌-◌, ◌*◌, ◌<◌, ◌≤◌, List, length, get_or, take, sym, refl, ◌∙◌, arith}
use native.Mathlib.Decide.{ℕ_discrete}
use Rattle.meaning.specs.Tree.{Closing, loops_of, first, give, pick}
use Rattle.meaning.specs.Reading.{Scope}
use Rattle.meaning.specs.Running.{Callee, tick, finish, runs}
use Rattle.book.proofs.Text.{ClosingAt, ClosingHere}
use Rattle.book.proofs.Views.{PickView, give_view, pick_view, closing_code}
use Rattle.book.proofs.Views.Bounds.{expr_spans, closing_spans}
use Rattle.runner.specs.Outcome.{outcome_of}
use Rattle.runner.specs.Opened.{Opened, book_of, in_scope}
use Rattle.runner.specs.Answer.{answer_of, Ends, HasLeft, HasResult}
use Rattle.runner.specs.Frame.{cells, depths}
use Rattle.runner.specs.Parts.{EvalPre, CmdsPre, ClosingPre, EvalPost, CmdsPost, ClosingPost}
use Rattle.runner.specs.Jumping.{SomePick, Jumps, JumpPre, PickedPost}
use Rattle.runner.proofs.Fall.{fall, fall_bytes, fall_steps}
use Rattle.runner.proofs.Packing.{has_ended, not_ended}
use Rattle.runner.proofs.Leads.{Lead, lead}
use Rattle.runner.proofs.Heads.{pick_left, closing_test}
use Rattle.runner.proofs.Outcomes.{stop, go, taken, not_taken, no_step, before_one, left_over}
use Rattle.runner.proofs.Exprs.{ready_on, expr_ready}
use Rattle.runner.proofs.Commands.{act_none}

closing_moved : (c : Closing) (b : List ℕ) (v : Scope) (r : ℕ) {i j k l : ℕ} → i ≡ j → k ≡ l → ClosingAt c b v r j l → ClosingAt c b v r i k
closing_moved c b v r x y h = rw (x, y) h

-- With no steps left no sequence goes on.
finish_none : (c : Closing) (f : Callee) (ρ : List ℕ) (r : ℕ) → Ends 4 0 r → outcome_of r ≡ finish c f ρ 0
unfolding finish
finish_none (first c d) f ρ r e = stop r ρ _ _ _ (act_none c f ρ ρ r e) (not_zero r e)
  where
    not_zero : (r : ℕ) → Ends 4 0 r → (answer_of r).ending ≡ 0 → ⊥
    not_zero r e z = let k : ◌≡◌ {A = ℕ} 4 0 = rw e.is at z in omega arith
finish_none (give e) f ρ r z = no_step r _ _ z
finish_none (pick e c d) f ρ r z = no_step r _ _ z

-- The sequence that is left stands from `at` on, and comes to what the whole comes to. Where it ends no one asks.
pub record Closing-on (b j₀ : List ℕ) (at₀ f l₀ : ℕ) (w₀ j : List ℕ) (at l : ℕ) (w : List ℕ) : Type 0 where
  pub pre : ClosingPre b j₀ at₀ f l₀ w₀
  pub row : (r : ℕ) → ClosingHere b (in_scope b (cells f)) r at₀ → ℕ
  pub tree : (r : ℕ) → ClosingHere b (in_scope b (cells f)) r at₀ → Closing
  pub next : (r : ℕ) → ClosingHere b (in_scope b (cells f)) r at₀ → ℕ
  pub is : (r : ℕ) (x : ClosingHere b (in_scope b (cells f)) r at₀) → ClosingAt (tree r x) b (in_scope b (cells f)) (row r x) at (next r x)
  pub ran : (g : Opened b) (r : ℕ) (x : ClosingHere b (in_scope b (cells f)) r at₀) →
      finish (tree r x) (runs (book_of g) (depths f)) (take (cells f) w) l ≡ finish x.tree (runs (book_of g) (depths f)) (take (cells f) w₀) l₀
  pub long : length w ≡ length w₀
  pub fell : l ≤ l₀
  pub past : at₀ ≤ at
  pub there : at < length b
  pub bytes : length b ≤ 32768
  pub jumps : Jumps b j

pub closing_start : {b j : List ℕ} {at f l : ℕ} {w : List ℕ} → ClosingPre b j at f l w → Closing-on b j at f l w j at l w
closing_start h =
    record {
      pre = h;
      row = λ r x. r;
      tree = λ r x. x.tree;
      next = λ r x. x.next;
      is = λ r x. x.is;
      ran = λ g r x. refl;
      long = refl;
      fell = omega arith;
      past = omega arith;
      there = h.there;
      bytes = h.ready.bytes;
      jumps = h.ready.jumps;
    }

module _ {b j₀ : List ℕ} {at₀ f l₀ : ℕ} {w₀ j : List ℕ} {at l : ℕ} {w : List ℕ} (p : Closing-on b j₀ at₀ f l₀ w₀ j at l w) where
  closing_left : (r : ℕ) (x : ClosingHere b (in_scope b (cells f)) r at₀) → ClosingHere b (in_scope b (cells f)) (p.row r x) at
  closing_left r x = record { tree = p.tree r x; next = p.next r x; is = p.is r x }

  here_now : ClosingHere b (in_scope b (cells f)) (p.row p.pre.row p.pre.here) at
  here_now = closing_left p.pre.row p.pre.here

  pub finish_spent : {r : ℕ} → l ≡ 0 → Ends 4 0 r → ClosingPost b at₀ f l₀ w₀ j r
  finish_spent {r} e z =
      record {
        ran = λ g row x. finish_none (p.tree row x) (runs (book_of g) (depths f)) (take (cells f) w) r z ∙ rw e at (p.ran g row x);
        fell = omega (arith, left_over r z);
        jumps = p.jumps;
      }

  -- Its commands come first.
  lead_view : (r : ℕ) (x : ClosingHere b (in_scope b (cells f)) r at₀) → Lead b (in_scope b (cells f)) (p.row r x) at (p.tree r x)
  unfolding closing_left
  lead_view r x = lead (closing_left r x)

  pub lead_pre : CmdsPre b j at f l w
  lead_pre =
      record {
        ready = ready_on p.pre.ready p.jumps p.long p.fell;
        row = p.row p.pre.row p.pre.here;
        here = (lead_view p.pre.row p.pre.here).cmds;
        there = p.there;
      }

  pub lead_falls : {t : ℕ} → fall (depths f) l₀ (length b - at₀ + 3) ≡ t → fall (depths f) l (length b - at + 2) < t
  lead_falls e = fall_bytes _ _ _ _ _ e p.fell (omega (arith, p.past))

  module _ {w₁ j₁ : List ℕ} {a : ℕ} (q : CmdsPost b at f l w w₁ j₁ a) where
    pub lead_stopped : 0x8000000000000000 ≤ a → ClosingPost b at₀ f l₀ w₀ j₁ a
    lead_stopped y =
        record {
          ran =
              λ g r x.
              let v = lead_view r x in
              stop a (take (cells f) w₁) _ _ _ (q.ran g _ v.cmds) (has_ended y)
              ∙ (sym (v.same (runs (book_of g) (depths f)) (take (cells f) w) l) ∙ p.ran g r x);
          fell = omega (arith, q.fell, p.fell);
          jumps = q.jumps;
        }

    module _ (z : a < 0x2000000000000000) {place m : ℕ} (i : HasResult a place) (k : HasLeft a m) where
      place_is : (r : ℕ) (x : ClosingHere b (in_scope b (cells f)) r at₀) → place ≡ (lead_view r x).cmds.next
      place_is r x = i.is ∙ q.stands (p.row r x) (lead_view r x).cmds (not_ended z)

      place_code : 4 ≤ get_or b place 0
      place_code = let v = lead_view p.pre.row p.pre.here in rw (place_is p.pre.row p.pre.here) v.code

      place_past : at ≤ place
      place_past = let v = lead_view p.pre.row p.pre.here in rw (place_is p.pre.row p.pre.here) v.past

      -- A place with a command's code is not where the commands end.
      pub lead_less : get_or b at 0 < 4 → length b - place < length b - at
      lead_less c =
          elim (ℕ_discrete at place) [
            | yes e ↦ (let y : 4 ≤ get_or b at 0 = rw e place_code in absurd (omega arith))
            | no u ↦ omega (arith, place_past, u, p.there)
          ]

      pub lead_on : Closing-on b j₀ at₀ f l₀ w₀ j₁ place m w₁
      lead_on =
          let y = closing_code (lead_view p.pre.row p.pre.here).last in
          record {
            pre = p.pre;
            row = λ r x. (lead_view r x).row;
            tree = λ r x. (lead_view r x).last.tree;
            next = λ r x. (lead_view r x).last.next;
            is =
                λ r x.
                let v = lead_view r x in
                closing_moved v.last.tree b (in_scope b (cells f)) _ (place_is r x) refl v.last.is;
            ran =
                λ g r x.
                let v = lead_view r x in
                rw k.is
                (sym (go a (take (cells f) w₁) _ _ (q.ran g _ v.cmds) (not_ended z))
                ∙ (sym (v.same (runs (book_of g) (depths f)) (take (cells f) w) l) ∙ p.ran g r x));
            long = q.long ∙ p.long;
            fell = omega (arith, q.fell, p.fell, k.is);
            past = omega (arith, p.past, place_past);
            there = rw (place_is p.pre.row p.pre.here) y.there;
            bytes = p.bytes;
            jumps = q.jumps;
          }

  -- A return, or a closing if: one step is spent, and then its expression's.
  module _ (u : 4 ≤ get_or b at 0) (c : l ≡ 0 → ⊥) where
    pub last_pre : EvalPre b j (at + 1) f (l - 1) w
    last_pre = expr_ready (ready_on p.pre.ready p.jumps p.long (omega (arith, p.fell))) (closing_test here_now u)

    pub last_falls : {t : ℕ} → fall (depths f) l₀ (length b - at₀ + 3) ≡ t → fall (depths f) (l - 1) (length b - (at + 1) + 1) < t
    last_falls e = fall_steps _ _ _ _ _ e (omega (arith, p.fell)) (omega (arith, p.bytes))

    module _ {w₁ j₁ : List ℕ} {a : ℕ} (q : EvalPost b (at + 1) f (l - 1) w w₁ j₁ a) where
      last_fell : (answer_of a).left ≤ l₀
      last_fell = omega (arith, q.fell, p.fell)

      -- The sequence with its step spent.
      spent : (g : Opened b) (r : ℕ) (x : ClosingHere b (in_scope b (cells f)) r at₀) →
          finish (p.tree r x) (runs (book_of g) (depths f)) (take (cells f) w) (suc (l - 1))
          ≡ finish x.tree (runs (book_of g) (depths f)) (take (cells f) w₀) l₀
      spent g r x = rw (before_one c) (p.ran g r x)

      pub give_done : get_or b at 0 ≡ 4 → ClosingPost b at₀ f l₀ w₀ j₁ a
      unfolding finish tick closing_left
      give_done k =
          record {
            ran = λ g r x. let v = give_view (closing_left r x) k in q.ran g v.given ∙ rw v.tree at (spent g r x);
            fell = last_fell;
            jumps = q.jumps;
          }

      module _ (m : get_or b at 0 ≡ 4 → ⊥) where
        pick_code : get_or b at 0 ≡ 5
        pick_code = pick_left here_now u m

        picked : (r : ℕ) (x : ClosingHere b (in_scope b (cells f)) r at₀) → PickView b (in_scope b (cells f)) (p.row r x) at (closing_left r x)
        picked r x = pick_view (closing_left r x) pick_code

        pub pick_stopped : 0x8000000000000000 ≤ a → ClosingPost b at₀ f l₀ w₀ j₁ a
        unfolding finish tick closing_left
        pick_stopped y =
            record {
              ran =
                  λ g r x.
                  let v = picked r x in
                  stop a _ _ _ _ (q.ran g v.test) (has_ended y) ∙ rw v.tree at (spent g r x);
              fell = last_fell;
              jumps = q.jumps;
            }

        pub pick_jump : JumpPre (SomePick b) b at j₁
        unfolding picked here_now closing_left
        pick_jump =
            record {
              book = p.pre.ready.book;
              variables = cells f;
              next = (picked p.pre.row p.pre.here).yes.next;
              part = record { row = p.row p.pre.row p.pre.here; here = here_now; code = pick_code; ends = refl };
              jumps = q.jumps;
            }

        module _ {v i place : ℕ} {j₂ : List ℕ} (s : HasResult a v) (k : HasLeft a i) (o : PickedPost b at j₂ v place) where
          yes_place : (v ≡ 0 → ⊥) → (r : ℕ) (x : ClosingHere b (in_scope b (cells f)) r at₀) → place ≡ (picked r x).test.next
          unfolding picked
          yes_place y r x = o.yes y (cells f) (p.row r x) (closing_left r x) pick_code

          no_place : v ≡ 0 → (r : ℕ) (x : ClosingHere b (in_scope b (cells f)) r at₀) → place ≡ (picked r x).yes.next
          unfolding picked
          no_place y r x = o.no y (cells f) (p.row r x) (closing_left r x) pick_code

          pub pick_less : length b - place < length b - at
          pick_less =
              let e = picked p.pre.row p.pre.here in
              elim (ℕ_discrete v 0) [
                | yes y ↦ omega (arith, no_place y p.pre.row p.pre.here, closing_spans e.yes, expr_spans e.test, p.there)
                | no y ↦ omega (arith, yes_place y p.pre.row p.pre.here, expr_spans e.test, p.there)
              ]

          module _ (z : a < 0x2000000000000000) where
            pick_yes : (v ≡ 0 → ⊥) → Closing-on b j₀ at₀ f l₀ w₀ j₂ place i w₁
            unfolding finish tick closing_left
            pick_yes y =
                let e = picked p.pre.row p.pre.here in
                record {
                  pre = p.pre;
                  row = λ r x. p.row r x;
                  tree = λ r x. (picked r x).yes.tree;
                  next = λ r x. (picked r x).yes.next;
                  is = λ r x. let n = picked r x in closing_moved n.yes.tree b (in_scope b (cells f)) _ (yes_place y r x) refl n.yes.is;
                  ran =
                      λ g r x.
                      let n = picked r x in
                      rw (k.is, q.kept)
                      (rw (
                        n.tree,
                        go a _ _ _ (q.ran g n.test) (not_ended z),
                        taken (answer_of a).value (answer_of a).left _ _ (λ h. y (s.is ∙ h)),
                      ) at (spent g r x));
                  long = q.long ∙ p.long;
                  fell = omega (arith, last_fell, k.is);
                  past = omega (arith, p.past, yes_place y p.pre.row p.pre.here, expr_spans e.test);
                  there = rw (yes_place y p.pre.row p.pre.here) (closing_code e.yes).there;
                  bytes = p.bytes;
                  jumps = o.jumps;
                }

            pick_no : v ≡ 0 → Closing-on b j₀ at₀ f l₀ w₀ j₂ place i w₁
            unfolding finish tick closing_left
            pick_no y =
                let e = picked p.pre.row p.pre.here in
                record {
                  pre = p.pre;
                  row = λ r x. p.row r x + cells f * loops_of (picked r x).yes.tree;
                  tree = λ r x. (picked r x).no.tree;
                  next = λ r x. (picked r x).no.next;
                  is = λ r x. let n = picked r x in closing_moved n.no.tree b (in_scope b (cells f)) _ (no_place y r x) refl n.no.is;
                  ran =
                      λ g r x.
                      let n = picked r x in
                      rw (k.is, q.kept)
                      (rw (
                        n.tree,
                        go a _ _ _ (q.ran g n.test) (not_ended z),
                        not_taken (answer_of a).value (answer_of a).left _ _ (sym s.is ∙ y),
                      ) at (spent g r x));
                  long = q.long ∙ p.long;
                  fell = omega (arith, last_fell, k.is);
                  past = omega (arith, p.past, no_place y p.pre.row p.pre.here, closing_spans e.yes, expr_spans e.test);
                  there = rw (no_place y p.pre.row p.pre.here) (closing_code e.no).there;
                  bytes = p.bytes;
                  jumps = o.jumps;
                }

            pub pick_on : Closing-on b j₀ at₀ f l₀ w₀ j₂ place i w₁
            pick_on = elim (ℕ_discrete v 0) [ yes y ↦ pick_no y | no y ↦ pick_yes y ]
