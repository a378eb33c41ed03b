-- Commands while they go on.
use Rattle.std.proofs.Common.{◌≡◌, ℕ, ◌+◌, ◌-◌, ◌*◌, ◌<◌, ◌≤◌, List, length, get_or, take, sym, refl, ◌∙◌, arith}
use Rattle.meaning.specs.Tree.{Run, loops}
use Rattle.meaning.specs.Reading.{Scope}
use Rattle.meaning.specs.Running.{acts, runs}
use Rattle.book.proofs.Views.Bounds.{cmd_spans}
use Rattle.runner.specs.Opened.{Opened, book_of, in_scope}
use Rattle.runner.specs.Answer.{Yields, HasLeft}
use Rattle.runner.specs.Frame.{cells, depths}
use Rattle.runner.specs.Parts.{CmdsAt, CmdsHere, CmdPre, CmdsPre, CmdPost, CmdsPost}
use Rattle.runner.specs.Jumping.{Jumps, CmdEndPost}
use Rattle.runner.proofs.Fall.{fall, fall_bytes}
use Rattle.runner.proofs.Packing.{has_ended, not_ended}
use Rattle.runner.proofs.Outcomes.{stop, go, goes, value_made, left_made, said}
use Rattle.runner.proofs.Leads.{LeadView, lead_view, end_view, cmds_there}
use Rattle.runner.proofs.Exprs.{ready_on}

run_moved : (s : Run) (b : List ℕ) (v : Scope) (r : ℕ) {i j k l : ℕ} → i ≡ j → k ≡ l → CmdsAt s b v r j l → CmdsAt s b v r i k
run_moved s b v r x y h = rw (x, y) h

-- The commands that are left stand from `at` on, and come to what all come to.
pub record Going (b j₀ : List ℕ) (at₀ f l₀ : ℕ) (w₀ j : List ℕ) (at l : ℕ) (w : List ℕ) : Type 0 where
  pub pre : CmdsPre b j₀ at₀ f l₀ w₀
  pub row : (r : ℕ) → CmdsHere b (in_scope b (cells f)) r at₀ → ℕ
  pub tree : (r : ℕ) → CmdsHere b (in_scope b (cells f)) r at₀ → Run
  pub is : (r : ℕ) (x : CmdsHere b (in_scope b (cells f)) r at₀) → CmdsAt (tree r x) b (in_scope b (cells f)) (row r x) at x.next
  pub ran : (g : Opened b) (r : ℕ) (x : CmdsHere b (in_scope b (cells f)) r at₀) →
      acts (tree r x) (runs (book_of g) (depths f)) (take (cells f) w) l ≡ acts x.tree (runs (book_of g) (depths f)) (take (cells f) w₀) l₀
  pub long : length w ≡ length w₀
  pub fell : l ≤ l₀
  pub few : l ≤ 1000000
  pub past : at₀ ≤ at
  pub there : at < length b
  pub bytes : length b ≤ 32768
  pub jumps : Jumps b j

pub going_start : {b j : List ℕ} {at f l : ℕ} {w : List ℕ} → CmdsPre b j at f l w → Going b j at f l w j at l w
going_start h =
    record {
      pre = h;
      row = λ r x. r;
      tree = λ r x. x.tree;
      is = λ r x. x.is;
      ran = λ g r x. refl;
      long = refl;
      fell = omega arith;
      few = h.ready.few;
      past = omega arith;
      there = h.there;
      bytes = h.ready.bytes;
      jumps = h.ready.jumps;
    }

module _ {b j₀ : List ℕ} {at₀ f l₀ : ℕ} {w₀ j : List ℕ} {at l : ℕ} {w : List ℕ} (p : Going b j₀ at₀ f l₀ w₀ j at l w) where
  run_left : (r : ℕ) (x : CmdsHere b (in_scope b (cells f)) r at₀) → CmdsHere b (in_scope b (cells f)) (p.row r x) at
  run_left r x = record { tree = p.tree r x; next = x.next; is = p.is r x }

  -- They have come to an end, since no command stands there.
  ended_here : {r : ℕ} → (1 ≤ get_or b at 0 → get_or b at 0 ≤ 3 → ⊥) → Yields at l r → CmdsPost b at₀ f l₀ w₀ w j r
  unfolding acts run_left
  ended_here {r} e y =
      record {
        ran =
            λ g row x.
            let v = end_view (run_left row x) e in
            rw (goes r y, left_made r y) (said _ _ ∙ rw v.tree at (p.ran g row x));
        long = p.long;
        stands = λ row x z. let v = end_view (run_left row x) e in value_made r y ∙ sym v.next;
        fell = omega (arith, p.fell, left_made r y);
        jumps = p.jumps;
      }

  pub ended_by_stop : {r : ℕ} → get_or b at 0 ≡ 0 → Yields at l r → CmdsPost b at₀ f l₀ w₀ w j r
  ended_by_stop e y = ended_here (λ i k. omega arith) y

  pub ended_by_closing : {r : ℕ} → 3 < get_or b at 0 → Yields at l r → CmdsPost b at₀ f l₀ w₀ w j r
  ended_by_closing e y = ended_here (λ i k. omega arith) y

  module _ (u : get_or b at 0 ≡ 0 → ⊥) (u' : get_or b at 0 ≤ 3) where
    command_view : (r : ℕ) (x : CmdsHere b (in_scope b (cells f)) r at₀) → LeadView b (in_scope b (cells f)) (p.row r x) at (run_left r x)
    command_view r x = lead_view (run_left r x) u u'

    pub command_pre : CmdPre b j at f l w
    command_pre =
        record {
          ready = ready_on p.pre.ready p.jumps p.long p.fell;
          row = p.row p.pre.row p.pre.here;
          here = (command_view p.pre.row p.pre.here).head;
          there = p.there;
        }

    pub command_falls : {t : ℕ} → fall (depths f) l₀ (length b - at₀ + 2) ≡ t → fall (depths f) l (length b - at + 1) < t
    command_falls e = fall_bytes _ _ _ _ _ e p.fell (omega (arith, p.past))

    module _ {w₁ j₁ : List ℕ} {a : ℕ} (q : CmdPost b at f l w w₁ j₁ a) where
      pub commands_stopped : 0x8000000000000000 ≤ a → CmdsPost b at₀ f l₀ w₀ w₁ j₁ a
      unfolding acts run_left
      commands_stopped y =
          record {
            ran =
                λ g r x.
                let v = command_view r x in
                stop a (take (cells f) w₁) (take (cells f) w₁) _ _ (q.ran g _ v.head) (has_ended y) ∙ rw v.tree at (p.ran g r x);
            long = q.long ∙ p.long;
            stands = λ row x z. absurd (has_ended y z);
            fell = omega (arith, q.fell, p.fell);
            jumps = q.jumps;
          }

      module _ {j₂ : List ℕ} {next : ℕ} (e : CmdEndPost b at j₂ next) where
        next_is : (r : ℕ) (x : CmdsHere b (in_scope b (cells f)) r at₀) → next ≡ (command_view r x).head.next
        next_is r x = e.ends (cells f) (p.row r x) (command_view r x).head

        pub going_less : length b - next < length b - at
        going_less =
            let s = cmd_spans (command_view p.pre.row p.pre.here).head in
            omega (arith, next_is p.pre.row p.pre.here, p.there)

        pub going_on : {m : ℕ} → a < 0x2000000000000000 → HasLeft a m → Going b j₀ at₀ f l₀ w₀ j₂ next m w₁
        unfolding acts run_left
        going_on {m} z k =
            let s = cmd_spans (command_view p.pre.row p.pre.here).head in
            let c = cmds_there (command_view p.pre.row p.pre.here).rest in
            record {
              pre = p.pre;
              row = λ r x. p.row r x + cells f * loops (command_view r x).head.tree;
              tree = λ r x. (command_view r x).rest.tree;
              is =
                  λ r x.
                  let v = command_view r x in
                  run_moved v.rest.tree b (in_scope b (cells f)) _ (next_is r x) v.next v.rest.is;
              ran =
                  λ g r x.
                  let v = command_view r x in
                  rw k.is (rw (v.tree, go a (take (cells f) w₁) _ _ (q.ran g _ v.head) (not_ended z)) at (p.ran g r x));
              long = q.long ∙ p.long;
              fell = omega (arith, q.fell, p.fell, k.is);
              few = omega (arith, q.fell, p.few, k.is);
              past = omega (arith, p.past, next_is p.pre.row p.pre.here);
              there = rw (next_is p.pre.row p.pre.here) c;
              bytes = p.bytes;
              jumps = e.jumps;
            }
