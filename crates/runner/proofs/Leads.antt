-- Commands as far as they go, taken apart; a run is such commands, and a closing sequence begins with them.
use Rattle.std.proofs.Common.{◌≡◌, ℕ, ◌+◌, ◌-◌, ◌*◌, ◌<◌, ◌≤◌, List, length, get_or, refl, ◌∙◌, arith}
use Rattle.meaning.specs.Tree.{Run, Closing, loops, stop, then, first, give, pick}
use Rattle.meaning.specs.Reading.{Scope}
use Rattle.meaning.specs.Running.{Callee, Out, done, ended, bind, yield, acts, act, finish}
use Rattle.book.proofs.Text.{RunAt, ClosingAt, CmdHere, RunHere, ClosingHere}
use Rattle.book.proofs.Views.{cmd_code}
use Rattle.book.proofs.Views.Bounds.{cmd_spans}
use Rattle.runner.specs.Parts.{CmdsAt, CmdsHere}
use Rattle.runner.proofs.Outcomes.{bind_same}

pub cmds_there : {b : List ℕ} {v : Scope} {r at : ℕ} (x : CmdsHere b v r at) → at < length b
unfolding CmdsAt
cmds_there {b} {v} {r} {at} x = go x.tree x.is
  where
    go : (s : Run) → CmdsAt s b v r at x.next → at < length b
    go stop i = i.there
    go (then c s) i = let k = cmd_code (record { tree = c; next = i.mid; is = i.head }) in k.there

pub record LeadView (b : List ℕ) (v : Scope) (r at : ℕ) (x : CmdsHere b v r at) : Type 0 where
  pub head : CmdHere b v r at
  pub rest : CmdsHere b v (r + v.variables * loops head.tree) head.next
  pub tree : x.tree ≡ then head.tree rest.tree
  pub next : x.next ≡ rest.next

pub lead_view : {b : List ℕ} {v : Scope} {r at : ℕ} (x : CmdsHere b v r at) → (get_or b at 0 ≡ 0 → ⊥) → get_or b at 0 ≤ 3 → LeadView b v r at x
unfolding CmdsAt
lead_view {b} {v} {r} {at} x h k = go x.tree x.next x.is
  where
    go : (s : Run) (n : ℕ) (i : CmdsAt s b v r at n) → LeadView b v r at (record { tree = s; next = n; is = i })
    go stop n i = absurd (i.other (omega arith) k)
    go (then c s) n i =
        record {
          head = record { tree = c; next = i.mid; is = i.head };
          rest = record { tree = s; next = n; is = i.rest };
          tree = refl;
          next = refl;
        }

pub record EndView (b : List ℕ) (v : Scope) (r at : ℕ) (x : CmdsHere b v r at) : Type 0 where
  pub tree : x.tree ≡ stop
  pub next : x.next ≡ at

pub end_view : {b : List ℕ} {v : Scope} {r at : ℕ} (x : CmdsHere b v r at) → (1 ≤ get_or b at 0 → get_or b at 0 ≤ 3 → ⊥) → EndView b v r at x
unfolding CmdsAt
end_view {b} {v} {r} {at} x u = go x.tree x.next x.is
  where
    go : (s : Run) (n : ℕ) (i : CmdsAt s b v r at n) → EndView b v r at (record { tree = s; next = n; is = i })
    go stop n i = record { tree = refl; next = i.ends }
    go (then c s) n i =
        let k = cmd_code (record { tree = c; next = i.mid; is = i.head }) in
        absurd (u k.least k.most)

-- A run is its commands, up to the byte that ends it.
pub run_lead : (s : Run) (b : List ℕ) (v : Scope) (r at next : ℕ) → RunAt s b v r at next → CmdsAt s b v r at (next - 1)
unfolding RunAt CmdsAt
run_lead stop b v r at next i =
    record { there = i.code.there; other = λ p q. omega (arith, i.code.is); ends = omega (arith, i.ends) }
run_lead (then c s) b v r at next i =
    record { mid = i.mid; head = i.head; rest = run_lead s b v (r + v.variables * loops c) i.mid next i.rest }

abbrev pub of_run : {b : List ℕ} {v : Scope} {r at : ℕ} → RunHere b v r at → CmdsHere b v r at
of_run {b} {v} {r} {at} x = record { tree = x.tree; next = x.next - 1; is = run_lead x.tree b v r at x.next x.is }

-- A closing sequence is commands, and then a return or a closing if.
pub record Lead (b : List ℕ) (v : Scope) (r at : ℕ) (c : Closing) : Type 0 where
  pub cmds : CmdsHere b v r at
  pub row : ℕ
  pub last : ClosingHere b v row cmds.next
  pub code : 4 ≤ get_or b cmds.next 0
  pub past : at ≤ cmds.next
  pub same : (f : Callee) (ρ : List ℕ) (n : ℕ) → finish c f ρ n ≡ bind (acts cmds.tree f ρ n) (λ ρ n. finish last.tree f ρ n)

cmd_past : {b : List ℕ} {v : Scope} {r at : ℕ} (x : CmdHere b v r at) → at < x.next
cmd_past x = (cmd_spans x).on

bind_bind : {A B C : Type 0} (o : Out A) (g : A → ℕ → Out B) (k : B → ℕ → Out C) → bind o (λ a n. bind (g a n) k) ≡ bind (bind o g) k
unfolding bind
bind_bind (done a n) g k = refl
bind_bind (ended e n) g k = refl

lead_of : (c : Closing) (b : List ℕ) (v : Scope) (r at next : ℕ) → ClosingAt c b v r at next → Lead b v r at c
unfolding ClosingAt CmdsAt acts finish bind yield
lead_of (first c d) b v r at next i =
    let k = lead_of d b v (r + v.variables * loops c) i.mid next i.rest in
    let h = cmd_past (record { tree = c; next = i.mid; is = i.head }) in
    record {
      cmds = record { tree = then c k.cmds.tree; next = k.cmds.next; is = record { mid = i.mid; head = i.head; rest = k.cmds.is } };
      row = k.row;
      last = k.last;
      code = k.code;
      past = omega (arith, k.past);
      same =
          λ f ρ n.
          bind_same (act c f ρ n) _ _ (λ σ m. k.same f σ m)
          ∙ bind_bind (act c f ρ n) (λ σ m. acts k.cmds.tree f σ m) (λ σ m. finish k.last.tree f σ m);
    }
lead_of (give e) b v r at next i =
    record {
      cmds = record { tree = stop; next = at; is = record { there = i.code.there; other = λ p q. omega (arith, i.code.is); ends = refl } };
      row = r;
      last = record { tree = give e; next = next; is = i };
      code = omega (arith, i.code.is);
      past = omega arith;
      same = λ f ρ n. refl;
    }
lead_of (pick e c d) b v r at next i =
    record {
      cmds = record { tree = stop; next = at; is = record { there = i.code.there; other = λ p q. omega (arith, i.code.is); ends = refl } };
      row = r;
      last = record { tree = pick e c d; next = next; is = i };
      code = omega (arith, i.code.is);
      past = omega arith;
      same = λ f ρ n. refl;
    }

pub lead : {b : List ℕ} {v : Scope} {r at : ℕ} (x : ClosingHere b v r at) → Lead b v r at x.tree
lead {b} {v} {r} {at} x = lead_of x.tree b v r at x.next x.is
