-- Where commands end, and where the ways of an if begin, by the ends of their parts.
use Rattle.std.proofs.Common.{◌≡◌, ℕ, ◌+◌, ◌<◌, List, length, get_or, sym, refl, ◌∙◌, arith}
use native.Mathlib.Decide.{ℕ_discrete}
use Rattle.meaning.specs.Reading.{Scope}
use Rattle.book.proofs.Text.{ExprHere, CmdHere, RunHere}
use Rattle.book.proofs.Views.{cmd_code, assign_view, branch_view, loop_view, pick_view}
use Rattle.runner.specs.Opened.{Opened, in_scope}
use Rattle.runner.specs.Skipping.{SomeExpr, SomeRun, SomeCmd}
use Rattle.runner.specs.Jumping.{SomeIf, SomePick, EndsAt, Jumps, JumpPre, JumpPost, CmdEndPost, TakenPost, PickedPost}
use Rattle.runner.proofs.Heads.{loop_left}
use Rattle.runner.proofs.Memo.{ends_expr, ends_run, ends_pick}

module _ {b j : List ℕ} {n at : ℕ} (g : Opened b) where
  -- One part whose end is asked.
  pub one_expr : ExprHere b (in_scope b n) at → Jumps b j → JumpPre (SomeExpr b) b at j
  one_expr x q = record { book = g; variables = n; next = x.next; part = record { here = x; ends = refl }; jumps = q }

  pub one_run : {row : ℕ} → RunHere b (in_scope b n) row at → Jumps b j → JumpPre (SomeRun b) b at j
  one_run {row} x q =
      record { book = g; variables = n; next = x.next; part = record { row = row; here = x; ends = refl }; jumps = q }

-- What an if and a loop have alike: a test, and a run after it.
record Tested (b : List ℕ) (v : Scope) (at : ℕ) : Type 0 where
  row : ℕ
  test : ExprHere b v (at + 1)
  run : RunHere b v row test.next

tested : {b : List ℕ} {v : Scope} {row at : ℕ} (x : CmdHere b v row at) → (get_or b at 0 ≡ 0x01 → ⊥) → Tested b v at
tested {b} {at = at} x p =
    elim (ℕ_discrete (get_or b at 0) 0x02) [
      | yes e ↦ let v = branch_view x e in record { row = _; test = v.test; run = v.yes }
      | no u ↦ let v = loop_view x (loop_left x p u) in record { row = _; test = v.test; run = v.inside }
    ]

-- The code of an if is the one that is left.
branch_left : {b : List ℕ} {v : Scope} {row at : ℕ} (x : CmdHere b v row at) → (get_or b at 0 ≡ 0x01 → ⊥) → (get_or b at 0 ≡ 0x03 → ⊥) →
    get_or b at 0 ≡ 0x02
branch_left x p q = let k = cmd_code x in omega arith

-- What stands after a part whose end was found, and after the part behind that.
module _ {b : List ℕ} {at mid : ℕ} (m : EndsAt b at mid) {n : ℕ} (t : ExprHere b (in_scope b n) at) where
  run_after : {j : List ℕ} {row : ℕ} → Opened b → RunHere b (in_scope b n) row t.next → Jumps b j → JumpPre (SomeRun b) b mid j
  run_after g s q = rw (ends_expr m t) (one_run g s q)

  module _ {other row : ℕ} (o : EndsAt b mid other) (s : RunHere b (in_scope b n) row t.next) where
    run_ends : other ≡ s.next
    run_ends = let k : EndsAt b t.next other = rw (ends_expr m t) at o in ends_run k s

    run_behind : {j : List ℕ} {r : ℕ} → Opened b → RunHere b (in_scope b n) r s.next → Jumps b j → JumpPre (SomeRun b) b other j
    run_behind g z q = rw run_ends (one_run g z q)

    behind_ends : {last r : ℕ} → EndsAt b other last → (z : RunHere b (in_scope b n) r s.next) → last ≡ z.next
    behind_ends {last} l z = let k : EndsAt b s.next last = rw run_ends at l in ends_run k z

module _ {b : List ℕ} {at : ℕ} where
  -- Commands.
  module _ {j : List ℕ} (h : JumpPre (SomeCmd b) b at j) where
    pub cmd_there : at < length b
    cmd_there = (cmd_code h.part.here).there

    pub assign_given : get_or b at 0 ≡ 0x01 → JumpPre (SomeExpr b) b (at + 2) j
    assign_given e = one_expr h.book (assign_view h.part.here e).given h.jumps

    pub cmd_test : (get_or b at 0 ≡ 0x01 → ⊥) → JumpPre (SomeExpr b) b (at + 1) j
    cmd_test p = one_expr h.book (tested h.part.here p).test h.jumps

    pub cmd_run : {j₁ : List ℕ} {mid : ℕ} → (get_or b at 0 ≡ 0x01 → ⊥) → JumpPost b (at + 1) j₁ mid → JumpPre (SomeRun b) b mid j₁
    cmd_run p m = let v = tested h.part.here p in run_after m.ends v.test h.book v.run m.jumps

  pub assign_ends : {j : List ℕ} {r : ℕ} → get_or b at 0 ≡ 0x01 → JumpPost b (at + 2) j r → CmdEndPost b at j r
  assign_ends e m =
      record { ends = λ n row x. let v = assign_view x e in ends_expr m.ends v.given ∙ sym v.next; jumps = m.jumps }

  -- An if: its second run stands where the first ends, and the if ends where the second ends.
  pub cmd_other : {j j₁ j₂ : List ℕ} {mid other : ℕ} → JumpPre (SomeCmd b) b at j → (get_or b at 0 ≡ 0x03 → ⊥) → (get_or b at 0 ≡ 0x01 → ⊥) →
      JumpPost b (at + 1) j₁ mid → JumpPost b mid j₂ other → JumpPre (SomeRun b) b other j₂
  cmd_other h u p m o =
      let v = branch_view h.part.here (branch_left h.part.here p u) in
      run_behind m.ends v.test o.ends v.yes h.book v.no o.jumps

  pub branch_ends : {j₁ j₂ j₃ : List ℕ} {mid other r : ℕ} → (get_or b at 0 ≡ 0x03 → ⊥) → (get_or b at 0 ≡ 0x01 → ⊥) →
      JumpPost b (at + 1) j₁ mid → JumpPost b mid j₂ other → JumpPost b other j₃ r → CmdEndPost b at j₃ r
  branch_ends u p m o l =
      record {
        ends =
            λ n row x.
            let v = branch_view x (branch_left x p u) in
            behind_ends m.ends v.test o.ends v.yes l.ends v.no ∙ sym v.next;
        jumps = l.jumps;
      }

  pub loop_ends : {j₁ j₂ : List ℕ} {mid r : ℕ} → get_or b at 0 ≡ 0x03 → JumpPost b (at + 1) j₁ mid → JumpPost b mid j₂ r → CmdEndPost b at j₂ r
  loop_ends e m o =
      record {
        ends = λ n row x. let v = loop_view x e in run_ends m.ends v.test o.ends v.inside ∙ sym v.next;
        jumps = o.jumps;
      }

  -- The two ways of an if.
  module _ {j : List ℕ} (h : JumpPre (SomeIf b) b at j) where
    pub if_there : at < length b
    if_there = (cmd_code h.part.here).there

    pub if_test : JumpPre (SomeExpr b) b (at + 1) j
    if_test = one_expr h.book (branch_view h.part.here h.part.code).test h.jumps

    pub if_yes : {j₁ : List ℕ} {mid : ℕ} → JumpPost b (at + 1) j₁ mid → JumpPre (SomeRun b) b mid j₁
    if_yes m =
        let v = branch_view h.part.here h.part.code in
        run_after m.ends v.test h.book v.yes m.jumps

  pub taken_yes : {j : List ℕ} {v r : ℕ} → (v ≡ 0 → ⊥) → JumpPost b (at + 1) j r → TakenPost b at j v r
  taken_yes u m =
      record { yes = λ _ n row x k. ends_expr m.ends (branch_view x k).test; no = λ z. absurd (u z); jumps = m.jumps }

  pub taken_no : {j₁ j₂ : List ℕ} {v mid r : ℕ} → v ≡ 0 → JumpPost b (at + 1) j₁ mid → JumpPost b mid j₂ r → TakenPost b at j₂ v r
  taken_no z m o =
      record {
        yes = λ u. absurd (u z);
        no = λ _ n row x k. let v = branch_view x k in run_ends m.ends v.test o.ends v.yes;
        jumps = o.jumps;
      }

  -- The two ways of a closing if.
  pub pick_test : {j : List ℕ} → JumpPre (SomePick b) b at j → JumpPre (SomeExpr b) b (at + 1) j
  pick_test h = one_expr h.book (pick_view h.part.here h.part.code).test h.jumps

  pub picked_yes : {j : List ℕ} {v r : ℕ} → (v ≡ 0 → ⊥) → JumpPost b (at + 1) j r → PickedPost b at j v r
  picked_yes u m =
      record { yes = λ _ n row x k. ends_expr m.ends (pick_view x k).test; no = λ z. absurd (u z); jumps = m.jumps }

  pub picked_no : {j : List ℕ} {v r : ℕ} → v ≡ 0 → JumpPost b at j r → PickedPost b at j v r
  picked_no z m = record { yes = λ u. absurd (u z); no = λ _ n row x k. ends_pick m.ends x k; jumps = m.jumps }
