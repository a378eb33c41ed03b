-- Where the head of each form ends, and the parts inside it.
use Rattle.std.proofs.Common.{◌≡◌, ℕ, ◌+◌, ◌*◌, ◌<◌, ◌≤◌, List, length, get_or, sym, refl, ◌∙◌, arith, w64, Fits}
use native.Mathlib.Decide.{ℕ_discrete}
use Rattle.meaning.specs.Reading.{Scope, arities, entries, procedures, entry}
use Rattle.book.proofs.Text.{ExprHere, CmdHere, ClosingHere}
use Rattle.book.proofs.Views.{expr_code, cmd_code, run_code, closing_code}
use Rattle.book.proofs.Views.{constant_view, variable_view, operation_view, call_view, assign_view, branch_view, loop_view}
use Rattle.book.proofs.Views.{stop_view, then_view, give_view, pick_view, first_view}
use Rattle.book.proofs.Views.Bounds.{expr_spans, cmd_spans}
use Rattle.runner.specs.Opened.{Opened, in_scope}
use Rattle.runner.specs.Skipping.{SomeExpr, SomeCmd, SomeRun, SomeClosing, RowPre, RowPost, PartPre, HeadPost}
use Rattle.runner.specs.declared.skip.Head.{Head}
use Rattle.runner.specs.Spanning.{spanned_cmd, spanned_run}
use Rattle.runner.proofs.Rows.{one_part, two_parts, no_parts, rows_append, args_row, head_few}

-- A called procedure's entry lies within the contents, and its parameters are counted there.
pub record Called (b : List ℕ) (p : ℕ) : Type 0 where
  pub known : p < procedures b
  pub within : 7 + 6 * p ≤ length b
  pub counted : get_or (arities (entries b)) p 0 ≡ (entry b p).parameters

module _ {b : List ℕ} where
  -- The code of a call is the one that is left.
  pub call_left : {v : Scope} {at : ℕ} (x : ExprHere b v at) → (get_or b at 0 ≡ 0x10 → ⊥) → (get_or b at 0 ≡ 0x11 → ⊥) →
      (get_or b at 0 ≡ 0x12 → ⊥) → get_or b at 0 ≡ 0x13
  call_left x p q r = let k = expr_code x in omega arith

  -- Whatever stands here stands within the book, and the book is short: two laws, so that `omega` takes each as a rule.
  pub expr_there : {at : ℕ} → PartPre (SomeExpr b) b at → at < length b
  expr_there h = let k = expr_code h.part.here in omega arith

  pub expr_few : {at : ℕ} → PartPre (SomeExpr b) b at → length b ≤ 32768
  expr_few h = let f = h.book.facts in omega arith

  pub cmd_there : {at : ℕ} → PartPre (SomeCmd b) b at → at < length b
  cmd_there h = let k = cmd_code h.part.here in omega arith

  pub cmd_few : {at : ℕ} → PartPre (SomeCmd b) b at → length b ≤ 32768
  cmd_few h = let f = h.book.facts in omega arith

  pub run_there : {at : ℕ} → PartPre (SomeRun b) b at → at < length b
  run_there h = let k = run_code h.part.here in omega arith

  pub run_few : {at : ℕ} → PartPre (SomeRun b) b at → length b ≤ 32768
  run_few h = let f = h.book.facts in omega arith

  pub closing_there : {at : ℕ} → PartPre (SomeClosing b) b at → at < length b
  closing_there h = let k = closing_code h.part.here in omega arith

  pub closing_few : {at : ℕ} → PartPre (SomeClosing b) b at → length b ≤ 32768
  closing_few h = let f = h.book.facts in omega arith

  pub constant_head : {at : ℕ} → PartPre (SomeExpr b) b at → get_or b at 0 ≡ 0x10 →
      HeadPost (SomeExpr b) (SomeExpr b) b at (record { next = at + 5; more = 0 })
  constant_head h e =
      record { on = omega arith; rest = λ n next x. no_parts (SomeExpr b _) (x.ends ∙ (constant_view x.here e).next) }

  pub variable_head : {at : ℕ} → PartPre (SomeExpr b) b at → get_or b at 0 ≡ 0x11 →
      HeadPost (SomeExpr b) (SomeExpr b) b at (record { next = at + 2; more = 0 })
  variable_head h e =
      record { on = omega arith; rest = λ n next x. no_parts (SomeExpr b _) (x.ends ∙ (variable_view x.here e).next) }

  pub operation_head : {at : ℕ} → PartPre (SomeExpr b) b at → get_or b at 0 ≡ 0x12 →
      HeadPost (SomeExpr b) (SomeExpr b) b at (record { next = at + 2; more = 2 })
  operation_head h e =
      record {
        on = omega arith;
        rest =
            λ n next x.
            let v = operation_view x.here e in
            two_parts (SomeExpr b _) (record { here = v.left; ends = refl }) (record { here = v.right; ends = x.ends ∙ v.next });
      }

  pub called : Opened b → (p : ℕ) → p < length (arities (entries b)) → Called b p
  called g p h =
      let f = g.facts in
      let k : p < procedures b = omega arith in
      record { known = k; within = omega arith; counted = f.arity p k }

  -- The number of the procedure called, and the entry that it counts on.
  pub call_there : {at : ℕ} → PartPre (SomeExpr b) b at → (get_or b at 0 ≡ 0x10 → ⊥) → (get_or b at 0 ≡ 0x11 → ⊥) →
      (get_or b at 0 ≡ 0x12 → ⊥) → at + 1 < length b
  call_there h p q r = (call_view h.part.here (call_left h.part.here p q r)).there

  pub call_entry : {at n : ℕ} → PartPre (SomeExpr b) b at → (get_or b at 0 ≡ 0x10 → ⊥) → (get_or b at 0 ≡ 0x11 → ⊥) →
      (get_or b at 0 ≡ 0x12 → ⊥) → n ≡ get_or b (at + 1) 0 → 7 + 6 * n ≤ length b
  call_entry {at} {n} h p q r e =
      let v = call_view h.part.here (call_left h.part.here p q r) in
      rw e (called h.book (get_or b (at + 1) 0) v.known).within

  pub call_head : {at n m : ℕ} → PartPre (SomeExpr b) b at → (get_or b at 0 ≡ 0x10 → ⊥) → (get_or b at 0 ≡ 0x11 → ⊥) →
      (get_or b at 0 ≡ 0x12 → ⊥) → n ≡ get_or b (at + 1) 0 → m ≡ (entry b n).parameters →
      HeadPost (SomeExpr b) (SomeExpr b) b at (record { next = at + 2; more = m })
  call_head {at} {n} {m} h p q r e c =
      record {
        on = omega arith;
        rest =
            λ k next x.
            let v = call_view x.here (call_left x.here p q r) in
            let w = called h.book (get_or b (at + 1) 0) v.known in
            rw (c, e, ← w.counted, x.ends, v.next) (args_row v.given.tree b _ _ _ _ v.given.is);
      }

  -- One expression, and where it ends.
  one_expr : Opened b → (n : ℕ) {at : ℕ} → ExprHere b (in_scope b n) at → RowPre (SomeExpr b) b at 1
  one_expr g n x =
      record { book = g; variables = n; next = x.next; row = one_part (SomeExpr b _) (record { here = x; ends = refl }) }

  past_expr : {n at r : ℕ} → RowPost (SomeExpr b) b at 1 r → (x : ExprHere b (in_scope b n) at) → r ≡ x.next
  past_expr {n} q x = q.past n x.next (one_part (SomeExpr b _) (record { here = x; ends = refl }))

  pub assign_row : {at : ℕ} → PartPre (SomeCmd b) b at → get_or b at 0 ≡ 0x01 → RowPre (SomeExpr b) b (at + 2) 1
  assign_row h e = one_expr h.book h.variables (assign_view h.part.here e).given

  pub assign_head : {at r : ℕ} → PartPre (SomeCmd b) b at → get_or b at 0 ≡ 0x01 → RowPost (SomeExpr b) b (at + 2) 1 r →
      HeadPost (SomeCmd b) (SomeRun b) b at (record { next = r; more = 0 })
  assign_head {at} {r} h e q =
      let v = assign_view h.part.here e in
      let s = expr_spans v.given in
      let k = past_expr q v.given in
      record {
        on = omega arith;
        rest =
            λ n next x.
            let v = assign_view x.here e in
            no_parts (SomeRun b _) (x.ends ∙ (v.next ∙ sym (past_expr q v.given)));
      }

  -- The codes that are left: a loop's, a closing if's.
  pub loop_left : {v : Scope} {row at : ℕ} (x : CmdHere b v row at) → (get_or b at 0 ≡ 0x01 → ⊥) →
      (get_or b at 0 ≡ 0x02 → ⊥) → get_or b at 0 ≡ 0x03
  loop_left x p q = let k = cmd_code x in omega arith

  pub pick_left : {v : Scope} {row at : ℕ} (x : ClosingHere b v row at) → 0x04 ≤ get_or b at 0 →
      (get_or b at 0 ≡ 0x04 → ⊥) → get_or b at 0 ≡ 0x05
  pick_left x p q = let k = closing_code x in omega arith

  -- The test of an if or of a loop.
  cmd_test : {v : Scope} {row at : ℕ} (x : CmdHere b v row at) → (get_or b at 0 ≡ 0x01 → ⊥) → ExprHere b v (at + 1)
  cmd_test {v} {row} {at} x p =
      elim (ℕ_discrete (get_or b at 0) 0x02)
      [ yes e ↦ (branch_view x e).test | no u ↦ (loop_view x (loop_left x p u)).test ]

  pub closing_test : {v : Scope} {row at : ℕ} (x : ClosingHere b v row at) → 0x04 ≤ get_or b at 0 → ExprHere b v (at + 1)
  closing_test {v} {row} {at} x p =
      elim (ℕ_discrete (get_or b at 0) 0x04)
      [ yes e ↦ (give_view x e).given | no u ↦ (pick_view x (pick_left x p u)).test ]

  pub test_row : {at : ℕ} → PartPre (SomeCmd b) b at → (get_or b at 0 ≡ 0x01 → ⊥) → RowPre (SomeExpr b) b (at + 1) 1
  test_row h p = one_expr h.book h.variables (cmd_test h.part.here p)

  pub branch_head : {at r : ℕ} → PartPre (SomeCmd b) b at → get_or b at 0 ≡ 0x02 → RowPost (SomeExpr b) b (at + 1) 1 r →
      HeadPost (SomeCmd b) (SomeRun b) b at (record { next = r; more = 2 })
  branch_head {at} {r} h e q =
      let v = branch_view h.part.here e in
      let s = expr_spans v.test in
      let k = past_expr q v.test in
      record {
        on = omega arith;
        rest =
            λ n next x.
            let v = branch_view x.here e in
            rw (past_expr q v.test)
            (two_parts (SomeRun b _) (record { row = _; here = v.yes; ends = refl })
            (record { row = _; here = v.no; ends = x.ends ∙ v.next }));
      }

  pub loop_head : {at r : ℕ} → PartPre (SomeCmd b) b at → (get_or b at 0 ≡ 0x01 → ⊥) → (get_or b at 0 ≡ 0x02 → ⊥) →
      RowPost (SomeExpr b) b (at + 1) 1 r → HeadPost (SomeCmd b) (SomeRun b) b at (record { next = r; more = 1 })
  loop_head {at} {r} h p u q =
      let e = loop_left h.part.here p u in
      let v = loop_view h.part.here e in
      let s = expr_spans v.test in
      let k = past_expr q v.test in
      record {
        on = omega arith;
        rest =
            λ n next x.
            let v = loop_view x.here e in
            rw (past_expr q v.test)
            (one_part (SomeRun b _) (record { row = _; here = v.inside; ends = x.ends ∙ v.next }));
      }

  pub stop_head : {at : ℕ} → PartPre (SomeRun b) b at → get_or b at 0 ≡ 0x00 →
      HeadPost (SomeRun b) (SomeRun b) b at (record { next = at + 1; more = 0 })
  stop_head h e = record { on = omega arith; rest = λ n next x. no_parts (SomeRun b _) (x.ends ∙ (stop_view x.here e).next) }

  pub then_part : {at : ℕ} → PartPre (SomeRun b) b at → (get_or b at 0 ≡ 0x00 → ⊥) → PartPre (SomeCmd b) b at
  then_part h u =
      let v = then_view h.part.here u in
      record { book = h.book; variables = h.variables; next = v.head.next; part = record { row = _; here = v.head; ends = refl } }

  -- The runs inside a command are no more than the book's bytes.
  pub then_fits : {at : ℕ} {r : Head} → PartPre (SomeRun b) b at → (get_or b at 0 ≡ 0x00 → ⊥) →
      HeadPost (SomeCmd b) (SomeRun b) b at r → Fits w64 (r.more + 1)
  then_fits h u q =
      let k = head_few (SomeCmd b) (SomeRun b) (spanned_cmd b) (spanned_run b) (then_part h u) q in
      let f = h.book.facts in
      omega arith

  pub then_head : {at : ℕ} {r : Head} → PartPre (SomeRun b) b at → (get_or b at 0 ≡ 0x00 → ⊥) →
      HeadPost (SomeCmd b) (SomeRun b) b at r → HeadPost (SomeRun b) (SomeRun b) b at (record { next = r.next; more = r.more + 1 })
  then_head {at} {r} h u q =
      record {
        on = q.on;
        rest =
            λ n next x.
            let v = then_view x.here u in
            rows_append (SomeRun b (in_scope b n)) r.more 1 r.next v.head.next next
            (q.rest n v.head.next (record { row = _; here = v.head; ends = refl }))
            (one_part (SomeRun b _) (record { row = _; here = v.rest; ends = x.ends ∙ v.next }));
      }

  pub first_part : {at : ℕ} → PartPre (SomeClosing b) b at → get_or b at 0 < 0x04 → PartPre (SomeCmd b) b at
  first_part h l =
      let v = first_view h.part.here l in
      record { book = h.book; variables = h.variables; next = v.head.next; part = record { row = _; here = v.head; ends = refl } }

  pub first_row : {at : ℕ} {r : Head} → PartPre (SomeClosing b) b at → get_or b at 0 < 0x04 →
      HeadPost (SomeCmd b) (SomeRun b) b at r → RowPre (SomeRun b) b r.next r.more
  first_row h l q =
      let k = first_part h l in
      record { book = k.book; variables = k.variables; next = k.next; row = q.rest k.variables k.next k.part }

  pub first_head : {at r : ℕ} {k : Head} → PartPre (SomeClosing b) b at → get_or b at 0 < 0x04 →
      HeadPost (SomeCmd b) (SomeRun b) b at k → RowPost (SomeRun b) b k.next k.more r →
      HeadPost (SomeClosing b) (SomeClosing b) b at (record { next = r; more = 1 })
  first_head {at} {r} {k} h l q o =
      let n = h.variables in
      let v = first_view h.part.here l in
      let s = cmd_spans v.head in
      let e = o.past n v.head.next (q.rest n v.head.next (record { row = _; here = v.head; ends = refl })) in
      record {
        on = omega arith;
        rest =
            λ n next x.
            let v = first_view x.here l in
            rw (o.past n v.head.next (q.rest n v.head.next (record { row = _; here = v.head; ends = refl })))
            (one_part (SomeClosing b _) (record { row = _; here = v.rest; ends = x.ends ∙ v.next }));
      }

  pub last_row : {at : ℕ} → PartPre (SomeClosing b) b at → 0x04 ≤ get_or b at 0 → RowPre (SomeExpr b) b (at + 1) 1
  last_row h l = one_expr h.book h.variables (closing_test h.part.here l)

  pub give_head : {at r : ℕ} → PartPre (SomeClosing b) b at → get_or b at 0 ≡ 0x04 → RowPost (SomeExpr b) b (at + 1) 1 r →
      HeadPost (SomeClosing b) (SomeClosing b) b at (record { next = r; more = 0 })
  give_head {at} {r} h e q =
      let v = give_view h.part.here e in
      let s = expr_spans v.given in
      let k = past_expr q v.given in
      record {
        on = omega arith;
        rest =
            λ n next x.
            let v = give_view x.here e in
            no_parts (SomeClosing b _) (x.ends ∙ (v.next ∙ sym (past_expr q v.given)));
      }

  pub pick_head : {at r : ℕ} → PartPre (SomeClosing b) b at → 0x04 ≤ get_or b at 0 → (get_or b at 0 ≡ 0x04 → ⊥) →
      RowPost (SomeExpr b) b (at + 1) 1 r → HeadPost (SomeClosing b) (SomeClosing b) b at (record { next = r; more = 2 })
  pick_head {at} {r} h l u q =
      let e = pick_left h.part.here l u in
      let v = pick_view h.part.here e in
      let s = expr_spans v.test in
      let k = past_expr q v.test in
      record {
        on = omega arith;
        rest =
            λ n next x.
            let v = pick_view x.here e in
            rw (past_expr q v.test)
            (two_parts (SomeClosing b _) (record { row = _; here = v.yes; ends = refl })
            (record { row = _; here = v.no; ends = x.ends ∙ v.next }));
      }
