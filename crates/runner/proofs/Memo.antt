-- The memo of jumps: what is found is right for whatever stands there, and keeping it keeps the memo right.
use Rattle.std.proofs.Common.{◌≡◌, ℕ, zero, suc, ◌+◌, ◌<◌, ◌≤◌, List, length, get_or, set, replicate, sym, refl, ◌∙◌, arith, length-set, get_or-set_other, get_or-set_same}
use native.Mathlib.Decide.{ℕ_discrete}
use lib.ListN.{length-replicate}
use Rattle.meaning.specs.Reading.{Scope}
use Rattle.book.proofs.Text.{ExprHere, RunHere, ClosingHere}
use Rattle.book.proofs.Views.{expr_code, run_code, closing_code, constant_view, variable_view, pick_view}
use Rattle.book.proofs.Views.Bounds.{expr_spans, run_spans, closing_spans}
use Rattle.runner.specs.Opened.{in_scope}
use Rattle.runner.specs.Skipping.{SomeExpr, SomeRun, SomeClosing, RowPre, RowPost, PartPre, PartPost}
use Rattle.runner.specs.Jumping.{SomePick, Jump, expr, run, pick, EndsAt, Jumps, JumpPre, JumpPost, Noted}
use Rattle.runner.proofs.Rows.{one_part}

module _ {b : List ℕ} where
  noted : {j : List ℕ} {at : ℕ} → at < length b → Jumps b j → at < length j
  noted h p = omega arith

  jumps_set : {j : List ℕ} {at r : ℕ} → Jumps b j → at < length j → EndsAt b at r → Jumps b (set j at r)
  jumps_set {j} {at} {r} p h e =
      record {
        long = rw (length-set j at r) p.long;
        right = λ i u. elim (ℕ_discrete at i) [ yes q ↦ same i q | no q ↦ other i q u ];
      }
    where
      same : (i : ℕ) → at ≡ i → EndsAt b i (get_or (set j at r) i 0)
      same i q = rw (← q, get_or-set_same j at r 0 h) e

      other : (i : ℕ) → (at ≡ i → ⊥) → (get_or (set j at r) i 0 ≡ 0 → ⊥) → EndsAt b i (get_or (set j at r) i 0)
      other i q u =
          let z = get_or-set_other j at i r 0 (λ y. q (sym y)) in
          rw z (p.right i (λ y. u (z ∙ y)))

  module _ {at : ℕ} (k : 0x10 ≤ get_or b at 0) where
    no_run : {v : Scope} {next : ℕ} → SomeRun b v at next → ⊥
    no_run x = let c = run_code x.here in omega arith

    pub expr_only : {r : ℕ} → ((n next : ℕ) → SomeExpr b (in_scope b n) at next → r ≡ next) → EndsAt b at r
    expr_only {r} f = record { past = λ n next x. go n next x }
      where
        go : (n next : ℕ) → Jump b (in_scope b n) at next → r ≡ next
        go n next (expr x) = f n next x
        go n next (run x) = absurd (no_run x)
        go n next (pick x) = let c = x.code in absurd (omega arith)

  run_only : {at r : ℕ} → get_or b at 0 ≤ 3 → ((n next : ℕ) → SomeRun b (in_scope b n) at next → r ≡ next) → EndsAt b at r
  run_only {at} {r} k f = record { past = λ n next x. go n next x }
    where
      go : (n next : ℕ) → Jump b (in_scope b n) at next → r ≡ next
      go n next (expr x) = let c = expr_code x.here in absurd (omega arith)
      go n next (run x) = f n next x
      go n next (pick x) = let c = x.code in absurd (omega arith)

  pick_only : {at r : ℕ} → get_or b at 0 ≡ 5 → ((n next : ℕ) → SomePick b (in_scope b n) at next → r ≡ next) → EndsAt b at r
  pick_only {at} {r} k f = record { past = λ n next x. go n next x }
    where
      go : (n next : ℕ) → Jump b (in_scope b n) at next → r ≡ next
      go n next (expr x) = let c = expr_code x.here in absurd (omega arith)
      go n next (run x) = let c = run_code x.here in absurd (omega arith)
      go n next (pick x) = f n next x

  module _ {at : ℕ} {j : List ℕ} where
    -- Expressions.
    module _ (h : JumpPre (SomeExpr b) b at j) where
      pub expr_there : at < length b
      expr_there = (expr_code h.part.here).there

      pub variable_end : get_or b at 0 ≡ 0x11 → JumpPost b at j (at + 2)
      variable_end e = record { ends = expr_only (omega arith) (λ n next x. sym (x.ends ∙ (variable_view x.here e).next)); jumps = h.jumps }

      pub constant_end : get_or b at 0 ≡ 0x10 → JumpPost b at j (at + 5)
      constant_end e = record { ends = expr_only (omega arith) (λ n next x. sym (x.ends ∙ (constant_view x.here e).next)); jumps = h.jumps }

      pub expr_row : RowPre (SomeExpr b) b at 1
      expr_row = record { book = h.book; variables = h.variables; next = h.next; row = one_part (SomeExpr b _) h.part }

      pub expr_found : {r : ℕ} → RowPost (SomeExpr b) b at 1 r → JumpPost b at (set j at r) r
      expr_found {r} q =
          let k = expr_code h.part.here in
          let e : EndsAt b at r = expr_only (omega arith) (λ n next x. q.past n next (one_part (SomeExpr b _) x)) in
          record { ends = e; jumps = jumps_set h.jumps (noted expr_there h.jumps) e }

      pub expr_small : {r : ℕ} → RowPost (SomeExpr b) b at 1 r → r < 65536
      expr_small q =
          let e = q.past h.variables h.next (one_part (SomeExpr b _) h.part) in
          let s = expr_spans h.part.here in
          omega (arith, h.part.ends, h.book.facts.few_bytes)

    -- Runs.
    module _ (h : JumpPre (SomeRun b) b at j) where
      pub run_there : at < length b
      run_there = (run_code h.part.here).there

      pub run_row : RowPre (SomeRun b) b at 1
      run_row = record { book = h.book; variables = h.variables; next = h.next; row = one_part (SomeRun b _) h.part }

      pub run_found : {r : ℕ} → RowPost (SomeRun b) b at 1 r → JumpPost b at (set j at r) r
      run_found {r} q =
          let k = run_code h.part.here in
          let e : EndsAt b at r = run_only (omega arith) (λ n next x. q.past n next (one_part (SomeRun b _) x)) in
          record { ends = e; jumps = jumps_set h.jumps (noted run_there h.jumps) e }

      pub run_small : {r : ℕ} → RowPost (SomeRun b) b at 1 r → r < 65536
      run_small q =
          let e = q.past h.variables h.next (one_part (SomeRun b _) h.part) in
          let s = run_spans h.part.here in
          omega (arith, h.part.ends, h.book.facts.few_bytes)

    -- Closing ifs.
    module _ (h : JumpPre (SomePick b) b at j) where
      pub pick_there : at < length b
      pick_there = (closing_code h.part.here).there

      pub pick_part : PartPre (SomePick b) b at
      pick_part = record { book = h.book; variables = h.variables; next = h.next; part = h.part }

      pub pick_found : {r : ℕ} → PartPost (SomePick b) b at r → JumpPost b at (set j at r) r
      pick_found {r} q =
          let e : EndsAt b at r = pick_only h.part.code q.past in
          record { ends = e; jumps = jumps_set h.jumps (noted pick_there h.jumps) e }

      pub pick_small : {r : ℕ} → PartPost (SomePick b) b at r → r < 65536
      pick_small q =
          let e = q.past h.variables h.next h.part in
          let s = closing_spans (pick_view h.part.here h.part.code).yes in
          omega (arith, h.part.ends, h.book.facts.few_bytes)

    -- A jump that is known, or found and kept.
    pub noted_end : {j' : List ℕ} {r : ℕ} {Q : ℕ → Type 0} → Jumps b j → Noted Q j at j' r →
        ((r : ℕ) → Q r → JumpPost b at (set j at r) r) → JumpPost b at j' r
    noted_end {r = r} p n f =
        elim (ℕ_discrete (get_or j at 0) 0) [
          | yes z ↦ let x = n.found z in rw x.1 (f r x.0)
          | no u ↦ let x = n.known u in rw x.1 (record { ends = rw x.0 (p.right at u); jumps = p })
        ]

-- A closing if's second sequence, past its test and its first.
module _ {b : List ℕ} {at : ℕ} (h : PartPre (SomePick b) b at) where
  pub test_there : at < length b
  test_there = (closing_code h.part.here).there

  pub test_row : RowPre (SomeExpr b) b (at + 1) 1
  test_row =
      let v = pick_view h.part.here h.part.code in
      record { book = h.book; variables = h.variables; next = v.test.next; row = one_part (SomeExpr b _) (record { here = v.test; ends = refl }) }

  module _ {t : ℕ} (p : RowPost (SomeExpr b) b (at + 1) 1 t) where
    tested : {n : ℕ} (x : ExprHere b (in_scope b n) (at + 1)) → t ≡ x.next
    tested {n} x = p.past n x.next (one_part (SomeExpr b _) (record { here = x; ends = refl }))

    pub yes_row : RowPre (SomeClosing b) b t 1
    yes_row =
        let v = pick_view h.part.here h.part.code in
        let x : SomeClosing b _ _ _ = record { row = h.part.row; here = v.yes; ends = refl } in
        rw (tested v.test) (record { book = h.book; variables = h.variables; next = v.yes.next; row = one_part (SomeClosing b _) x })

    passed : {r n row : ℕ} → RowPost (SomeClosing b) b t 1 r → (x : ExprHere b (in_scope b n) (at + 1)) →
        (y : ClosingHere b (in_scope b n) row x.next) → r ≡ y.next
    passed {r} {n} {row} q x y =
        let m : RowPost (SomeClosing b) b x.next 1 r = rw (tested x) at q in
        m.past n y.next (one_part (SomeClosing b _) (record { row = row; here = y; ends = refl }))

    pub yes_past : {r : ℕ} → RowPost (SomeClosing b) b t 1 r → PartPost (SomePick b) b at r
    yes_past q = record { past = λ n next x. let v = pick_view x.here x.code in passed q v.test v.yes ∙ sym x.ends }

-- What a jump says of a part that stands there.
module _ {b : List ℕ} {at r : ℕ} (e : EndsAt b at r) {n : ℕ} where
  pub ends_expr : (x : ExprHere b (in_scope b n) at) → r ≡ x.next
  ends_expr x = e.past n x.next (expr (record { here = x; ends = refl }))

  pub ends_run : {row : ℕ} (x : RunHere b (in_scope b n) row at) → r ≡ x.next
  ends_run {row} x = e.past n x.next (run (record { row = row; here = x; ends = refl }))

  pub ends_pick : {row : ℕ} (x : ClosingHere b (in_scope b n) row at) (k : get_or b at 0 ≡ 5) → r ≡ (pick_view x k).yes.next
  ends_pick {row} x k = e.past n (pick_view x k).yes.next (pick (record { row = row; here = x; code = k; ends = refl }))

-- A memo that knows nothing yet.
none_known : (n i : ℕ) → ◌≡◌ {A = ℕ} (get_or (replicate n 0) i 0) 0
none_known zero i = refl
none_known (suc n) zero = refl
none_known (suc n) (suc i) = none_known n i

pub no_jumps : {b : List ℕ} (n : ℕ) → length b ≤ n → Jumps b (replicate n 0)
no_jumps n h = record { long = rw (length-replicate {A = ℕ} n 0) h; right = λ at u. absurd (u (none_known n at)) }
