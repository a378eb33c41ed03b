-- What the parser reads stands in the book where it was read: expressions, arguments, commands, runs, closing sequences.
use mathlib.Core.Path.{◌≡◌, refl}
use mathlib.Core.List.{List}
use mathlib.Core.Option.{Option, some, none}
use Prim.Native.Nat.{ℕ, zero, suc, ◌+◌, ◌*◌, ◌≤◌}
use native.Mathlib.Omega.{arith}
use borrow.Author.Tests.{ltb-true, eqb-true}
use lib.Dec.{ltb}
use lib.ListN.{length, get_or, get_elem?}
use Rattle.meaning.specs.Tree.{Operation, Expr, Cmd, Run, Closing, loops, loops_in, loops_of, placed, placed_in, placed_of}
use Rattle.meaning.specs.Tree.{operation, stop}
use Rattle.meaning.specs.Reading.{Parsed, got, bad, Scope, more, and_then, operations, constant_at, arguments, expr_of, expr, run, cmd_of, command, last_of, closing}
use Rattle.meaning.specs.Reading.{no_variable, no_procedure, no_operation}
use Rattle.meaning.specs.Reading.{ExprForm, a_constant, a_variable, an_operation, a_call, no_expression, expr_form}
use Rattle.meaning.specs.Reading.{CmdForm, an_assignment, an_if, a_while, no_command, cmd_form, LastForm, a_return, a_pick, no_closing, last_form}
use Rattle.meaning.proofs.Places.{loops_placed_of}
use Rattle.book.proofs.Text.{Coded, ExprAt, ArgsAt, CmdAt, RunAt, ClosingAt}
use Rattle.book.proofs.Views.Bounds.{expr_spans}
use Rattle.book.proofs.Sound.Parts.{Lies, To, gives, fails, gives_all, to_more, to_then, to_next, to_passing, to_until}
use Rattle.book.proofs.Sound.Placed.{loops_placed, loops_placed_in}
use Rattle.book.proofs.Sound.Forms.{ExprCode, CmdCode, LastCode, expr_form_lem, cmd_form_lem, last_form_lem}

module _ (b : List ℕ) (v : Scope) where
  -- This reader is sound for this relation, wherever its part lies.
  abbrev pub Sound : {A : Type 0} → (A → ℕ → ℕ → Type 0) → (List ℕ → Parsed A) → Type 0
  Sound P f = (s : List ℕ) (at : ℕ) → Lies s b at → To (λ a i. P a at i) at (f s)

  abbrev pub SoundExpr : (List ℕ → Parsed Expr) → Type 0
  SoundExpr one = Sound (λ e at i. ExprAt e b v at i) one

  arguments_sound : (one : List ℕ → Parsed Expr) → SoundExpr one → (n : ℕ) (s : List ℕ) (at : ℕ) → Lies s b at → at ≤ length b →
      To (λ es i. ArgsAt es b v n at i) at (arguments one n s)
  unfolding arguments ArgsAt
  arguments_sound one h zero s at l f = gives_all (record { none = refl; fits = f; ends = refl })
  arguments_sound one h (suc n) s at l f =
      to_then l (h s at l) λ e t mid m x.
      to_then m (arguments_sound one h n t mid m (expr_spans (record { tree = e; next = mid; is = x })).within) λ es u i _ y.
      gives_all (record { fewer = n; some = refl; mid = mid; head = x; rest = y })

  constant_sound : (s : List ℕ) (at : ℕ) → Coded b at 0x10 → Lies s b (at + 1) → To (λ e i. ExprAt e b v at i) (at + 1) (constant_at s)
  unfolding constant_at ExprAt
  constant_sound s at c l =
      let p : at + 1 + 1 + 1 ≡ at + 1 + 2 = omega arith in
      let q : at + 1 + 1 + 1 + 1 ≡ at + 1 + 3 = omega arith in
      to_next s l λ k t ck l. to_more 1
      (to_next t l λ k2 t ck2 l. to_more 1
      (to_next t l λ k3 t ck3 l. to_more 1
      (to_next t l λ k4 t ck4 l. gives _ 1 (record { code = c; fits = omega arith; value = cc; ends = omega arith }))))

  operation_sound : (one : List ℕ → Parsed Expr) → SoundExpr one →
      (s : List ℕ) (at o : ℕ) → Coded b at 0x12 → Coded b (at + 1) o → Lies s b (at + 2) → (f : Option Operation) → get_elem? operations o ≡ f →
      To (λ e i. ExprAt e b v at i) (at + 1) (elim f [
        | none ↦ bad no_operation 0
        | some f ↦ more 1 (and_then s (one s) λ a s. and_then s (one s) λ b s. got (operation f a b) 0)
      ])
  unfolding ExprAt
  operation_sound one h s at o c n l none e = fails
  operation_sound one h s at o c n l (some f) e =
      let p : at + 1 + 1 ≡ at + 2 = omega arith in
      let known : get_elem? operations (get_or b (at + 1) 0) ≡ some f = rw n.is e in
      to_more 1 (rw p
      (to_then l (h s (at + 2) l) λ a t mid m x.
      to_then m (h t mid m) λ d u i _ y.
      gives_all (record { code = c; there = n.there; known = known; mid = mid; left = x; right = y })))

  expr_of_sound : (one : List ℕ → Parsed Expr) → SoundExpr one → (k : ℕ) (f : ExprForm) → ExprCode k f →
      (s : List ℕ) (at : ℕ) → Coded b at k → Lies s b (at + 1) → To (λ e i. ExprAt e b v at i) at (expr_of v one f s)
  unfolding expr_of ExprAt
  expr_of_sound one h k a_constant e s at c l = to_more 1 (constant_sound s at (rw e at c) l)
  expr_of_sound one h k a_variable e s at c l =
      to_more 1
      (to_next s l λ x t n m. to_passing (ltb x v.variables) no_variable λ known.
      gives_all (record { code = rw e at c; number = n; known = ltb-true x v.variables known; ends = omega arith }))
  expr_of_sound one h k an_operation e s at c l =
      let p : at + 1 + 1 ≡ at + 2 = omega arith in
      to_more 1 (to_next s l λ o t n m. operation_sound one h t at o (rw e at c) n (rw p at m) (get_elem? operations o) refl)
  expr_of_sound one h k a_call e s at c l =
      let p : at + 1 + 1 ≡ at + 2 = omega arith in
      to_more 1
      (to_next s l λ q t n m. to_passing (ltb q (length v.arities)) no_procedure λ known.
      rw p
      (to_then (rw p at m) (arguments_sound one h (get_or v.arities q 0) t (at + 2) (rw p at m) (omega arith)) λ es u i _ x.
      gives_all (record { code = rw e at c; number = n; known = ltb-true q (length v.arities) known; given = x })))
  expr_of_sound one h k no_expression e s at c l = fails

  pub expr_sound : (d : ℕ) → SoundExpr (expr v d)
  unfolding expr
  expr_sound zero s at l = to_next s l λ k t c m. fails
  expr_sound (suc d) s at l = to_next s l λ k t c m. expr_of_sound (expr v d) (expr_sound d) k (expr_form k) (expr_form_lem k) t at c m

  -- A command, a run, a closing sequence as read: with its loops numbered from row r on, for every r.
  abbrev pub ReadCmd : Cmd → ℕ → ℕ → Type 0
  ReadCmd c at i = (r : ℕ) → CmdAt (placed v.variables r c) b v r at i

  abbrev pub ReadRun : Run → ℕ → ℕ → Type 0
  ReadRun s at i = (r : ℕ) → RunAt (placed_in v.variables r s) b v r at i

  abbrev pub ReadClosing : Closing → ℕ → ℕ → Type 0
  ReadClosing c at i = (r : ℕ) → ClosingAt (placed_of v.variables r c) b v r at i

  run_sound : (one : List ℕ → Parsed Cmd) → Sound ReadCmd one → Sound ReadRun (run one)
  unfolding run RunAt placed_in
  run_sound one h s at l =
      to_until b ReadRun ReadCmd
      (λ k t i e c m. gives stop 1 λ r. record { code = rw (← eqb-true 0 k e) at c; ends = refl })
      h
      (λ c t i j k x y r. record { mid = j; head = x r; rest = rw (loops_placed c v.variables r) (y (r + v.variables * loops c)) })
      (length s)
      s
      at
      l

  cmd_of_sound : (one : List ℕ → Parsed Expr) → SoundExpr one → (many : List ℕ → Parsed Run) → Sound ReadRun many →
      (k : ℕ) (f : CmdForm) → CmdCode k f → (s : List ℕ) (at : ℕ) → Coded b at k → Lies s b (at + 1) → To (λ c i. ReadCmd c at i) at (cmd_of v one many f s)
  unfolding cmd_of CmdAt placed
  cmd_of_sound one h many g k an_assignment e s at c l =
      let p : at + 1 + 1 ≡ at + 2 = omega arith in
      to_more 1
      (to_next s l λ x t n m. to_passing (ltb x v.variables) no_variable λ known.
      rw p
      (to_then (rw p at m) (h t (at + 2) (rw p at m)) λ a u i _ y.
      gives_all λ r. record { code = rw e at c; number = n; known = ltb-true x v.variables known; given = y }))
  cmd_of_sound one h many g k an_if e s at c l =
      to_more 1
      (to_then l (h s (at + 1) l) λ a t i m x.
      to_then m (g t i m) λ yes u j o y.
      to_then o (g u j o) λ no w next _ z.
      gives_all λ r. record {
        code = rw e at c;
        mid = i;
        test = x;
        mid2 = j;
        yes = y r;
        no = rw (loops_placed_in yes v.variables r) (z (r + v.variables * loops_in yes));
      })
  cmd_of_sound one h many g k a_while e s at c l =
      to_more 1
      (to_then l (h s (at + 1) l) λ a t i m x.
      to_then m (g t i m) λ inside u j _ y.
      gives_all λ r. record { code = rw e at c; row = refl; mid = i; test = x; inside = y (r + v.variables) })
  cmd_of_sound one h many g k no_command e s at c l = fails

  pub command_sound : (d : ℕ) → Sound ReadCmd (command v d)
  unfolding command
  command_sound zero s at l = to_next s l λ k t c m. fails
  command_sound (suc d) s at l =
      to_next s l λ k t c m.
      cmd_of_sound (expr v d) (expr_sound d) (run (command v d)) (run_sound (command v d) (command_sound d)) k (cmd_form k) (cmd_form_lem k) t at c m

  last_of_sound : (one : List ℕ → Parsed Expr) → SoundExpr one → (inner : List ℕ → Parsed Closing) → Sound ReadClosing inner →
      (k : ℕ) (f : LastForm) → LastCode k f → (s : List ℕ) (at : ℕ) → Coded b at k → Lies s b (at + 1) → To (λ c i. ReadClosing c at i) at (last_of one inner f s)
  unfolding last_of ClosingAt placed_of
  last_of_sound one h inner g k a_return e s at c l =
      to_more 1 (to_then l (h s (at + 1) l) λ a t i m x. gives_all λ r. record { code = rw e at c; given = x })
  last_of_sound one h inner g k a_pick e s at c l =
      to_more 1
      (to_then l (h s (at + 1) l) λ a t i m x.
      to_then m (g t i m) λ yes u j o y.
      to_then o (g u j o) λ no w next _ z.
      gives_all λ r. record {
        code = rw e at c;
        mid = i;
        test = x;
        mid2 = j;
        yes = y r;
        no = rw (loops_placed_of yes v.variables r) (z (r + v.variables * loops_of yes));
      })
  last_of_sound one h inner g k no_closing e s at c l = fails

  pub closing_sound : (d : ℕ) → Sound ReadClosing (closing v d)
  unfolding closing ClosingAt placed_of
  closing_sound zero s at l = to_next s l λ k t c m. fails
  closing_sound (suc d) s at l =
      to_until b ReadClosing ReadCmd
      (λ k t i e c m. to_next t m λ k u n o. last_of_sound (expr v d) (expr_sound d) (closing v d) (closing_sound d) k (last_form k) (last_form_lem k) u i n o)
      (command_sound (suc d))
      (λ c t i j k x y r. record { mid = j; head = x r; rest = rw (loops_placed c v.variables r) (y (r + v.variables * loops c)) })
      (length s)
      s
      at
      l
