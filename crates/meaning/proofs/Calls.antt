-- Every call of a readable book has as many arguments as its procedure has parameters.
use mathlib.Core.Path.{◌≡◌, refl, ap}
use mathlib.Core.List.{List, [], ◌∷◌, map}
use mathlib.Core.Option.{some}
use Prim.Native.Nat.{ℕ, zero, suc, ◌+◌, ◌*◌}
use native.Mathlib.Omega.{arith}
use lib.Dec.{eqb, ltb}
use lib.ListN.{length, get_or, take, drop, get_elem?}
use Rattle.meaning.specs.Limits.{most_depth}
use Rattle.meaning.specs.Tree.{Expr, Args, Cmd, Run, Closing, Procedure, Book, variables, loops_of, placed, placed_in, placed_of}
use Rattle.meaning.specs.Reading.{Parsed, got, bad, Scope, no_variable, no_procedure, left_over, arguments, constant_at, expr, run, command, closing, closes, body}
use Rattle.meaning.specs.Reading.{Entry, entries, arities, scope, body_of, bodies, placed_all, read, readable}
use Rattle.meaning.specs.Reading.{ExprForm, a_constant, a_variable, an_operation, a_call, no_expression, expr_form, expr_of, operations}
use Rattle.meaning.specs.Reading.{CmdForm, an_assignment, an_if, a_while, no_command, cmd_form, cmd_of, LastForm, a_return, a_pick, no_closing, last_form, last_of}
use Rattle.meaning.proofs.Pairs.{All, done, also, all_at}
use Rattle.meaning.proofs.Readable.{reads}
use Rattle.meaning.proofs.Cases.{by_some}
use Rattle.meaning.proofs.Parses.{Gives, well, ill, gives_more, gives_then, gives_next, gives_passing, gives_got, gives_until, gives_well}
use Rattle.meaning.specs.Tree.{constant, variable, operation, call, nil, arg, assign, branch, loop, stop, then, first, give, pick}

-- How many arguments.
unfoldable pub count : Args → ℕ
count nil = 0
count (arg e es) = suc (count es)

-- The calls in a part of a body fit the procedures' parameter counts.
unfoldable mutual
  pub Fits : Expr → List ℕ → Type 0
  Fits (constant c) ar = Unit {0}
  Fits (variable x) ar = Unit {0}
  Fits (operation o a b) ar = Fits a ar × Fits b ar
  Fits (call p es) ar = (count es ≡ get_or ar p 0) × FitArgs es ar

  pub FitArgs : Args → List ℕ → Type 0
  FitArgs nil ar = Unit {0}
  FitArgs (arg e es) ar = Fits e ar × FitArgs es ar

unfoldable mutual
  pub FitCmd : Cmd → List ℕ → Type 0
  FitCmd (assign x e) ar = Fits e ar
  FitCmd (branch e s t) ar = Fits e ar × FitRun s ar × FitRun t ar
  FitCmd (loop k e s) ar = Fits e ar × FitRun s ar

  pub FitRun : Run → List ℕ → Type 0
  FitRun stop ar = Unit {0}
  FitRun (then c s) ar = FitCmd c ar × FitRun s ar

unfoldable pub FitClosing : Closing → List ℕ → Type 0
FitClosing (first c r) ar = FitCmd c ar × FitClosing r ar
FitClosing (give e) ar = Fits e ar
FitClosing (pick e c d) ar = Fits e ar × FitClosing c ar × FitClosing d ar

-- The parameter counts of a book's procedures.
unfoldable pub arity : Book → List ℕ
arity b = map (λ q. q.parameters) b

pub arity_at : (b : Book) (p : ℕ) (q : Procedure) → get_elem? b p ≡ some q → get_or (arity b) p 0 ≡ q.parameters
unfolding arity
arity_at [] p q e = let z : ◌≡◌ {A = ℕ} 0 1 = cc in absurd (omega arith)
arity_at (r ∷ b) zero q e = cc
arity_at (r ∷ b) (suc p) q e = arity_at b p q e

-- The reader: expressions.
module _ (v : Scope) where
  fit_arguments : (one : List ℕ → Parsed Expr) → ((s : List ℕ) → Gives (λ e. Fits e v.arities) (one s)) → (n : ℕ) (s : List ℕ) →
      Gives (λ es. (count es ≡ n) × FitArgs es v.arities) (arguments one n s)
  unfolding arguments count FitArgs
  fit_arguments one h zero s = well (refl, tt)
  fit_arguments one h (suc n) s =
      gives_then s (h s) λ e s f. gives_then s (fit_arguments one h n s) λ es s k. well (ap suc k.0, (f, k.1))

  fit_expr_of : (one : List ℕ → Parsed Expr) → ((s : List ℕ) → Gives (λ e. Fits e v.arities) (one s)) → (k : ExprForm) (s : List ℕ) →
      Gives (λ e. Fits e v.arities) (expr_of v one k s)
  unfolding expr_of constant_at Fits
  fit_expr_of one h a_constant s =
      gives_more 1 (gives_next s λ a s. gives_more 1 (gives_next s λ b s. gives_more 1 (gives_next s λ c s. gives_more 1 (gives_next s λ d s. well tt))))
  fit_expr_of one h a_variable s = gives_more 1 (gives_next s λ x s. gives_passing (ltb x v.variables) no_variable (well tt))
  fit_expr_of one h an_operation s = gives_more 1 (gives_next s λ o s. by_some (Gives _) (get_elem? operations o) (λ e. ill)
      λ f e. gives_more 1 (gives_then s (h s) λ a s k. gives_then s (h s) λ b s l. well (k, l)))
  fit_expr_of one h a_call s =
      gives_more 1 (gives_next s λ p s. gives_passing (ltb p (length v.arities)) no_procedure
      (gives_then s (fit_arguments one h (get_or v.arities p 0) s) λ es s k. well k))
  fit_expr_of one h no_expression s = ill

  fit_expr : (d : ℕ) (s : List ℕ) → Gives (λ e. Fits e v.arities) (expr v d s)
  unfolding expr
  fit_expr zero s = gives_next s λ k s. ill
  fit_expr (suc d) s = gives_next s λ k s. fit_expr_of (expr v d) (λ s. fit_expr d s) (expr_form k) s

  -- Commands.
  fit_run : (one : List ℕ → Parsed Cmd) → ((s : List ℕ) → Gives (λ c. FitCmd c v.arities) (one s)) → (s : List ℕ) → Gives (λ r. FitRun r v.arities) (run one s)
  unfolding run FitCmd FitRun
  fit_run one h s = gives_until (eqb 0) (λ s. well tt) h (λ c r k l. (k, l)) (length s) s

  fit_cmd_of : (one : List ℕ → Parsed Expr) (some_run : List ℕ → Parsed Run) → ((s : List ℕ) → Gives (λ e. Fits e v.arities) (one s)) →
      ((s : List ℕ) → Gives (λ r. FitRun r v.arities) (some_run s)) → (k : CmdForm) (s : List ℕ) → Gives (λ c. FitCmd c v.arities) (cmd_of v one some_run k s)
  unfolding cmd_of FitCmd FitRun
  fit_cmd_of one some_run h l an_assignment s =
      gives_more 1 (gives_next s λ x s. gives_passing (ltb x v.variables) no_variable (gives_then s (h s) λ e s f. well f))
  fit_cmd_of one some_run h l an_if s =
      gives_more 1 (gives_then s (h s) λ e s f. gives_then s (l s) λ a s k. gives_then s (l s) λ b s m. well (f, k, m))
  fit_cmd_of one some_run h l a_while s = gives_more 1 (gives_then s (h s) λ e s f. gives_then s (l s) λ a s k. well (f, k))
  fit_cmd_of one some_run h l no_command s = ill

  fit_command : (d : ℕ) (s : List ℕ) → Gives (λ c. FitCmd c v.arities) (command v d s)
  unfolding command
  fit_command zero s = gives_next s λ k s. ill
  fit_command (suc d) s =
      gives_next s λ k s. fit_cmd_of (expr v d) (run (command v d)) (λ s. fit_expr d s) (λ s. fit_run (command v d) (λ s. fit_command d s) s) (cmd_form k) s

  -- Closing sequences and bodies.
  fit_last_of : (one : List ℕ → Parsed Expr) (inner : List ℕ → Parsed Closing) → ((s : List ℕ) → Gives (λ e. Fits e v.arities) (one s)) →
      ((s : List ℕ) → Gives (λ r. FitClosing r v.arities) (inner s)) → (k : LastForm) (s : List ℕ) → Gives (λ r. FitClosing r v.arities) (last_of one inner k s)
  unfolding last_of FitClosing
  fit_last_of one inner h l a_return s = gives_more 1 (gives_then s (h s) λ e s f. well f)
  fit_last_of one inner h l a_pick s =
      gives_more 1 (gives_then s (h s) λ e s f. gives_then s (l s) λ c s k. gives_then s (l s) λ d s m. well (f, k, m))
  fit_last_of one inner h l no_closing s = ill

  fit_closing : (d : ℕ) (s : List ℕ) → Gives (λ r. FitClosing r v.arities) (closing v d s)
  unfolding closing FitClosing
  fit_closing zero s = gives_next s λ k s. ill
  fit_closing (suc d) s =
      gives_until closes (λ s. gives_next s λ k s. fit_last_of (expr v d) (closing v d) (λ s. fit_expr d s) (λ s. fit_closing d s) (last_form k) s)
      (λ s. fit_command (suc d) s) (λ c r k l. (k, l)) (length s) s

  fit_body : (s : List ℕ) → Gives (λ r. FitClosing r v.arities) (body v s)
  unfolding body
  fit_body s = gives_then s (fit_closing most_depth s) λ c s k. whole c s k
    where
      whole : (c : Closing) (s : List ℕ) → FitClosing c v.arities → Gives (λ r. FitClosing r v.arities) (elim s [ [] ↦ got c 0 | b ∷ s ↦ bad left_over 0 ])
      whole c [] k = well k
      whole c (b ∷ s) k = ill

-- The bodies of a book, with the parameter counts `ar`.
abbrev FitsIn : List ℕ → Procedure → Type 0
FitsIn ar q = FitClosing q.body ar

fit_body_of : (b ar : List ℕ) (e : Entry) → Gives (λ c. FitClosing c ar) (body_of b ar e)
unfolding body_of
fit_body_of b ar e = gives_more e.offset (fit_body (scope ar e) (take e.bytes (drop e.offset b)))

fit_bodies : (b ar : List ℕ) (es : List Entry) → Gives (λ qs. All (FitsIn ar) qs × (arity qs ≡ arities es)) (bodies b ar es)
unfolding bodies arity arities
fit_bodies b ar [] = well (done, refl)
fit_bodies b ar (e ∷ es) =
    gives_got (fit_body_of b ar e) λ c n h. gives_got (fit_bodies b ar es) λ qs m k. well (also h k.0, ap (λ l. e.parameters ∷ l) k.1)

-- Numbering the loops changes no call.
module _ (ar : List ℕ) where
  mutual
    unfolding FitCmd FitRun placed placed_in

    fit_placed : (c : Cmd) (w k : ℕ) → FitCmd c ar → FitCmd (placed w k c) ar
    fit_placed (assign x e) w k h = h
    fit_placed (branch e s t) w k h = (h.0, fit_placed_in s w _ h.1, fit_placed_in t w _ h.2)
    fit_placed (loop j e s) w k h = (h.0, fit_placed_in s w _ h.1)

    fit_placed_in : (s : Run) (w k : ℕ) → FitRun s ar → FitRun (placed_in w k s) ar
    fit_placed_in stop w k h = tt
    fit_placed_in (then c s) w k h = (fit_placed c w k h.0, fit_placed_in s w _ h.1)

  fit_placed_of : (r : Closing) (w k : ℕ) → FitClosing r ar → FitClosing (placed_of w k r) ar
  unfolding FitClosing placed_of
  fit_placed_of (first c r) w k h = (fit_placed c w k h.0, fit_placed_of r w _ h.1)
  fit_placed_of (give e) w k h = h
  fit_placed_of (pick e c d) w k h = (h.0, fit_placed_of c w k h.1, fit_placed_of d w _ h.2)

  fit_placed_all : (k : ℕ) {qs : Book} → All (FitsIn ar) qs → All (FitsIn ar) (placed_all k qs)
  unfolding placed_all
  fit_placed_all k done = done
  fit_placed_all k (also {a = q} h hs) = also (fit_placed_of q.body (variables q) k h) (fit_placed_all (k + variables q * loops_of q.body) hs)

arity_placed : (k : ℕ) (qs : Book) → arity (placed_all k qs) ≡ arity qs
unfolding arity placed_all
arity_placed k [] = refl
arity_placed k (q ∷ qs) = ap (λ l. q.parameters ∷ l) (arity_placed (k + variables q * loops_of q.body) qs)

-- The calls of a book fit.
pub record Fitting (b : Book) : Type 0 where
  pub body : (p : ℕ) (q : Procedure) → get_elem? b p ≡ some q → FitClosing q.body (arity b)

fit_numbered : (k : ℕ) (qs : Book) (ar : List ℕ) → All (FitsIn ar) qs → arity qs ≡ ar → Fitting (placed_all k qs)
fit_numbered k qs ar h e = record { body = λ p q f. rw (arity_placed, e) (all_at (fit_placed_all ar k h) p f) }

pub calls_fit : (book : List ℕ) {b : Book} → read book ≡ readable b → Fitting b
calls_fit book e =
    let r = reads book e in
    let h = gives_well (rw r.whole at (fit_bodies book (arities (entries book)) (entries book))) in
    rw r.placing (fit_numbered (length r.parsed) r.parsed (arities (entries book)) h.0 h.1)
