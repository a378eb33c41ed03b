-- Every call of a readable book is written in its body: a byte 13, then the procedure's number. So the numbers that follow a byte 13
-- in a body, whatever those bytes are, hold all that the body calls.
use mathlib.Core.Path.{◌≡◌, refl, ap, ◌∙◌}
use mathlib.Core.Logic.{inl, inr}
use mathlib.Core.Bool.{Bool, true, false}
use mathlib.Core.List.{List, [], ◌∷◌}
use mathlib.Core.Option.{some}
use Prim.Native.Nat.{ℕ, zero, suc, ◌+◌, ◌*◌, ◌<◌, ◌≤◌}
use native.Mathlib.Omega.{arith}
use borrow.Author.Tests.{ltb-true, eqb-true}
use lib.Dec.{eqb, ltb}
use lib.ListN.{length, get_or, take, drop, get_elem?, length-take, length-drop, length-map}
use lib.Seq.{get_or-take, get_or-drop}
use Rattle.meaning.specs.Limits.{most_depth}
use Rattle.meaning.specs.Tree.{Expr, Cmd, Run, Closing, Procedure, Book, variables, loops_of, placed, placed_in, placed_of}
use Rattle.meaning.specs.Tree.{assign, branch, loop, stop, then, first, give, pick}
use Rattle.meaning.specs.Reading.{Parsed, got, bad, and_then, next, passing, until, Scope, no_variable, no_procedure, left_over}
use Rattle.meaning.specs.Reading.{arguments, constant_at, expr, run, command, closing, closes, body}
use Rattle.meaning.specs.Reading.{Entry, entry, procedures, entries, arities, scope, body_of, bodies, placed_all, read, readable}
use Rattle.meaning.specs.Reading.{ExprForm, a_constant, a_variable, an_operation, a_call, no_expression, expr_form, expr_of, operations}
use Rattle.meaning.specs.Reading.{CmdForm, an_assignment, an_if, a_while, no_command, cmd_form, cmd_of}
use Rattle.meaning.specs.Reading.{LastForm, a_return, a_pick, no_closing, last_form, last_of}
use Rattle.meaning.proofs.Lists.{Tested, holds_or_fails, length_each, get_or_each}
use Rattle.meaning.proofs.Pairs.{Pairs, done, also}
use Rattle.meaning.proofs.Readable.{reads, length_read}
use Rattle.meaning.proofs.Cases.{by_test, by_some}
use Rattle.meaning.proofs.Parses.{Gives, well, ill, gives_more, gives_got, gives_well}
use Rattle.meaning.proofs.Walks.{Calls, CallsArgs, CallsBy, CallsIn, CallsOf, calls_mono_of}
use Rattle.meaning.proofs.Places.{length_placed, at_exists}

-- C holds of each number below n that follows a byte 13.
pub record Marked (C : ℕ → Type 0) (n : ℕ) (s : List ℕ) : Type 0 where
  pub after : (i : ℕ) → i + 1 < length s → get_or s i 0 ≡ 0x13 → get_or s (i + 1) 0 < n → C (get_or s (i + 1) 0)

call_code : (k : ℕ) → expr_form k ≡ a_call → k ≡ 0x13
unfolding expr_form
call_code k e = go (holds_or_fails (eqb k 0x10)) (holds_or_fails (eqb k 0x11)) (holds_or_fails (eqb k 0x12)) (holds_or_fails (eqb k 0x13))
  where
    go : Tested (eqb k 0x10) → Tested (eqb k 0x11) → Tested (eqb k 0x12) → Tested (eqb k 0x13) → k ≡ 0x13
    go (inl p) q r t = let y = rw (p, expr_form) at e in let z : ◌≡◌ {A = ℕ} 0 1 = cc in absurd (omega arith)
    go (inr p) (inl q) r t = let y = rw (p, q, expr_form) at e in let z : ◌≡◌ {A = ℕ} 0 1 = cc in absurd (omega arith)
    go (inr p) (inr q) (inl r) t = let y = rw (p, q, r, expr_form) at e in let z : ◌≡◌ {A = ℕ} 0 1 = cc in absurd (omega arith)
    go (inr p) (inr q) (inr r) (inl t) = eqb-true k 0x13 t
    go (inr p) (inr q) (inr r) (inr t) = let y = rw (p, q, r, t, expr_form) at e in let z : ◌≡◌ {A = ℕ} 0 1 = cc in absurd (omega arith)

passing_on : {A : Type 0} {P : A → Type 0} {x : Parsed A} (t : Bool) (r : ℕ) → (t ≡ true → Gives P x) → Gives P (passing t r x)
unfolding passing
passing_on true r h = gives_more 1 (h refl)
passing_on false r h = ill

module _ {C : ℕ → Type 0} {n : ℕ} where
  -- What follows a part.
  marked_drop : (m : ℕ) {s : List ℕ} → Marked C n s → Marked C n (drop m s)
  marked_drop m {s} h =
      record {
        after = λ i l e f.
            let a : get_or (drop m s) i 0 ≡ get_or s (m + i) 0 = get_or-drop m s i 0 in
            let c : get_or (drop m s) (i + 1) 0 ≡ get_or s (m + i + 1) 0 = rw (add_one_right m i) (get_or-drop m s (i + 1) 0) in
            rw c (h.after (m + i) (omega (arith, rw length-drop at l)) (rw a at e) (rw c at f));
      }
    where
      add_one_right : (m i : ℕ) → m + i + 1 ≡ m + (i + 1)
      add_one_right m i = omega arith

  marked_tail : {k : ℕ} {s : List ℕ} → Marked C n (k ∷ s) → Marked C n s
  marked_tail h = marked_drop 1 h

  marked_call : (p : ℕ) (s : List ℕ) → Marked C n (0x13 ∷ p ∷ s) → p < n → C p
  marked_call p s h l = h.after 0 (omega arith) refl l

  -- The laws of reading, where what is read on is marked too.
  then_on : {A B : Type 0} {P : A → Type 0} {Q : B → Type 0} {x : Parsed A} {g : A → List ℕ → Parsed B} (s : List ℕ) → Marked C n s →
      Gives P x → ((a : A) (s : List ℕ) → Marked C n s → P a → Gives Q (g a s)) → Gives Q (and_then s x g)
  unfolding and_then
  then_on s h (well {a = a} {n = m} p) k = gives_more m (k a (drop m s) (marked_drop m h) p)
  then_on s h ill k = ill

  next_on : {A : Type 0} {P : A → Type 0} {g : ℕ → List ℕ → Parsed A} (s : List ℕ) → Marked C n s →
      ((b : ℕ) (s : List ℕ) → Marked C n (b ∷ s) → Gives P (g b s)) → Gives P (next s g)
  unfolding next
  next_on [] h k = ill
  next_on (b ∷ s) h k = k b s h

  second_on : {A : Type 0} {P : A → Type 0} {g : ℕ → List ℕ → Parsed A} (a : ℕ) (s : List ℕ) → Marked C n (a ∷ s) →
      ((b : ℕ) (s : List ℕ) → Marked C n (a ∷ b ∷ s) → Gives P (g b s)) → Gives P (next s g)
  unfolding next
  second_on a [] h k = ill
  second_on a (b ∷ s) h k = k b s h

  until_on : {B : Type 0} {D : Cmd → Type 0} {Q : B → Type 0} (ends : ℕ → Bool) {last : List ℕ → Parsed B} {one : List ℕ → Parsed Cmd} {join : Cmd → B → B} →
      ((s : List ℕ) → Marked C n s → Gives Q (last s)) → ((s : List ℕ) → Marked C n s → Gives D (one s)) →
      ((c : Cmd) (b : B) → D c → Q b → Q (join c b)) → (m : ℕ) (s : List ℕ) → Marked C n s → Gives Q (until ends last one join m s)
  unfolding until
  until_on ends l o j zero s h = ill
  until_on ends l o j (suc m) [] h = ill
  until_on {Q = Q} ends l o j (suc m) (k ∷ s) h =
      by_test (Gives Q) (ends k) (λ e. l (k ∷ s) h)
      λ e. then_on (k ∷ s) h (o (k ∷ s) h) λ c s i x. then_on s i (until_on ends l o j m s i) λ r s _ y. well (j c r x y)

module _ (C : ℕ → Type 0) (v : Scope) where
  abbrev Here : List ℕ → Type 0
  Here s = Marked C (length v.arities) s

  abbrev Reader : {A : Type 0} → (A → Type 0) → (List ℕ → Parsed A) → Type 0
  Reader P one = (s : List ℕ) → Here s → Gives P (one s)

  calls_arguments : (one : List ℕ → Parsed Expr) → Reader (λ e. Calls e C) one → (n : ℕ) → Reader (λ es. CallsArgs es C) (arguments one n)
  unfolding arguments CallsArgs
  calls_arguments one h zero s m = well tt
  calls_arguments one h (suc n) s m =
      then_on s m (h s m) λ e s m f. then_on s m (calls_arguments one h n s m) λ es s m k. well (f, k)

  calls_expr_of : (one : List ℕ → Parsed Expr) → Reader (λ e. Calls e C) one → (k : ℕ) (f : ExprForm) → expr_form k ≡ f → (s : List ℕ) → Here (k ∷ s) →
      Gives (λ e. Calls e C) (expr_of v one f s)
  unfolding expr_of constant_at Calls
  calls_expr_of one h k a_constant e s m =
      gives_more 1 (next_on s (marked_tail m) λ a s m.
      gives_more 1 (next_on s (marked_tail m) λ b s m.
      gives_more 1 (next_on s (marked_tail m) λ c s m. gives_more 1 (next_on s (marked_tail m) λ d s m. well tt))))
  calls_expr_of one h k a_variable e s m =
      gives_more 1 (next_on s (marked_tail m) λ x s m. passing_on (ltb x v.variables) no_variable λ t. well tt)
  calls_expr_of one h k an_operation e s m = gives_more 1 (next_on s (marked_tail m) λ o s m. by_some (Gives _) (get_elem? operations o) (λ e. ill)
      λ f e. gives_more 1 (then_on s (marked_tail m) (h s (marked_tail m)) λ a s m k. then_on s m (h s m) λ b s m l. well (k, l)))
  calls_expr_of one h k a_call e s m =
      gives_more 1 (second_on k s m λ p s m. passing_on (ltb p (length v.arities)) no_procedure λ t.
      then_on s (marked_tail (marked_tail m)) (calls_arguments one h (get_or v.arities p 0) s (marked_tail (marked_tail m))) λ es s' _ c.
      well (marked_call p s (rw (call_code k e) at m) (ltb-true p (length v.arities) t), c))
  calls_expr_of one h k no_expression e s m = ill

  calls_expr : (d : ℕ) → Reader (λ e. Calls e C) (expr v d)
  unfolding expr
  calls_expr zero s m = next_on s m λ k s m. ill
  calls_expr (suc d) s m = next_on s m λ k s m. calls_expr_of (expr v d) (λ s m. calls_expr d s m) k (expr_form k) refl s m

  -- Commands.
  calls_run : (one : List ℕ → Parsed Cmd) → Reader (λ c. CallsBy c C) one → Reader (λ r. CallsIn r C) (run one)
  unfolding run CallsBy CallsIn
  calls_run one h s m = until_on (eqb 0) (λ s m. well tt) h (λ c r k l. (k, l)) (length s) s m

  calls_cmd_of : (one : List ℕ → Parsed Expr) (some_run : List ℕ → Parsed Run) → Reader (λ e. Calls e C) one → Reader (λ r. CallsIn r C) some_run →
      (k : CmdForm) → Reader (λ c. CallsBy c C) (cmd_of v one some_run k)
  unfolding cmd_of CallsBy CallsIn
  calls_cmd_of one some_run h l an_assignment s m =
      gives_more 1 (next_on s m λ x s m. passing_on (ltb x v.variables) no_variable λ t. then_on s (marked_tail m) (h s (marked_tail m)) λ e s m f. well f)
  calls_cmd_of one some_run h l an_if s m =
      gives_more 1 (then_on s m (h s m) λ e s m f. then_on s m (l s m) λ a s m k. then_on s m (l s m) λ b s m i. well (f, k, i))
  calls_cmd_of one some_run h l a_while s m = gives_more 1 (then_on s m (h s m) λ e s m f. then_on s m (l s m) λ a s m k. well (f, k))
  calls_cmd_of one some_run h l no_command s m = ill

  calls_command : (d : ℕ) → Reader (λ c. CallsBy c C) (command v d)
  unfolding command
  calls_command zero s m = next_on s m λ k s m. ill
  calls_command (suc d) s m =
      next_on s m λ k s m. calls_cmd_of (expr v d) (run (command v d)) (λ s m. calls_expr d s m)
      (λ s m. calls_run (command v d) (λ s m. calls_command d s m) s m) (cmd_form k) s (marked_tail m)

  -- Closing sequences and bodies.
  calls_last_of : (one : List ℕ → Parsed Expr) (inner : List ℕ → Parsed Closing) → Reader (λ e. Calls e C) one → Reader (λ r. CallsOf r C) inner →
      (k : LastForm) → Reader (λ r. CallsOf r C) (last_of one inner k)
  unfolding last_of CallsOf
  calls_last_of one inner h l a_return s m = gives_more 1 (then_on s m (h s m) λ e s m f. well f)
  calls_last_of one inner h l a_pick s m =
      gives_more 1 (then_on s m (h s m) λ e s m f. then_on s m (l s m) λ c s m k. then_on s m (l s m) λ d s m i. well (f, k, i))
  calls_last_of one inner h l no_closing s m = ill

  calls_closing : (d : ℕ) → Reader (λ r. CallsOf r C) (closing v d)
  unfolding closing CallsOf
  calls_closing zero s m = next_on s m λ k s m. ill
  calls_closing (suc d) s m =
      until_on closes (λ s m. next_on s m λ k s m.
      calls_last_of (expr v d) (closing v d) (λ s m. calls_expr d s m) (λ s m. calls_closing d s m) (last_form k) s (marked_tail m))
      (λ s m. calls_command (suc d) s m) (λ c r k l. (k, l)) (length s) s m

  calls_body : Reader (λ r. CallsOf r C) (body v)
  unfolding body
  calls_body s m = then_on s m (calls_closing most_depth s m) λ c s m k. whole c s k
    where
      whole : (c : Closing) (s : List ℕ) → CallsOf c C → Gives (λ r. CallsOf r C) (elim s [ [] ↦ got c 0 | b ∷ s ↦ bad left_over 0 ])
      whole c [] k = well k
      whole c (b ∷ s) k = ill

-- The calls of each procedure read.
abbrev CallsIt : (Entry → ℕ → Type 0) → Entry → Procedure → Type 0
CallsIt C e q = CallsOf q.body (C e)

module _ (C : Entry → ℕ → Type 0) (b ar : List ℕ) (marks : (e : Entry) → Marked (C e) (length ar) (take e.bytes (drop e.offset b))) where
  calls_bodies : (es : List Entry) → Gives (Pairs (CallsIt C) es) (bodies b ar es)
  unfolding bodies body_of
  calls_bodies [] = well done
  calls_bodies (e ∷ es) =
      gives_got (gives_more e.offset (calls_body (C e) (scope ar e) (take e.bytes (drop e.offset b)) (marks e))) λ c n h.
      gives_got (calls_bodies es) λ qs m k. well (also h k)

-- Numbering the loops changes no call.
module _ (C : ℕ → Type 0) where
  mutual
    unfolding CallsBy CallsIn placed placed_in

    calls_placed : (c : Cmd) (w k : ℕ) → CallsBy c C → CallsBy (placed w k c) C
    calls_placed (assign x e) w k h = h
    calls_placed (branch e s t) w k h = (h.0, calls_placed_in s w _ h.1, calls_placed_in t w _ h.2)
    calls_placed (loop j e s) w k h = (h.0, calls_placed_in s w _ h.1)

    calls_placed_in : (s : Run) (w k : ℕ) → CallsIn s C → CallsIn (placed_in w k s) C
    calls_placed_in stop w k h = tt
    calls_placed_in (then c s) w k h = (calls_placed c w k h.0, calls_placed_in s w _ h.1)

  calls_placed_of : (r : Closing) (w k : ℕ) → CallsOf r C → CallsOf (placed_of w k r) C
  unfolding CallsOf placed_of
  calls_placed_of (first c r) w k h = (calls_placed c w k h.0, calls_placed_of r w _ h.1)
  calls_placed_of (give e) w k h = h
  calls_placed_of (pick e c d) w k h = (h.0, calls_placed_of c w k h.1, calls_placed_of d w _ h.2)

calls_placed_all : (C : Entry → ℕ → Type 0) (k : ℕ) {es : List Entry} {qs : Book} → Pairs (CallsIt C) es qs → Pairs (CallsIt C) es (placed_all k qs)
unfolding placed_all
calls_placed_all C k done = done
calls_placed_all C k (also {a = e} {b = q} h hs) = also (calls_placed_of (C e) q.body (variables q) k h) (calls_placed_all C (k + variables q * loops_of q.body) hs)

pairs_at : {A B : Type 0} {R : A → B → Type 0} {s : List A} {t : List B} → Pairs R s t → (i : ℕ) {b : B} → get_elem? t i ≡ some b → (d : A) → R (get_or s i d) b
pairs_at done i e d = let z : ◌≡◌ {A = ℕ} 0 1 = cc in absurd (omega arith)
pairs_at (also {b = c} x h) zero {b} e d = let q : c ≡ b = cc in rw q at x
pairs_at (also x h) (suc i) e d = pairs_at h i e d

-- The number of each procedure that the body of p may call, by its bytes.
pub record Scanned (book : List ℕ) (C : ℕ → ℕ → Type 0) : Type 0 where
  pub named : (p i : ℕ) → p < procedures book → (entry book p).offset ≤ i → i + 1 < (entry book p).offset + (entry book p).bytes →
      get_or book i 0 ≡ 0x13 → get_or book (i + 1) 0 < procedures book → C p (get_or book (i + 1) 0)

module _ (book : List ℕ) {b : Book} (is : read book ≡ readable b) (C : ℕ → ℕ → Type 0) (scan : Scanned book C) where
  -- A number of the book, which C holds for each procedure with this entry.
  abbrev Owned : Entry → ℕ → Type 0
  Owned e r = (r < procedures book) × ((p : ℕ) → p < procedures book → entry book p ≡ e → C p r)

  counted : length (arities (entries book)) ≡ procedures book
  unfolding arities entries
  counted = length-map (entries book) _ ∙ length_each (procedures book) (entry book)

  marks : (e : Entry) → Marked (Owned e) (length (arities (entries book))) (take e.bytes (drop e.offset book))
  marks e =
      record {
        after = λ i l h f.
            let n = rw length-take at l in
            let a : get_or (take e.bytes (drop e.offset book)) i 0 ≡ get_or book (e.offset + i) 0 =
            get_or-take e.bytes (drop e.offset book) i 0 (omega arith) ∙ get_or-drop e.offset book i 0 in
            let c : get_or (take e.bytes (drop e.offset book)) (i + 1) 0 ≡ get_or book (e.offset + (i + 1)) 0 =
            get_or-take e.bytes (drop e.offset book) (i + 1) 0 (omega arith) ∙ get_or-drop e.offset book (i + 1) 0 in
            let d : e.offset + (i + 1) ≡ e.offset + i + 1 = omega arith in
            let lim : get_or book (e.offset + i + 1) 0 < procedures book = rw (c, d, counted) at f in
            rw (c, d) (
              lim,
              λ p k s.
                  let o : (entry book p).offset ≡ e.offset = ap (λ (x : Entry). x.offset) s in
                  let y : (entry book p).bytes ≡ e.bytes = ap (λ (x : Entry). x.bytes) s in
                  scan.named p (e.offset + i) k (omega (arith, o)) (omega (arith, o, y)) (rw a at h) lim,
            );
      }

  pub calls_written : (p : ℕ) (q : Procedure) → get_elem? b p ≡ some q → CallsOf q.body (λ r. (r < length b) × C p r)
  unfolding entries
  calls_written p q e =
      let r = reads book is in
      let n : length b ≡ procedures book = rw r.placing (length_placed (length r.parsed) r.parsed ∙ length_read r) in
      let l : p < procedures book = rw n at (at_exists b p e) in
      let h = gives_well (rw r.whole at (calls_bodies Owned book (arities (entries book)) marks (entries book))) in
      let all = calls_placed_all Owned (length r.parsed) h in
      let here = pairs_at all p (rw r.placing at e) (entry book p) in
      let here' : CallsOf q.body (Owned (entry book p)) = rw (get_or_each (procedures book) (entry book) p (entry book p) l) at here in
      calls_mono_of (λ r h. (rw n h.0, h.1 p l refl)) q.body here'
