-- The ways through the code that reads ordinary commands.
use mathlib.Core.Path.{◌≡◌, refl, sym, ap, ap₂, ◌∙◌}
use mathlib.Core.Bool.{Bool, true, false}
use mathlib.Core.List.{List, [], ◌∷◌}
use Prim.Native.Nat.{ℕ, zero, suc, ◌+◌, ◌-◌, ◌≤◌, ◌<◌}
use native.Mathlib.Omega.{arith}
use native.Mathlib.Nat.{add-zero}
use native.Mathlib.Numerals.{sub-one}
use borrow.Author.Tests.{lt-ltb, le-ltb, ne_eqb}
use lib.Dec.{eqb}
use lib.ListN.{length, get_or, drop, length-drop}
use lib.Seq.{get_or-drop, drop-drop}
use Rattle.meaning.specs.Tree.{Cmd, Run, assign, branch, loop, stop, then, loops, loops_in}
use Rattle.meaning.specs.Reading.{ended_early, too_deep, unknown_code, no_variable}
use Rattle.meaning.specs.Reading.{Parsed, got, bad, more, next, passing, and_then, Scope, CmdForm, an_assignment, an_if, a_while, no_command}
use Rattle.meaning.specs.Reading.{expr, until, run, cmd_form, cmd_of, command, last_form, closes}
use Rattle.book.specs.Taken.{Taken, Bytes, Fault, taken, plus}
use Rattle.book.specs.Parts.{no_loops, expr_taken, command_taken, command_as, ending, ordinaries, ordinaries_taken, run_taken}
use Rattle.book.proofs.Extent.{command_took}
use Rattle.book.proofs.Laws.Forks.{tested, test_stops, fork_test, fork_first, fork_whole}
use Rattle.book.proofs.Parts.{from, from_drop, plus_plus, plus_none, plus_loops, taken_more, Behind, was_behind, was_stopped, stops, ends_with, one_more, onward, plus_onward, two_bytes, goes_behind}

-- The codes that end ordinary commands.
pub ends_closing : (closed : Bool) (k : ℕ) → closed ≡ true → k ≡ 0x04 → eqb k 0x04 ≡ ending closed k
unfolding closes last_form
ends_closing closed k h e = rw (h, e)

pub ends_pick : (closed : Bool) (k : ℕ) → closed ≡ true → (k ≡ 0x04 → ⊥) → eqb k 0x05 ≡ ending closed k
unfolding closes last_form
ends_pick closed k h e = rw h (go (eqb k 0x05) refl)
  where
    go : (b : Bool) → eqb k 0x05 ≡ b → eqb k 0x05 ≡ closes k
    go true q = rw (q, ne_eqb k 0x04 e, closes, last_form, q)
    go false q = rw (q, ne_eqb k 0x04 e, closes, last_form, q)

pub ends_run : (closed : Bool) (k : ℕ) → closed ≡ false → eqb 0x00 k ≡ ending closed k
ends_run closed k h = rw h

-- An assignment.
pub assignment_short : (v : Scope) (d : ℕ) (s : List ℕ) → length s ≤ 1 → Fault ended_early 1 ≡ command_as an_assignment v d s
unfolding taken cmd_of next more
assignment_short v d [] h = refl
assignment_short v d (a ∷ []) h = refl
assignment_short v d (a ∷ b ∷ s) h = absurd (omega arith)

pub assignment_unknown : {x : ℕ} (v : Scope) (d : ℕ) (s : List ℕ) → 2 ≤ length s → x ≡ get_or s 1 0 → v.variables ≤ x →
    Fault no_variable 1 ≡ command_as an_assignment v d s
unfolding taken cmd_of next more passing
assignment_unknown v d [] h e l = absurd (omega arith)
assignment_unknown v d (a ∷ []) h e l = absurd (omega arith)
assignment_unknown v d (a ∷ b ∷ s) h e l = rw (le-ltb b v.variables (omega arith))

pub assignment_known : {r t : Taken} {x : ℕ} (v : Scope) (d : ℕ) (s : List ℕ) → 2 ≤ length s → x ≡ get_or s 1 0 → x < v.variables →
    t ≡ expr_taken v d (from 2 s) → r ≡ plus 2 0 t → r ≡ command_as an_assignment v d s
unfolding cmd_of next passing loops
assignment_known v d [] h e l q w = absurd (omega arith)
assignment_known v d (a ∷ []) h e l q w = absurd (omega arith)
assignment_known v d (a ∷ b ∷ s) h e l q w =
    rw (lt-ltb b v.variables (omega arith))
    (w ∙ ap (plus 2 0) (rw from_drop at q) ∙ sym (taken_more no_loops 2 (expr v d s))
    ∙ two_bytes loops no_loops _ (expr v d s) (ends_with no_loops loops s (expr v d s) (assign b) 0 (λ e. refl) ∙ plus_none _))

-- A while.
pub while_test : {t : Taken} {x q : ℕ} (v : Scope) (d : ℕ) (s : List ℕ) → t ≡ expr_taken v d (from 1 s) → Fault x q ≡ plus 1 1 t → Fault x q ≡ command_as a_while v d s
unfolding cmd_of
while_test v d s h w = test_stops loops v d s 1 _ h w

pub while_whole : {r t u : Taken} {n l : ℕ} (v : Scope) (d : ℕ) (s : List ℕ) → t ≡ expr_taken v d (from 1 s) → Bytes n l ≡ plus 1 1 t →
    u ≡ run_taken v d (from n s) → r ≡ plus n l u → r ≡ command_as a_while v d s
unfolding cmd_of loops
while_whole {r} {t} {u} {n} {l} v d s h e w q =
    let a = tested v d s 1 h e in
    let x : List ℕ = drop n s in
    let one : u ≡ run_taken v d x = rw (from_drop n s) at w in
    q ∙ ap₂ (plus n) a.all_loops one ∙ plus_loops n 1 (run_taken v d x)
    ∙ ap (plus n 0) (sym (ends_with loops_in loops x (run (command v d) x) (loop 0 a.got_it.tree) 1 (λ a. refl)))
    ∙ sym (goes_behind no_loops loops 1 s (expr v d (drop 1 s)) _ a.all_bytes a.got_it)

-- An if.
pub if_test : {t : Taken} {x q : ℕ} (v : Scope) (d : ℕ) (s : List ℕ) → t ≡ expr_taken v d (from 1 s) → Fault x q ≡ plus 1 0 t → Fault x q ≡ command_as an_if v d s
unfolding cmd_of
if_test v d s = fork_test loops branch (run (command v d)) v d s

pub if_first : {t u : Taken} {n l x q : ℕ} (v : Scope) (d : ℕ) (s : List ℕ) → t ≡ expr_taken v d (from 1 s) → Bytes n l ≡ plus 1 0 t →
    u ≡ run_taken v d (from n s) → Fault x q ≡ plus n l u → Fault x q ≡ command_as an_if v d s
unfolding cmd_of
if_first v d s = fork_first loops_in loops branch (run (command v d)) v d s

pub if_whole : {r t u y : Taken} {n l m k : ℕ} (v : Scope) (d : ℕ) (s : List ℕ) → t ≡ expr_taken v d (from 1 s) → Bytes n l ≡ plus 1 0 t →
    u ≡ run_taken v d (from n s) → Bytes m k ≡ plus n l u → y ≡ run_taken v d (from m s) → r ≡ plus m k y → r ≡ command_as an_if v d s
unfolding cmd_of loops
if_whole v d s = fork_whole loops_in loops branch (run (command v d)) (λ e a b. refl) v d s

-- A command, by its code.
pub command_empty : (v : Scope) (d : ℕ) (s : List ℕ) → length s ≤ 0 → Fault ended_early 0 ≡ command_taken v d s
unfolding taken command next
command_empty v zero [] h = refl
command_empty v (suc d) [] h = refl
command_empty v zero (k ∷ s) h = absurd (omega arith)
command_empty v (suc d) (k ∷ s) h = absurd (omega arith)

pub command_deep : (v : Scope) (d : ℕ) (s : List ℕ) → 0 < length s → d ≡ 0 → Fault too_deep 0 ≡ command_taken v d s
unfolding taken command next
command_deep v zero [] h e = absurd (omega arith)
command_deep v (suc d) [] h e = absurd (omega arith)
command_deep v zero (k ∷ s) h e = refl
command_deep v (suc d) (k ∷ s) h e = absurd (omega arith)

pub command_as_lem : {r : Taken} {k : ℕ} (f : CmdForm) (v : Scope) (d : ℕ) (s : List ℕ) → 0 < length s → k ≡ get_or s 0 0 → (d ≡ 0 → ⊥) →
    cmd_form k ≡ f → r ≡ command_as f v (d - 1) s → r ≡ command_taken v d s
unfolding command next
command_as_lem f v zero s h w l e q = absurd (omega arith)
command_as_lem f v (suc d) [] h w l e q = absurd (omega arith)
command_as_lem f v (suc d) (k ∷ s) h w l e q = rw (← w, e) (rw (sub-one (suc d)) at q)

pub assignment_code : (k : ℕ) → k ≡ 0x01 → cmd_form k ≡ an_assignment
unfolding cmd_form
assignment_code k e = rw e

pub if_code : (k : ℕ) → k ≡ 0x02 → cmd_form k ≡ an_if
unfolding cmd_form
if_code k e = rw e

pub while_code : (k : ℕ) → k ≡ 0x03 → cmd_form k ≡ a_while
unfolding cmd_form
while_code k e = rw e

pub command_unknown : {k : ℕ} (v : Scope) (d : ℕ) (s : List ℕ) → 0 < length s → k ≡ get_or s 0 0 → (d ≡ 0 → ⊥) → (k ≡ 0x01 → ⊥) → (k ≡ 0x02 → ⊥) →
    (k ≡ 0x03 → ⊥) → Fault unknown_code 0 ≡ command_taken v d s
unfolding cmd_form cmd_of taken
command_unknown {k} v d s h w l a b c =
    command_as_lem no_command v d s h w l (rw (ne_eqb k 0x01 a, cmd_form, ne_eqb k 0x02 b, ne_eqb k 0x03 c)) refl

-- Commands up to a code that ends them, one after another.
until_ends : {B : Type 0} (ends : ℕ → Bool) (last : List ℕ → Parsed B) (one : List ℕ → Parsed Cmd) (join : Cmd → B → B) (n k : ℕ) (s : List ℕ) →
    ends k ≡ true → until ends last one join (suc n) (k ∷ s) ≡ last (k ∷ s)
unfolding until
until_ends ends last one join n k s e = rw (e, until)

until_goes : {B : Type 0} (ends : ℕ → Bool) (last : List ℕ → Parsed B) (one : List ℕ → Parsed Cmd) (join : Cmd → B → B) (n k : ℕ) (s : List ℕ) →
    ends k ≡ false → until ends last one join (suc n) (k ∷ s)
    ≡ (and_then (k ∷ s) (one (k ∷ s)) λ c s. and_then s (until ends last one join n s) λ r s. got (join c r) 0)
unfolding until
until_goes ends last one join n k s e = rw (e, until)

abbrev over : List ℕ → Parsed Run
over s = got stop 0

module _ (ends : ℕ → Bool) (one : List ℕ → Parsed Cmd) where
  abbrev some : ℕ → List ℕ → Taken
  some n s = taken loops_in (ordinaries ends one n s)

  at_end : (n : ℕ) (s : List ℕ) → 0 < length s → ends (get_or s 0 0) ≡ true → Bytes 0 0 ≡ some (suc n) s
  unfolding ordinaries taken loops_in
  at_end n [] h e = absurd (omega arith)
  at_end n (k ∷ s) h e = rw (until_ends ends over one then n k s e)

  at_nothing : (n : ℕ) (s : List ℕ) → length s ≤ 0 → Fault ended_early 0 ≡ some n s
  unfolding ordinaries until taken
  at_nothing zero s h = refl
  at_nothing (suc n) [] h = refl
  at_nothing (suc n) (k ∷ s) h = absurd (omega arith)

  at_fault : {t : Taken} {r p : ℕ} (n : ℕ) (s : List ℕ) → 0 < length s → ends (get_or s 0 0) ≡ false → t ≡ Fault r p → t ≡ taken loops (one s) → t ≡ some (suc n) s
  unfolding ordinaries
  at_fault n [] h e f w = absurd (omega arith)
  at_fault n (k ∷ s) h e f w = rw (until_goes ends over one then n k s e) (stops loops loops_in (k ∷ s) (one (k ∷ s)) _ f w)

  at_more : {t : Taken} {m l : ℕ} (n : ℕ) (s : List ℕ) → 0 < length s → ends (get_or s 0 0) ≡ false → t ≡ Bytes m l → t ≡ taken loops (one s) →
      some (suc n) s ≡ plus m l (some n (drop m s))
  unfolding ordinaries loops_in
  at_more n [] h e f w = absurd (omega arith)
  at_more n (k ∷ s) h e f w =
      rw (until_goes ends over one then n k s e)
      (one_more loops loops_in loops_in (k ∷ s) (one (k ∷ s)) (ordinaries ends one n) then (λ a b. refl) f w)

  -- What stands behind the commands is read from where they end.
  pub split : {B : Type 0} (count : B → ℕ) (last : List ℕ → Parsed B) (join : Cmd → B → B) → ((c : Cmd) (r : B) → count (join c r) ≡ loops c + count r) →
      (n : ℕ) (s : List ℕ) → taken count (until ends last one join n s) ≡ onward (some n s) (λ i. taken count (last (drop i s)))
  unfolding ordinaries until taken and_then loops_in
  split count last join j zero s = refl
  split count last join j (suc n) [] = refl
  split {B} count last join j (suc n) (k ∷ s) = go (split count last join j n) (ends k) refl
    where
      x : List ℕ
      x = k ∷ s

      Claim : Type 0
      Claim = taken count (until ends last one join (suc n) x) ≡ onward (some (suc n) x) (λ i. taken count (last (drop i x)))

      Rest : Type 0
      Rest = (s : List ℕ) → taken count (until ends last one join n s) ≡ onward (some n s) (λ i. taken count (last (drop i s)))

      step : Rest → ends k ≡ false → (p : Parsed Cmd) → one x ≡ p → Claim
      step ih e (got c m) q =
          let w : Bytes m (loops c) ≡ taken loops (one x) = rw q in
          rw (until_goes ends last one join n k s e)
          (one_more loops count count x (one x) (until ends last one join n) join j refl w ∙ ap (plus m (loops c)) (ih (drop m x))
          ∙ plus_onward m (loops c) (some n (drop m x)) _ _ (λ i. ap (λ u. taken count (last u)) (drop-drop i m x))
          ∙ ap (λ t. onward t (λ i. taken count (last (drop i x)))) (sym (at_more n x (omega arith) e refl w)))
      step ih e (bad r p) q = rw (until_goes ends last one join n k s e, until_goes ends over one then n k s e, q)

      go : Rest → (b : Bool) → ends k ≡ b → Claim
      go ih true e = rw (until_ends ends last one join n k s e, until_ends ends over one then n k s e) (sym (plus_none (taken count (last x))))
      go ih false e = step ih e (one x) refl

-- The commands that are left, after the bytes up to `at` with their loops; the fuel is enough for them.
pub record Rest (closed : Bool) (v : Scope) (d : ℕ) (s : List ℕ) (at l : ℕ) : Type 0 where
  pub fuel : ℕ
  pub enough : length s ≤ at + fuel
  pub same : ordinaries_taken closed v d s ≡ plus at l (some (ending closed) (command v d) fuel (drop at s))

pub rest_begin : (closed : Bool) (v : Scope) (d : ℕ) (s : List ℕ) → Rest closed v d s 0 0
rest_begin closed v d s = record { fuel = length s; enough = omega arith; same = sym (plus_none (ordinaries_taken closed v d s)) }

-- The byte at `at`, as the first of those left.
first_left : {b c : Bool} (ends : ℕ → Bool) (s : List ℕ) (at : ℕ) → b ≡ ends (get_or s at 0) → b ≡ c → ends (get_or (drop at s) 0 0) ≡ c
first_left ends s at h e = rw (get_or-drop at s 0 0, add-zero at) (sym h ∙ e)

pub rest_more : {b : Bool} {t : Taken} {m k : ℕ} (closed : Bool) (v : Scope) (d : ℕ) (s : List ℕ) (at l : ℕ) → Rest closed v d s at l → at < length s →
    b ≡ ending closed (get_or s at 0) → b ≡ false → t ≡ command_taken v d (from at s) → Bytes m k ≡ plus at l t → Rest closed v d s m k
rest_more {b} {t} {m} {k} closed v d s at l r h e f w q = rw (← a.all_bytes, ← a.all_loops) at (go r.fuel r.enough r.same)
  where
    a : Behind at l t m k
    a = was_behind at l t q

    go : (n : ℕ) → length s ≤ at + n → ordinaries_taken closed v d s ≡ plus at l (some (ending closed) (command v d) n (drop at s)) → Rest closed v d s (at + a.bytes) (l + a.loops)
    go zero o x = absurd (omega arith)
    go (suc n) o x =
        record {
          fuel = n;
          enough = omega (arith, command_took v d (from at s) w q, a.all_bytes);
          same = x ∙ ap (plus at l) (at_more (ending closed) (command v d) n (drop at s) (omega (arith, length-drop at s))
              (first_left (ending closed) s at e f) a.is (rw from_drop at w))
              ∙ rw drop-drop (plus_plus at l a.bytes a.loops (some (ending closed) (command v d) n (drop (at + a.bytes) s)));
        }

pub rest_fault : {b : Bool} {t : Taken} {x p : ℕ} (closed : Bool) (v : Scope) (d : ℕ) (s : List ℕ) (at l : ℕ) → Rest closed v d s at l → at < length s →
    b ≡ ending closed (get_or s at 0) → b ≡ false → t ≡ command_taken v d (from at s) → Fault x p ≡ plus at l t → Fault x p ≡ ordinaries_taken closed v d s
rest_fault {b} {t} {x} {p} closed v d s at l r h e f w q = go r.fuel r.enough r.same
  where
    go : (n : ℕ) → length s ≤ at + n → ordinaries_taken closed v d s ≡ plus at l (some (ending closed) (command v d) n (drop at s)) → Fault x p ≡ ordinaries_taken closed v d s
    go zero o y = absurd (omega arith)
    go (suc n) o y =
        q ∙ ap (plus at l) (at_fault (ending closed) (command v d) n (drop at s) (omega (arith, length-drop at s))
        (first_left (ending closed) s at e f) (was_stopped at l t q).is (rw from_drop at w)) ∙ sym y

pub rest_end : {b : Bool} (closed : Bool) (v : Scope) (d : ℕ) (s : List ℕ) (at l : ℕ) → Rest closed v d s at l → at < length s →
    b ≡ ending closed (get_or s at 0) → b ≡ true → Bytes at l ≡ ordinaries_taken closed v d s
rest_end closed v d s at l r h e f = go r.fuel r.enough r.same
  where
    go : (n : ℕ) → length s ≤ at + n → ordinaries_taken closed v d s ≡ plus at l (some (ending closed) (command v d) n (drop at s)) → Bytes at l ≡ ordinaries_taken closed v d s
    go zero o y = absurd (omega arith)
    go (suc n) o y =
        ap₂ Bytes (omega arith) (omega arith)
        ∙ ap (plus at l) (at_end (ending closed) (command v d) n (drop at s) (omega (arith, length-drop at s)) (first_left (ending closed) s at e f)) ∙ sym y

pub rest_short : (closed : Bool) (v : Scope) (d : ℕ) (s : List ℕ) (at l : ℕ) → Rest closed v d s at l → length s ≤ at → Fault ended_early at ≡ ordinaries_taken closed v d s
rest_short closed v d s at l r h =
    ap₂ Fault refl (omega arith)
    ∙ ap (plus at l) (at_nothing (ending closed) (command v d) r.fuel (drop at s) (omega (arith, length-drop at s))) ∙ sym r.same

-- S 00.
run_split : (v : Scope) (d : ℕ) (s : List ℕ) → run_taken v d s ≡ onward (ordinaries_taken false v d s) (λ i. Bytes 1 0)
unfolding run taken loops_in
run_split v d s = split (ending false) (command v d) loops_in (λ s. got stop 1) then (λ c r. refl) (length s) s

pub run_whole : {m l : ℕ} (v : Scope) (d : ℕ) (s : List ℕ) → Bytes m l ≡ ordinaries_taken false v d s → Bytes (m + 1) l ≡ run_taken v d s
run_whole v d s h = ap₂ Bytes refl (omega arith) ∙ ap (λ t. onward t (λ i. Bytes 1 0)) h ∙ sym (run_split v d s)

pub run_fault : {r q : ℕ} (v : Scope) (d : ℕ) (s : List ℕ) → Fault r q ≡ ordinaries_taken false v d s → Fault r q ≡ run_taken v d s
run_fault v d s h = ap (λ t. onward t (λ i. Bytes 1 0)) h ∙ sym (run_split v d s)
