-- The ways through the code that reads closing sequences and bodies.
use mathlib.Core.Path.{◌≡◌, refl, sym, ap, ap₂, ◌∙◌}
use mathlib.Core.Bool.{true}
use mathlib.Core.List.{List, [], ◌∷◌}
use Prim.Native.Nat.{ℕ, zero, suc, ◌-◌, ◌≤◌, ◌<◌}
use native.Mathlib.Omega.{arith}
use native.Mathlib.Numerals.{sub-one}
use borrow.Author.Tests.{ne_eqb}
use lib.ListN.{length, get_or, drop, drop_of_length-le}
use lib.Seq.{drop-cons}
use Rattle.meaning.specs.Tree.{first, give, pick, loops_of}
use Rattle.meaning.specs.Limits.{most_depth}
use Rattle.meaning.specs.Reading.{ended_early, too_deep, unknown_code, left_over}
use Rattle.meaning.specs.Reading.{more, next, and_then, Scope, LastForm, a_return, a_pick, no_closing}
use Rattle.meaning.specs.Reading.{expr, until, command, last_form, closes, last_of, closing, body}
use Rattle.book.specs.Taken.{Taken, Bytes, Fault, taken, plus}
use Rattle.book.specs.Parts.{no_loops, expr_taken, ordinaries_taken, closing_taken, closer, closer_taken, closer_as, body_taken}
use Rattle.book.proofs.Parts.{from, from_drop, plus_none, taken_more, Got, was_got, stops, ends_with, onward}
use Rattle.book.proofs.Laws.Forks.{fork_test, fork_first, fork_whole}
use Rattle.book.proofs.Laws.Commands.{split}

-- The closing if.
pub pick_test : {t : Taken} {x q : ℕ} (v : Scope) (d : ℕ) (s : List ℕ) → t ≡ expr_taken v d (from 1 s) → Fault x q ≡ plus 1 0 t → Fault x q ≡ closer_as a_pick v d s
unfolding last_of
pick_test v d s = fork_test loops_of pick (closing v d) v d s

pub pick_first : {t u : Taken} {n l x q : ℕ} (v : Scope) (d : ℕ) (s : List ℕ) → t ≡ expr_taken v d (from 1 s) → Bytes n l ≡ plus 1 0 t →
    u ≡ closing_taken v d (from n s) → Fault x q ≡ plus n l u → Fault x q ≡ closer_as a_pick v d s
unfolding last_of
pick_first v d s = fork_first loops_of loops_of pick (closing v d) v d s

pub pick_whole : {r t u y : Taken} {n l m k : ℕ} (v : Scope) (d : ℕ) (s : List ℕ) → t ≡ expr_taken v d (from 1 s) → Bytes n l ≡ plus 1 0 t →
    u ≡ closing_taken v d (from n s) → Bytes m k ≡ plus n l u → y ≡ closing_taken v d (from m s) → r ≡ plus m k y → r ≡ closer_as a_pick v d s
unfolding last_of loops_of
pick_whole v d s = fork_whole loops_of loops_of pick (closing v d) (λ e a b. refl) v d s

-- A closing command, by its code.
pub closer_empty : (v : Scope) (d : ℕ) (s : List ℕ) → length s ≤ 0 → Fault ended_early 0 ≡ closer_taken v d s
unfolding taken closer next
closer_empty v d [] h = refl
closer_empty v d (k ∷ s) h = absurd (omega arith)

closer_as_lem : {r : Taken} {k : ℕ} (f : LastForm) (v : Scope) (d : ℕ) (s : List ℕ) → 0 < length s → k ≡ get_or s 0 0 → last_form k ≡ f → r ≡ closer_as f v d s →
    r ≡ closer_taken v d s
unfolding closer next
closer_as_lem f v d [] h w e q = absurd (omega arith)
closer_as_lem f v d (k ∷ s) h w e q = rw (← w, e) q

pub closer_return : {r t : Taken} {k : ℕ} (v : Scope) (d : ℕ) (s : List ℕ) → 0 < length s → k ≡ get_or s 0 0 → k ≡ 0x04 → t ≡ expr_taken v d (from 1 s) → r ≡ plus 1 0 t →
    r ≡ closer_taken v d s
unfolding last_form last_of loops_of
closer_return v d s h c e q w =
    let x : List ℕ = drop 1 s in
    closer_as_lem a_return v d s h c (rw e)
    (w ∙ ap (plus 1 0) (rw from_drop at q ∙ sym (ends_with no_loops loops_of x (expr v d x) give 0 (λ e. refl) ∙ plus_none _)) ∙ sym (taken_more loops_of 1 _))

pub closer_pick : {r : Taken} {k : ℕ} (v : Scope) (d : ℕ) (s : List ℕ) → 0 < length s → k ≡ get_or s 0 0 → k ≡ 0x05 → r ≡ closer_as a_pick v d s → r ≡ closer_taken v d s
unfolding last_form
closer_pick v d s h c e q = closer_as_lem a_pick v d s h c (rw e) q

pub closer_unknown : {k : ℕ} (v : Scope) (d : ℕ) (s : List ℕ) → 0 < length s → k ≡ get_or s 0 0 → (k ≡ 0x04 → ⊥) → (k ≡ 0x05 → ⊥) → Fault unknown_code 0 ≡ closer_taken v d s
unfolding last_form last_of taken
closer_unknown {k} v d s h w a b =
    closer_as_lem no_closing v d s h w (rw (ne_eqb k 0x04 a, last_form, ne_eqb k 0x05 b)) refl

-- A closing sequence: ordinary commands, then a closing command.
pub closing_empty : (v : Scope) (d : ℕ) (s : List ℕ) → length s ≤ 0 → Fault ended_early 0 ≡ closing_taken v d s
unfolding taken closing next until
closing_empty v zero [] h = refl
closing_empty v (suc d) [] h = refl
closing_empty v zero (k ∷ s) h = absurd (omega arith)
closing_empty v (suc d) (k ∷ s) h = absurd (omega arith)

pub closing_deep : (v : Scope) (d : ℕ) (s : List ℕ) → 0 < length s → d ≡ 0 → Fault too_deep 0 ≡ closing_taken v d s
unfolding taken closing next
closing_deep v zero [] h e = absurd (omega arith)
closing_deep v (suc d) [] h e = absurd (omega arith)
closing_deep v zero (k ∷ s) h e = refl
closing_deep v (suc d) (k ∷ s) h e = absurd (omega arith)

closing_split : (v : Scope) (d : ℕ) (s : List ℕ) → (d ≡ 0 → ⊥) → closing_taken v d s ≡ onward (ordinaries_taken true v d s) (λ i. closer_taken v (d - 1) (drop i s))
unfolding closing closer loops_of
closing_split v zero s h = absurd (omega arith)
closing_split v (suc d) s h = rw (sub-one (suc d)) (split closes (command v (suc d)) loops_of (closer v d) first (λ c r. refl) (length s) s)

pub closing_fault : {r q : ℕ} (v : Scope) (d : ℕ) (s : List ℕ) → (d ≡ 0 → ⊥) → Fault r q ≡ ordinaries_taken true v d s → Fault r q ≡ closing_taken v d s
closing_fault v d s n h = ap (λ t. onward t (λ i. closer_taken v (d - 1) (drop i s))) h ∙ sym (closing_split v d s n)

pub closing_whole : {r u : Taken} {m l : ℕ} (v : Scope) (d : ℕ) (s : List ℕ) → (d ≡ 0 → ⊥) → Bytes m l ≡ ordinaries_taken true v d s →
    u ≡ closer_taken v (d - 1) (from m s) → r ≡ plus m l u → r ≡ closing_taken v d s
closing_whole {r} {u} {m} {l} v d s n h q w =
    w ∙ ap (plus m l) (rw from_drop at q) ∙ ap (λ t. onward t (λ i. closer_taken v (d - 1) (drop i s))) h ∙ sym (closing_split v d s n)

-- A body: one closing sequence, and nothing after it.
pub body_fault : {r q : ℕ} (v : Scope) (s : List ℕ) → Fault r q ≡ closing_taken v most_depth s → Fault r q ≡ body_taken v s
unfolding body
body_fault v s h = stops loops_of loops_of s (closing v most_depth s) _ refl h

pub body_left : {m l : ℕ} (v : Scope) (s : List ℕ) → Bytes m l ≡ closing_taken v most_depth s → m < length s → Fault left_over m ≡ body_taken v s
unfolding body and_then more taken
body_left {m} {l} v s h n =
    let g : Got loops_of (closing v most_depth s) m l = was_got loops_of (closing v most_depth s) refl h in
    rw (g.is, drop-cons s m 0 n) (ap₂ Fault refl (omega arith))

pub body_whole : {m l : ℕ} (v : Scope) (s : List ℕ) → Bytes m l ≡ closing_taken v most_depth s → length s ≤ m → Bytes m l ≡ body_taken v s
unfolding body and_then more taken
body_whole {m} {l} v s h n =
    let g : Got loops_of (closing v most_depth s) m l = was_got loops_of (closing v most_depth s) refl h in
    rw (g.is, drop_of_length-le s n) (ap₂ Bytes (omega arith) (sym g.count))
