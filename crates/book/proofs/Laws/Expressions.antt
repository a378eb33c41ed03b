-- The ways through the code that reads an expression.
use mathlib.Core.Path.{◌≡◌, refl, sym, ap, ap₂, ◌∙◌}
use mathlib.Core.List.{List, [], ◌∷◌}
use mathlib.Core.Option.{some, none}
use Prim.Native.Nat.{ℕ, zero, suc, ◌+◌, ◌-◌, ◌≤◌, ◌<◌}
use native.Mathlib.Omega.{arith}
use native.Mathlib.Numerals.{sub-one, add-one}
use borrow.Author.Tests.{lt-ltb, le-ltb, ne_eqb}
use lib.ListN.{length, get_or, drop, get_elem?}
use lib.Seq.{drop-drop}
use Rattle.meaning.specs.Tree.{Operation, Expr, operation, call, arg}
use Rattle.meaning.specs.Reading.{ended_early, too_deep, unknown_code, no_variable, no_operation, no_procedure}
use Rattle.meaning.specs.Reading.{Parsed, got, bad, more, next, passing, and_then, Scope, ExprForm, a_constant, a_variable, an_operation, a_call, no_expression}
use Rattle.meaning.specs.Reading.{operations, expr_form, constant_at, arguments, expr_of, expr}
use Rattle.book.specs.Taken.{Taken, Bytes, Fault, taken, plus}
use Rattle.book.specs.Parts.{naming, no_loops, expr_taken, expr_as, arguments_taken}
use Rattle.book.proofs.Parts.{from, from_drop, plus_plus, plus_none, taken_more, was_got, was_behind, was_stopped, stops, ends_with, one_more, two_bytes}

-- A constant.
pub constant_short : (s : List ℕ) → 1 ≤ length s → length s < 5 → Fault ended_early (length s) ≡ expr_as a_constant (naming 0 []) 0 s
unfolding taken expr_of constant_at next more
constant_short [] h l = absurd (omega arith)
constant_short (a ∷ []) h l = refl
constant_short (a ∷ b ∷ []) h l = refl
constant_short (a ∷ b ∷ c ∷ []) h l = refl
constant_short (a ∷ b ∷ c ∷ d ∷ []) h l = refl
constant_short (a ∷ b ∷ c ∷ d ∷ e ∷ s) h l = absurd (omega arith)

pub constant_whole : (s : List ℕ) → 5 ≤ length s → Bytes 5 0 ≡ expr_as a_constant (naming 0 []) 0 s
unfolding taken expr_of constant_at next more
constant_whole [] h = absurd (omega arith)
constant_whole (a ∷ []) h = absurd (omega arith)
constant_whole (a ∷ b ∷ []) h = absurd (omega arith)
constant_whole (a ∷ b ∷ c ∷ []) h = absurd (omega arith)
constant_whole (a ∷ b ∷ c ∷ d ∷ []) h = absurd (omega arith)
constant_whole (a ∷ b ∷ c ∷ d ∷ e ∷ s) h = refl

-- A form whose second byte is missing.
pub variable_short : (v : Scope) (d : ℕ) (s : List ℕ) → length s ≤ 1 → Fault ended_early 1 ≡ expr_as a_variable v d s
unfolding taken expr_of next more
variable_short v d [] h = refl
variable_short v d (a ∷ []) h = refl
variable_short v d (a ∷ b ∷ s) h = absurd (omega arith)

pub operation_short : (v : Scope) (d : ℕ) (s : List ℕ) → length s ≤ 1 → Fault ended_early 1 ≡ expr_as an_operation v d s
unfolding taken expr_of next more
operation_short v d [] h = refl
operation_short v d (a ∷ []) h = refl
operation_short v d (a ∷ b ∷ s) h = absurd (omega arith)

pub call_short : (v : Scope) (d : ℕ) (s : List ℕ) → length s ≤ 1 → Fault ended_early 1 ≡ expr_as a_call v d s
unfolding taken expr_of next more
call_short v d [] h = refl
call_short v d (a ∷ []) h = refl
call_short v d (a ∷ b ∷ s) h = absurd (omega arith)

-- A variable.
pub variable_known : {x : ℕ} (v : Scope) (d : ℕ) (s : List ℕ) → 2 ≤ length s → x ≡ get_or s 1 0 → x < v.variables → Bytes 2 0 ≡ expr_as a_variable v d s
unfolding taken expr_of next more passing
variable_known v d [] h e l = absurd (omega arith)
variable_known v d (a ∷ []) h e l = absurd (omega arith)
variable_known v d (a ∷ b ∷ s) h e l = rw (lt-ltb b v.variables (omega arith))

pub variable_unknown : {x : ℕ} (v : Scope) (d : ℕ) (s : List ℕ) → 2 ≤ length s → x ≡ get_or s 1 0 → v.variables ≤ x → Fault no_variable 1 ≡ expr_as a_variable v d s
unfolding taken expr_of next more passing
variable_unknown v d [] h e l = absurd (omega arith)
variable_unknown v d (a ∷ []) h e l = absurd (omega arith)
variable_unknown v d (a ∷ b ∷ s) h e l = rw (le-ltb b v.variables (omega arith))

-- An operation.
known : {A : Type 0} (l : List A) (i : ℕ) → i < length l → (a : A) × (get_elem? l i ≡ some a)
known [] i h = absurd (omega arith)
known (a ∷ l) zero h = (a, refl)
known (a ∷ l) (suc i) h = known l i (omega arith)

unknown : {A : Type 0} (l : List A) (i : ℕ) → length l ≤ i → get_elem? l i ≡ none
unknown [] i h = refl
unknown (a ∷ l) zero h = absurd (omega arith)
unknown (a ∷ l) (suc i) h = unknown l i (omega arith)

pub operation_unknown : {o : ℕ} (v : Scope) (d : ℕ) (s : List ℕ) → 2 ≤ length s → o ≡ get_or s 1 0 → 8 ≤ o → Fault no_operation 1 ≡ expr_as an_operation v d s
unfolding taken expr_of next more
operation_unknown v d [] h e l = absurd (omega arith)
operation_unknown v d (a ∷ []) h e l = absurd (omega arith)
operation_unknown v d (a ∷ b ∷ s) h e l = rw (unknown operations b (omega arith))

-- The two operands are read as two arguments.
second : (one : List ℕ → Parsed Expr) (f : Operation) (a : Expr) (s : List ℕ) (p : Parsed Expr) →
    taken no_loops (and_then s p λ b s. got (operation f a b) 0)
    ≡ taken no_loops (and_then s (and_then s p λ b s. and_then s (arguments one zero s) λ es s. got (arg b es) 0) λ es s. got (arg a es) 0)
unfolding taken and_then more arguments
second one f a s (got b n) = ap₂ Bytes (omega arith) refl
second one f a s (bad r q) = refl

operands : (one : List ℕ → Parsed Expr) (f : Operation) (s : List ℕ) (p : Parsed Expr) →
    taken no_loops (and_then s p λ a s. and_then s (one s) λ b s. got (operation f a b) 0)
    ≡ taken no_loops (and_then s p λ a s. and_then s (arguments one 1 s) λ es s. got (arg a es) 0)
unfolding and_then arguments taken
operands one f s (got a n) =
    taken_more no_loops n _ ∙ ap (plus n 0) (second one f a (drop n s) (one (drop n s))) ∙ sym (taken_more no_loops n _)
operands one f s (bad r q) = refl

pub operation_known : {r : Taken} {o : ℕ} (v : Scope) (d : ℕ) (s : List ℕ) → 2 ≤ length s → o ≡ get_or s 1 0 → o < 8 → r ≡ arguments_taken 2 v d s → r ≡ expr_as an_operation v d s
unfolding expr_of next arguments
operation_known v d [] h w l e = absurd (omega arith)
operation_known v d (a ∷ []) h w l e = absurd (omega arith)
operation_known v d (a ∷ b ∷ s) h w l e =
    let (f, q) = known operations b (omega arith) in
    rw q (e ∙ two_bytes no_loops no_loops _ (arguments (expr v d) 2 s) (operands (expr v d) f s (expr v d s)))

-- A call.
pub call_unknown : {p : ℕ} (v : Scope) (d : ℕ) (s : List ℕ) → 2 ≤ length s → p ≡ get_or s 1 0 → length v.arities ≤ p → Fault no_procedure 1 ≡ expr_as a_call v d s
unfolding taken expr_of next more passing
call_unknown v d [] h e l = absurd (omega arith)
call_unknown v d (a ∷ []) h e l = absurd (omega arith)
call_unknown v d (a ∷ b ∷ s) h e l = rw (le-ltb b (length v.arities) (omega arith))

pub call_known : {r : Taken} {p n : ℕ} (v : Scope) (d : ℕ) (s : List ℕ) →
    2 ≤ length s → p ≡ get_or s 1 0 → p < length v.arities → n ≡ get_or v.arities p 0 → r ≡ arguments_taken n v d s → r ≡ expr_as a_call v d s
unfolding expr_of next passing
call_known v d [] h e l m q = absurd (omega arith)
call_known v d (a ∷ []) h e l m q = absurd (omega arith)
call_known {r} {p} {n} v d (a ∷ b ∷ s) h e l m q =
    let m' : get_or v.arities b 0 ≡ n = cc in
    rw (lt-ltb b (length v.arities) (omega arith), m')
    (q ∙ two_bytes no_loops no_loops _ (arguments (expr v d) n s)
    (ends_with no_loops no_loops s (arguments (expr v d) n s) (call b) 0 (λ es. refl) ∙ plus_none _))

-- The arguments of a call or an operation: those that are left, after the bytes up to `at`.
abbrev pub args_left : ℕ → Scope → ℕ → List ℕ → ℕ → Taken
args_left n v d s at = plus at 0 (taken no_loops (arguments (expr v d) n (drop at s)))

pub arguments_begin : {i : ℕ} (n : ℕ) (v : Scope) (d : ℕ) (s : List ℕ) → i ≡ n → arguments_taken n v d s ≡ args_left i v d s 2
arguments_begin n v d s e = rw e (taken_more no_loops 2 _)

pub arguments_end : {r : Taken} {l : ℕ} (n : ℕ) (v : Scope) (d : ℕ) (s : List ℕ) (at : ℕ) → n ≡ 0 → l ≡ 0 → r ≡ args_left n v d s at → Bytes at l ≡ r
unfolding arguments taken
arguments_end zero v d s at h z e = ap₂ Bytes (omega arith) z ∙ sym e
arguments_end (suc n) v d s at h z e = absurd (omega arith)

-- One more argument, of which none is a loop.
pub record Further (r : Taken) (n : ℕ) (v : Scope) (d : ℕ) (s : List ℕ) (at l : ℕ) : Type 0 where
  pub same : r ≡ args_left n v d s at
  pub none_in : l ≡ 0

pub arguments_step : {r t : Taken} {i m l : ℕ} (n : ℕ) (v : Scope) (d : ℕ) (s : List ℕ) (at k : ℕ) → i ≡ n + 1 → k ≡ 0 → r ≡ args_left i v d s at →
    t ≡ expr_taken v d (from at s) → Bytes m l ≡ plus at k t → Further r n v d s m l
unfolding arguments
arguments_step {r} {t} {i} {m} {l} n v d s at k more z e' w q =
    let e : r ≡ args_left (suc n) v d s at = rw (more, add-one n) at e' in
    let b = was_behind at k t q in
    let none_in : b.loops ≡ 0 = sym (was_got no_loops (one (drop at s)) b.is (rw from_drop at w)).count in
    record { same = rw b.all_bytes (e ∙ step b.bytes b.loops none_in b.is (rw from_drop at w)); none_in = omega (arith, b.all_loops) }
  where
    one : List ℕ → Parsed Expr
    one = expr v d

    step : (i j : ℕ) → j ≡ 0 → t ≡ Bytes i j → t ≡ taken no_loops (one (drop at s)) → args_left (suc n) v d s at ≡ args_left n v d s (at + i)
    step i j e q w =
        rw (one_more no_loops no_loops no_loops (drop at s) (one (drop at s)) (arguments one n) arg (λ a b. refl) q w, e, drop-drop i at s)
        (plus_plus at 0 i 0 (taken no_loops (arguments one n (drop (at + i) s))))

pub arguments_fault : {r t : Taken} {i x p : ℕ} (n : ℕ) (v : Scope) (d : ℕ) (s : List ℕ) (at k : ℕ) → i ≡ n + 1 → k ≡ 0 → r ≡ args_left i v d s at →
    t ≡ expr_taken v d (from at s) → Fault x p ≡ plus at k t → Fault x p ≡ r
unfolding arguments
arguments_fault {r} {t} n v d s at k more z e' w q =
    let e : r ≡ args_left (suc n) v d s at = rw (more, add-one n) at e' in
    q ∙ rw z (ap (plus at 0) (stops no_loops no_loops (drop at s) (expr v d (drop at s)) _ (was_stopped at k t q).is (rw from_drop at w)) ∙ sym e)

-- An expression, by its code.
pub expr_empty : (v : Scope) (d : ℕ) (s : List ℕ) → length s ≤ 0 → Fault ended_early 0 ≡ expr_taken v d s
unfolding taken expr next
expr_empty v zero [] h = refl
expr_empty v (suc d) [] h = refl
expr_empty v zero (k ∷ s) h = absurd (omega arith)
expr_empty v (suc d) (k ∷ s) h = absurd (omega arith)

pub expr_deep : (v : Scope) (d : ℕ) (s : List ℕ) → 0 < length s → d ≡ 0 → Fault too_deep 0 ≡ expr_taken v d s
unfolding taken expr next
expr_deep v zero [] h e = absurd (omega arith)
expr_deep v (suc d) [] h e = absurd (omega arith)
expr_deep v zero (k ∷ s) h e = refl
expr_deep v (suc d) (k ∷ s) h e = absurd (omega arith)

pub expr_as_lem : {r : Taken} {k : ℕ} (f : ExprForm) (v : Scope) (d : ℕ) (s : List ℕ) → 0 < length s → k ≡ get_or s 0 0 → (d ≡ 0 → ⊥) →
    expr_form k ≡ f → r ≡ expr_as f v (d - 1) s → r ≡ expr_taken v d s
unfolding expr next
expr_as_lem f v zero s h w l e q = absurd (omega arith)
expr_as_lem f v (suc d) [] h w l e q = absurd (omega arith)
expr_as_lem f v (suc d) (k ∷ s) h w l e q = rw (← w, e) (rw (sub-one (suc d)) at q)

-- What a constant and a variable are rests on less.
pub constant_any : {r : Taken} (v : Scope) (d : ℕ) (s : List ℕ) → r ≡ expr_as a_constant (naming 0 []) 0 s → r ≡ expr_as a_constant v d s
unfolding expr_of
constant_any v d s e = e

pub variable_any : {r : Taken} (v : Scope) (d : ℕ) (s : List ℕ) → r ≡ expr_as a_variable (naming v.variables []) 0 s → r ≡ expr_as a_variable v d s
unfolding expr_of
variable_any v d s e = e

-- The codes.
pub constant_code : (k : ℕ) → k ≡ 0x10 → expr_form k ≡ a_constant
unfolding expr_form
constant_code k e = rw e

pub variable_code : (k : ℕ) → k ≡ 0x11 → expr_form k ≡ a_variable
unfolding expr_form
variable_code k e = rw e

pub operation_code : (k : ℕ) → k ≡ 0x12 → expr_form k ≡ an_operation
unfolding expr_form
operation_code k e = rw e

pub call_code : (k : ℕ) → k ≡ 0x13 → expr_form k ≡ a_call
unfolding expr_form
call_code k e = rw e

pub expr_unknown : {k : ℕ} (v : Scope) (d : ℕ) (s : List ℕ) → 0 < length s → k ≡ get_or s 0 0 → (d ≡ 0 → ⊥) → (k ≡ 0x10 → ⊥) → (k ≡ 0x11 → ⊥) →
    (k ≡ 0x12 → ⊥) → (k ≡ 0x13 → ⊥) → Fault unknown_code 0 ≡ expr_taken v d s
unfolding expr_form expr_of taken
expr_unknown {k} v d s h w l a b c e =
    expr_as_lem no_expression v d s h w l (rw (ne_eqb k 0x10 a, expr_form, ne_eqb k 0x11 b, ne_eqb k 0x12 c, ne_eqb k 0x13 e)) refl
