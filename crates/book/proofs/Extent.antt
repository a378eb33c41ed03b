-- How far reading goes: within its bytes, with no more loops than bytes, and a command takes at least one.
use mathlib.Core.Path.{◌≡◌, refl}
use mathlib.Core.Bool.{Bool, true, false}
use mathlib.Core.List.{List, [], ◌∷◌}
use mathlib.Core.Option.{Option, some, none}
use Prim.Native.Nat.{ℕ, zero, suc, ◌+◌, ◌≤◌, ◌<◌}
use native.Mathlib.Omega.{arith}
use lib.Dec.{eqb}
use lib.ListN.{length, get_or, drop, get_elem?, length-drop}
use Rattle.meaning.specs.Tree.{Operation, Expr, Cmd, Run, Closing, loops, loops_in, loops_of}
use Rattle.meaning.specs.Tree.{operation, then, first}
use Rattle.meaning.specs.Limits.{most_depth}
use Rattle.meaning.specs.Reading
use Rattle.meaning.specs.Reading.{Parsed, got, bad, more, next, passing, and_then, Scope, ExprForm, CmdForm, LastForm, expr, expr_of, arguments, constant_at, operations, expr_form, until, run, command, cmd_of, cmd_form, closes, last_form, last_of, closing, body, left_over}
use Rattle.book.specs.Taken.{Taken, Bytes, taken, plus, span, loops_taken}
use Rattle.book.proofs.Parts.{Got, was_got, was_behind}
use Rattle.book.specs.Parts.{no_loops, expr_taken, command_taken, ordinaries, ending, ordinaries_taken, run_taken, closer, closer_taken, closing_taken, body_taken}

-- Of m bytes, k before them.
abbrev pub Within : {A : Type 0} → (A → ℕ) → ℕ → ℕ → Parsed A → Type 0
Within count m k (got a n) = (n ≤ m) × (count a ≤ k + n)
Within count m k (bad r p) = p ≤ m

within_more : {A : Type 0} (count : A → ℕ) (m k n : ℕ) (p : Parsed A) → Within count m (k + n) p → Within count (n + m) k (more n p)
unfolding more
within_more count m k n (got a q) h = (omega arith, omega arith)
within_more count m k n (bad r q) h = omega arith

-- The rest of a part, after n of its bytes.
within_then : {A B : Type 0} (one : A → ℕ) (all : B → ℕ) (k : ℕ) (s : List ℕ) (p : Parsed A) (g : A → List ℕ → Parsed B) →
    Within one (length s) 0 p → ((a : A) (n : ℕ) (t : List ℕ) → one a ≤ n → Within all (length t) (k + n) (g a t)) →
    Within all (length s) k (and_then s p g)
unfolding and_then
within_then one all k s (got a n) g h next =
    let e : length s ≡ n + length (drop n s) = omega (arith, length-drop n s, h.0) in
    rw e (within_more all (length (drop n s)) k n (g a (drop n s)) (next a n (drop n s) (omega (arith, h.1))))
within_then one all k s (bad r p) g h next = h

within_next : {A : Type 0} (count : A → ℕ) (k : ℕ) (s : List ℕ) (g : ℕ → List ℕ → Parsed A) →
    ((b : ℕ) (t : List ℕ) → Within count (suc (length t)) k (g b t)) → Within count (length s) k (next s g)
unfolding next
within_next count k [] g h = omega arith
within_next count k (b ∷ s) g h = h b s

within_one_more : {A : Type 0} (count : A → ℕ) (m k : ℕ) (p : Parsed A) → Within count m (k + 1) p → Within count (suc m) k (more 1 p)
unfolding more
within_one_more count m k (got a q) h = (omega arith, omega arith)
within_one_more count m k (bad r q) h = omega arith

within_passing : {A : Type 0} (count : A → ℕ) (m k : ℕ) (t : Bool) (r : ℕ) (p : Parsed A) → Within count m (k + 1) p → Within count (suc m) k (passing t r p)
unfolding passing
within_passing count m k true r p h = within_one_more count m k p h
within_passing count m k false r p h = omega arith

within_constant : (k : ℕ) (s : List ℕ) → Within no_loops (length s) k (constant_at s)
unfolding constant_at
within_constant k s =
    within_next no_loops k s _ λ a s. within_one_more no_loops (length s) k _
    (within_next no_loops (k + 1) s _ λ b s. within_one_more no_loops (length s) (k + 1) _
    (within_next no_loops (k + 1 + 1) s _ λ c s. within_one_more no_loops (length s) (k + 1 + 1) _
    (within_next no_loops (k + 1 + 1 + 1) s _ λ d s. (omega arith, omega arith))))

-- Reading an expression anywhere stays within its bytes.
abbrev Kept : {A : Type 0} → (A → ℕ) → (List ℕ → Parsed A) → Type 0
Kept count one = (s : List ℕ) → Within count (length s) 0 (one s)

within_arguments : (one : List ℕ → Parsed Expr) → Kept no_loops one → (n k : ℕ) (s : List ℕ) → Within no_loops (length s) k (arguments one n s)
unfolding arguments
within_arguments one h zero k s = (omega arith, omega arith)
within_arguments one h (suc n) k s =
    within_then no_loops no_loops k s (one s) _ (h s) λ e m t l.
    within_then no_loops no_loops (k + m) t (arguments one n t) _ (within_arguments one h n 0 t) λ es q u j. (omega arith, omega arith)

within_expr_of : (v : Scope) (one : List ℕ → Parsed Expr) → Kept no_loops one → (f : ExprForm) (s : List ℕ) → Within no_loops (suc (length s)) 0 (expr_of v one f s)
unfolding expr_of
within_expr_of v one h Reading.a_constant s = within_one_more no_loops (length s) 0 _ (within_constant 1 s)
within_expr_of v one h Reading.a_variable s =
    within_one_more no_loops (length s) 0 _
    (within_next no_loops 1 s _ λ x t. within_passing no_loops (length t) 1 _ _ _ (omega arith, omega arith))
within_expr_of v one h Reading.an_operation s = within_one_more no_loops (length s) 0 _ (within_next no_loops 1 s _ λ o t. go (get_elem? operations o) t)
  where
    go : (f : Option Operation) (t : List ℕ) → Within {A = Expr} no_loops (suc (length t)) 1
        (elim f [ none ↦ bad 5 0 | some f ↦ more 1 (and_then t (one t) λ a s. and_then s (one s) λ b s. got (operation f a b) 0) ])
    go none t = omega arith
    go (some f) t =
        within_one_more no_loops (length t) 1 _
        (within_then no_loops no_loops 2 t (one t) _ (h t) λ a n u l.
        within_then no_loops no_loops (2 + n) u (one u) _ (h u) λ b m w j. (omega arith, omega arith))
within_expr_of v one h Reading.a_call s =
    within_one_more no_loops (length s) 0 _
    (within_next no_loops 1 s _ λ p t. within_passing no_loops (length t) 1 _ _ _
    (within_then no_loops no_loops 2 t _ _ (within_arguments one h (get_or v.arities p 0) 0 t) λ es n u l. (omega arith, omega arith)))
within_expr_of v one h Reading.no_expression s = omega arith

pub within_expr : (v : Scope) (d : ℕ) → Kept no_loops (expr v d)
unfolding expr
within_expr v zero s = within_next no_loops 0 s _ λ k t. omega arith
within_expr v (suc d) s = within_next no_loops 0 s _ λ k t. within_expr_of v (expr v d) (within_expr v d) (expr_form k) t

within_until : {B : Type 0} (count : B → ℕ) (ends : ℕ → Bool) (last : List ℕ → Parsed B) (one : List ℕ → Parsed Cmd) (join : Cmd → B → B) →
    ((k : ℕ) (s : List ℕ) → Within count (suc (length s)) 0 (last (k ∷ s))) → Kept loops one →
    ((c : Cmd) (r : B) → count (join c r) ≡ loops c + count r) → (n : ℕ) → Kept count (until ends last one join n)
unfolding until
within_until count ends last one join hl ho hj zero s = omega arith
within_until count ends last one join hl ho hj (suc n) [] = omega arith
within_until {B} count ends last one join hl ho hj (suc n) (k ∷ s) = go (within_until count ends last one join hl ho hj n) (ends k)
  where
    go : Kept count (until ends last one join n) → (t : Bool) → Within {A = B} count (suc (length s)) 0
        (elim t [ true ↦ last (k ∷ s) | false ↦ and_then (k ∷ s) (one (k ∷ s)) λ c s. and_then s (until ends last one join n s) λ r s. got (join c r) 0 ])
    go rest true = hl k s
    go rest false =
        within_then loops count 0 (k ∷ s) (one (k ∷ s)) _ (ho (k ∷ s)) λ c m t l.
        within_then count count (0 + m) t (until ends last one join n t) _ (rest t) λ r q u j. (omega arith, omega (arith, hj c r))

within_run : (one : List ℕ → Parsed Cmd) → Kept loops one → Kept loops_in (run one)
unfolding run loops loops_in
within_run one h s = within_until loops_in (eqb 0) _ one then (λ k t. (omega arith, omega arith)) h (λ c r. refl) (length s) s

within_cmd_of : (v : Scope) (one : List ℕ → Parsed Expr) (some_run : List ℕ → Parsed Run) → Kept no_loops one → Kept loops_in some_run →
    (f : CmdForm) (s : List ℕ) → Within loops (suc (length s)) 0 (cmd_of v one some_run f s)
unfolding cmd_of loops loops_in
within_cmd_of v one some_run ho hr Reading.an_assignment s =
    within_one_more loops (length s) 0 _
    (within_next loops 1 s _ λ x t. within_passing loops (length t) 1 _ _ _
    (within_then no_loops loops 2 t (one t) _ (ho t) λ e n u l. (omega arith, omega arith)))
within_cmd_of v one some_run ho hr Reading.an_if s =
    within_one_more loops (length s) 0 _
    (within_then no_loops loops 1 s (one s) _ (ho s) λ e n t l.
    within_then loops_in loops (1 + n) t (some_run t) _ (hr t) λ a m u j.
    within_then loops_in loops (1 + n + m) u (some_run u) _ (hr u) λ b q w i. (omega arith, omega arith))
within_cmd_of v one some_run ho hr Reading.a_while s =
    within_one_more loops (length s) 0 _
    (within_then no_loops loops 1 s (one s) _ (ho s) λ e n t l.
    within_then loops_in loops (1 + n) t (some_run t) _ (hr t) λ a m u j. (omega arith, omega arith))
within_cmd_of v one some_run ho hr Reading.no_command s = omega arith

pub within_command : (v : Scope) (d : ℕ) → Kept loops (command v d)
unfolding command
within_command v zero s = within_next loops 0 s _ λ k t. omega arith
within_command v (suc d) s =
    within_next loops 0 s _ λ k t.
    within_cmd_of v (expr v d) (run (command v d)) (within_expr v d) (within_run (command v d) (within_command v d)) (cmd_form k) t

within_ordinaries : (closed : Bool) (v : Scope) (d n : ℕ) → Kept loops_in (ordinaries (ending closed) (command v d) n)
unfolding ordinaries loops loops_in
within_ordinaries closed v d n =
    within_until loops_in (ending closed) _ (command v d) then (λ k t. (omega arith, omega arith)) (within_command v d) (λ c r. refl) n

within_last_of : (one : List ℕ → Parsed Expr) (inner : List ℕ → Parsed Closing) → Kept no_loops one → Kept loops_of inner →
    (f : LastForm) (s : List ℕ) → Within loops_of (suc (length s)) 0 (last_of one inner f s)
unfolding last_of loops_of
within_last_of one inner ho hi Reading.a_return s =
    within_one_more loops_of (length s) 0 _ (within_then no_loops loops_of 1 s (one s) _ (ho s) λ e n t l. (omega arith, omega arith))
within_last_of one inner ho hi Reading.a_pick s =
    within_one_more loops_of (length s) 0 _
    (within_then no_loops loops_of 1 s (one s) _ (ho s) λ e n t l.
    within_then loops_of loops_of (1 + n) t (inner t) _ (hi t) λ c m u j.
    within_then loops_of loops_of (1 + n + m) u (inner u) _ (hi u) λ d q w i. (omega arith, omega arith))
within_last_of one inner ho hi Reading.no_closing s = omega arith

within_closer : (v : Scope) (d : ℕ) → Kept loops_of (closing v d) → Kept loops_of (closer v d)
unfolding closer
within_closer v d h s = within_next loops_of 0 s _ λ k t. within_last_of (expr v d) (closing v d) (within_expr v d) h (last_form k) t

pub within_closing : (v : Scope) (d : ℕ) → Kept loops_of (closing v d)
unfolding closing closer loops_of
within_closing v zero s = within_next loops_of 0 s _ λ k t. omega arith
within_closing v (suc d) s =
    within_until loops_of closes _ (command v (suc d)) first (λ k t. within_closer v d (within_closing v d) (k ∷ t)) (within_command v (suc d))
    (λ c r. refl) (length s) s

within_body : (v : Scope) → Kept loops_of (body v)
unfolding body
within_body v s = within_then loops_of loops_of 0 s (closing v most_depth s) _ (within_closing v most_depth s) λ c n t l. rest c n l t
  where
    rest : (c : Closing) (n : ℕ) → loops_of c ≤ n → (t : List ℕ) → Within {A = Closing} loops_of (length t) (0 + n) (elim t [ [] ↦ got c 0 | b ∷ t ↦ bad left_over 0 ])
    rest c n l [] = (omega arith, omega arith)
    rest c n l (b ∷ t) = omega arith

-- The same of an answer.
record Reach (t : Taken) (m : ℕ) : Type 0 where
  pub spans : span t ≤ m
  pub counts : loops_taken t ≤ m

reach : {A : Type 0} (count : A → ℕ) (p : Parsed A) {t : Taken} (m : ℕ) → t ≡ taken count p → Within count m 0 p → Reach t m
unfolding taken
reach count (got a n) m e h = rw e (record { spans = h.0; counts = omega (arith, h.0, h.1) })
reach count (bad r q) m e h = rw e (record { spans = h; counts = omega arith })

expr_reach : {t : Taken} (v : Scope) (d : ℕ) (s : List ℕ) → t ≡ expr_taken v d s → Reach t (length s)
expr_reach v d s e = reach no_loops (expr v d s) (length s) e (within_expr v d s)

pub expr_span : {t : Taken} (v : Scope) (d : ℕ) (s : List ℕ) → t ≡ expr_taken v d s → span t ≤ length s
expr_span v d s e = (expr_reach v d s e).spans

pub expr_count : {t : Taken} (v : Scope) (d : ℕ) (s : List ℕ) → t ≡ expr_taken v d s → loops_taken t ≡ 0
unfolding taken
expr_count v d s e = go (expr v d s) e
  where
    go : {t : Taken} (p : Parsed Expr) → t ≡ taken no_loops p → loops_taken t ≡ 0
    go (got a n) e = rw e refl
    go (bad r q) e = rw e refl

command_reach : {t : Taken} (v : Scope) (d : ℕ) (s : List ℕ) → t ≡ command_taken v d s → Reach t (length s)
command_reach v d s e = reach loops (command v d s) (length s) e (within_command v d s)

pub command_span : {t : Taken} (v : Scope) (d : ℕ) (s : List ℕ) → t ≡ command_taken v d s → span t ≤ length s
command_span v d s e = (command_reach v d s e).spans

pub command_count : {t : Taken} (v : Scope) (d : ℕ) (s : List ℕ) → t ≡ command_taken v d s → loops_taken t ≤ length s
command_count v d s e = (command_reach v d s e).counts

run_reach : {t : Taken} (v : Scope) (d : ℕ) (s : List ℕ) → t ≡ run_taken v d s → Reach t (length s)
run_reach v d s e = reach loops_in (run (command v d) s) (length s) e (within_run (command v d) (within_command v d) s)

pub run_span : {t : Taken} (v : Scope) (d : ℕ) (s : List ℕ) → t ≡ run_taken v d s → span t ≤ length s
run_span v d s e = (run_reach v d s e).spans

pub run_count : {t : Taken} (v : Scope) (d : ℕ) (s : List ℕ) → t ≡ run_taken v d s → loops_taken t ≤ length s
run_count v d s e = (run_reach v d s e).counts

ordinaries_reach : {t : Taken} (closed : Bool) (v : Scope) (d : ℕ) (s : List ℕ) → t ≡ ordinaries_taken closed v d s → Reach t (length s)
ordinaries_reach closed v d s e = reach loops_in _ (length s) e (within_ordinaries closed v d (length s) s)

pub ordinaries_span : {t : Taken} (closed : Bool) (v : Scope) (d : ℕ) (s : List ℕ) → t ≡ ordinaries_taken closed v d s → span t ≤ length s
ordinaries_span closed v d s e = (ordinaries_reach closed v d s e).spans

pub ordinaries_count : {t : Taken} (closed : Bool) (v : Scope) (d : ℕ) (s : List ℕ) → t ≡ ordinaries_taken closed v d s → loops_taken t ≤ length s
ordinaries_count closed v d s e = (ordinaries_reach closed v d s e).counts

-- Of m bytes, n that were read, with l loops.
pub record Fits (n l m : ℕ) : Type 0 where
  pub bytes : n ≤ m
  pub loops : l ≤ m

pub ordinaries_fits : {n l : ℕ} (closed : Bool) (v : Scope) (d : ℕ) (s : List ℕ) → Bytes n l ≡ ordinaries_taken closed v d s → Fits n l (length s)
ordinaries_fits closed v d s e = let r = ordinaries_reach closed v d s e in record { bytes = r.spans; loops = r.counts }

closing_reach : {t : Taken} (v : Scope) (d : ℕ) (s : List ℕ) → t ≡ closing_taken v d s → Reach t (length s)
closing_reach v d s e = reach loops_of (closing v d s) (length s) e (within_closing v d s)

pub closing_span : {t : Taken} (v : Scope) (d : ℕ) (s : List ℕ) → t ≡ closing_taken v d s → span t ≤ length s
closing_span v d s e = (closing_reach v d s e).spans

pub closing_count : {t : Taken} (v : Scope) (d : ℕ) (s : List ℕ) → t ≡ closing_taken v d s → loops_taken t ≤ length s
closing_count v d s e = (closing_reach v d s e).counts

closer_reach : {t : Taken} (v : Scope) (d : ℕ) (s : List ℕ) → t ≡ closer_taken v d s → Reach t (length s)
closer_reach v d s e = reach loops_of (closer v d s) (length s) e (within_closer v d (within_closing v d) s)

pub closer_span : {t : Taken} (v : Scope) (d : ℕ) (s : List ℕ) → t ≡ closer_taken v d s → span t ≤ length s
closer_span v d s e = (closer_reach v d s e).spans

pub closer_count : {t : Taken} (v : Scope) (d : ℕ) (s : List ℕ) → t ≡ closer_taken v d s → loops_taken t ≤ length s
closer_count v d s e = (closer_reach v d s e).counts

body_reach : {t : Taken} (v : Scope) (s : List ℕ) → t ≡ body_taken v s → Reach t (length s)
body_reach v s e = reach loops_of (body v s) (length s) e (within_body v s)

pub body_span : {t : Taken} (v : Scope) (s : List ℕ) → t ≡ body_taken v s → span t ≤ length s
body_span v s e = (body_reach v s e).spans

pub body_count : {t : Taken} (v : Scope) (s : List ℕ) → t ≡ body_taken v s → loops_taken t ≤ length s
body_count v s e = (body_reach v s e).counts

-- A command that is read takes at least one byte.
abbrev Some : {A : Type 0} → Parsed A → Type 0
Some (got a n) = 1 ≤ n
Some (bad r p) = Unit {0}

some_more : {A : Type 0} (p : Parsed A) → Some (more 1 p)
unfolding more
some_more (got a n) = omega arith
some_more (bad r p) = tt

some_command : (v : Scope) (d : ℕ) (s : List ℕ) → Some (command v d s)
unfolding command cmd_of next
some_command v zero [] = tt
some_command v zero (k ∷ s) = tt
some_command v (suc d) [] = tt
some_command v (suc d) (k ∷ s) = go (cmd_form k)
  where
    go : (f : CmdForm) → Some (cmd_of v (expr v d) (run (command v d)) f s)
    go Reading.an_assignment = some_more _
    go Reading.an_if = some_more _
    go Reading.a_while = some_more _
    go Reading.no_command = tt

-- What a command that was read takes, behind n bytes with l loops.
pub record Took (n l m i j : ℕ) : Type 0 where
  pub some : n < i
  pub fits : i ≤ n + m
  pub few : n + j ≤ l + i

pub command_took : {t : Taken} {n l i j : ℕ} (v : Scope) (d : ℕ) (s : List ℕ) → t ≡ command_taken v d s → Bytes i j ≡ plus n l t → Took n l (length s) i j
command_took {t} {n} {l} v d s h e =
    let b = was_behind n l t e in
    let g : Got loops (command v d s) b.bytes b.loops = was_got loops (command v d s) b.is h in
    let w : Within loops (length s) 0 (got g.tree b.bytes) = rw g.is at (within_command v d s) in
    let some : 1 ≤ b.bytes = rw g.is at (some_command v d s) in
    record { some = omega (arith, b.all_bytes); fits = omega (arith, w.0, b.all_bytes); few = omega (arith, w.1, g.count, b.all_bytes, b.all_loops) }
