-- Where the rows of a readable book stand: behind the results, each within the places that `limits` gives its procedure.
use mathlib.Core.Path.{◌≡◌, refl, sym, ap, ap₂, ◌∙◌, subst}
use mathlib.Core.List.{List, [], ◌∷◌, ◌++◌, map, append_assoc}
use mathlib.Core.Option.{some}
use Prim.Native.Nat.{ℕ, zero, suc, ◌+◌, ◌*◌, ◌-◌, ◌≤◌, ◌<◌, suc-le-suc}
use native.Mathlib.Nat.{mul-add, mul-one, mul-le-mul_right, le_refl}
use native.Mathlib.Omega.{arith}
use lib.ListN.{length, get_or, replicate, get_elem?, length-append, length-replicate, get_or-replicate, length-map, get_or-append}
use lib.Seq.{get_or-append-add}
use Rattle.meaning.specs.Limits.{most_procedures, most_parameters, most_locals, most_loops}
use Rattle.meaning.specs.Tree.{Cmd, Run, Closing, Procedure, Book, variables, assign, branch, loop, stop, then, first, give, pick}
use Rattle.meaning.specs.Tree.{loops, loops_in, loops_of, placed, placed_in, placed_of}
use Rattle.meaning.specs.Reading.{placed_all, loops_all, readable, read}
use Rattle.meaning.specs.Flow.{row_limits, limits, size}
use Rattle.meaning.proofs.Pairs.{All, done, also}
use Rattle.meaning.proofs.Walks.{Stands, StandsIn, StandsOf}
use Rattle.meaning.proofs.Readable.{Counted, reads, all_counted, some_read, few_read}

-- Numbering the rows changes no count of loops.
mutual
  unfolding loops loops_in placed placed_in

  loops_placed : (c : Cmd) (w k : ℕ) → loops (placed w k c) ≡ loops c
  loops_placed (assign x e) w k = refl
  loops_placed (branch e s t) w k = rw (loops_placed_in s w k, loops_placed_in t w (k + w * loops_in s))
  loops_placed (loop j e s) w k = rw (loops_placed_in s w (k + w))

  loops_placed_in : (s : Run) (w k : ℕ) → loops_in (placed_in w k s) ≡ loops_in s
  loops_placed_in stop w k = refl
  loops_placed_in (then c s) w k = rw (loops_placed c w k, loops_placed_in s w (k + w * loops c))

pub loops_placed_of : (c : Closing) (w k : ℕ) → loops_of (placed_of w k c) ≡ loops_of c
unfolding loops_of placed_of
loops_placed_of (first c r) w k = rw (loops_placed c w k, loops_placed_of r w (k + w * loops c))
loops_placed_of (give e) w k = refl
loops_placed_of (pick e c d) w k = rw (loops_placed_of c w k, loops_placed_of d w (k + w * loops_of c))

-- The rows of a numbered tree stand within its stretch of places, from k on, w for each loop.
module _ (w : ℕ) (Q : ℕ → Type 0) where
  -- Q holds of every row within n loops' places from k on.
  Within : ℕ → ℕ → Type 0
  Within k n = (j : ℕ) → k ≤ j → j + w ≤ k + w * n → Q j

  within_left : (k m n : ℕ) → Within k (m + n) → Within k m
  unfolding Within
  within_left k m n h j l r = h j l (omega (arith, mul-add w m n))

  within_right : (k m n : ℕ) → Within k (m + n) → Within (k + w * m) n
  unfolding Within
  within_right k m n h j l r = h j (omega arith) (omega (arith, mul-add w m n))

  within_first : (k n : ℕ) → Within k (1 + n) → Q k
  unfolding Within
  within_first k n h = h k (le_refl k) (omega (arith, mul-add w 1 n, mul-one w))

  within_rest : (k n : ℕ) → Within k (1 + n) → Within (k + w) n
  within_rest k n h = rw mul-one at (within_right k 1 n h)

  mutual
    unfolding loops loops_in placed placed_in Stands StandsIn

    placed_stands : (c : Cmd) (k : ℕ) → Within k (loops c) → Stands (placed w k c) Q
    placed_stands (assign x e) k h = tt
    placed_stands (branch e s t) k h = (
      placed_stands_in s k (within_left k (loops_in s) (loops_in t) h),
      placed_stands_in t (k + w * loops_in s) (within_right k (loops_in s) (loops_in t) h),
    )
    placed_stands (loop j e s) k h = (within_first k (loops_in s) h, placed_stands_in s (k + w) (within_rest k (loops_in s) h))

    placed_stands_in : (s : Run) (k : ℕ) → Within k (loops_in s) → StandsIn (placed_in w k s) Q
    placed_stands_in stop k h = tt
    placed_stands_in (then c s) k h = (
      placed_stands c k (within_left k (loops c) (loops_in s) h),
      placed_stands_in s (k + w * loops c) (within_right k (loops c) (loops_in s) h),
    )

  placed_stands_of : (c : Closing) (k : ℕ) → Within k (loops_of c) → StandsOf (placed_of w k c) Q
  unfolding loops_of placed_of StandsOf
  placed_stands_of (first c r) k h = (
    placed_stands c k (within_left k (loops c) (loops_of r) h),
    placed_stands_of r (k + w * loops c) (within_right k (loops c) (loops_of r) h),
  )
  placed_stands_of (give e) k h = tt
  placed_stands_of (pick e c d) k h = (
    placed_stands_of c k (within_left k (loops_of c) (loops_of d) h),
    placed_stands_of d (k + w * loops_of c) (within_right k (loops_of c) (loops_of d) h),
  )

-- A row of w sets at place k lies within the places of the limits ls, and n parameters are allowed there.
pub record RowIn (ls : List ℕ) (w n k : ℕ) : Type 0 where
  pub fits : k + w ≤ length ls
  pub limit : (i : ℕ) → i < w → get_or ls (k + i) 0 ≡ n

stretch_limit : (front rest : List ℕ) (m n k : ℕ) → length front ≤ k → k < length front + m →
    get_or (front ++ (replicate m n ++ rest)) k 0 ≡ n
stretch_limit front rest m n k l r =
    let i = k - length front in
    let s : k ≡ length front + i = omega arith in
    let h : i < m = omega arith in
    let h' : i < length (replicate m n) = rw length-replicate h in
    rw s
    (get_or-append-add front (replicate m n ++ rest) i 0 ∙ get_or-append (replicate m n) rest 0 i h' ∙ get_or-replicate m i n 0 h)

stretch_row : (front rest : List ℕ) (w m n k : ℕ) → length front ≤ k → k + w ≤ length front + w * m →
    RowIn (front ++ (replicate (w * m) n ++ rest)) w n k
stretch_row front rest w m n k l r =
    record {
      fits = simp (length-append, length-replicate) (omega arith);
      limit = λ i h. stretch_limit front rest (w * m) n (k + i) (omega arith) (omega arith);
    }

-- All procedures of a numbered book, whose rows begin behind `front`.
rows_placed : (front : List ℕ) (qs : Book) (p : ℕ) (q : Procedure) → get_elem? (placed_all (length front) qs) p ≡ some q →
    StandsOf q.body (RowIn (front ++ row_limits qs) (variables q) q.parameters)
unfolding placed_all row_limits Within
rows_placed front [] p q e = let z : ◌≡◌ {A = ℕ} 0 1 = cc in absurd (omega arith)
rows_placed front (r ∷ qs) zero q e =
    let ls = front ++ (replicate (variables r * loops_of r.body) r.parameters ++ row_limits qs) in
    let r' : Procedure =
    record { parameters = r.parameters; locals = r.locals; body = placed_of (variables r) (length front) r.body } in
    let s : r' ≡ q = cc in
    subst (λ (x : Procedure). StandsOf x.body (RowIn ls (variables x) x.parameters)) s
    (placed_stands_of (variables r) (RowIn ls (variables r) r.parameters) r.body (length front)
    (λ k l h. stretch_row front (row_limits qs) (variables r) (loops_of r.body) r.parameters k l h))
rows_placed front (r ∷ qs) (suc p) q e =
    let m = variables r * loops_of r.body in
    let n : length (front ++ replicate m r.parameters) ≡ length front + m = simp (length-append, length-replicate) in
    let e' : get_elem? (placed_all (length front + m) qs) p ≡ some q = e in
    rw append_assoc at (rows_placed (front ++ replicate m r.parameters) qs p q (rw n e'))

-- Numbering changes no limit.
row_limits_placed : (k : ℕ) (qs : Book) → row_limits (placed_all k qs) ≡ row_limits qs
unfolding row_limits placed_all
row_limits_placed k [] = refl
row_limits_placed k (q ∷ qs) = rw (loops_placed_of q.body (variables q) k, row_limits_placed (k + variables q * loops_of q.body) qs)

parameters_placed : (k : ℕ) (qs : Book) → map (λ q. q.parameters) (placed_all k qs) ≡ map (λ q. q.parameters) qs
unfolding placed_all
parameters_placed k [] = refl
parameters_placed k (q ∷ qs) = ap (λ l. q.parameters ∷ l) (parameters_placed (k + variables q * loops_of q.body) qs)

limits_placed : (k : ℕ) (qs : Book) → limits (placed_all k qs) ≡ limits qs
unfolding limits
limits_placed k qs = ap₂ ◌++◌ (parameters_placed k qs) (row_limits_placed k qs)

pub length_placed : (k : ℕ) (qs : Book) → length (placed_all k qs) ≡ length qs
unfolding placed_all
length_placed k [] = refl
length_placed k (q ∷ qs) = ap suc (length_placed (k + variables q * loops_of q.body) qs)

loops_all_placed : (k : ℕ) (qs : Book) → loops_all (placed_all k qs) ≡ loops_all qs
unfolding placed_all loops_all
loops_all_placed k [] = refl
loops_all_placed k (q ∷ qs) = rw (loops_placed_of q.body (variables q) k, loops_all_placed (k + variables q * loops_of q.body) qs)

-- The result of procedure p stands at place p.
pub at_exists : {A : Type 0} (s : List A) (i : ℕ) {a : A} → get_elem? s i ≡ some a → i < length s
at_exists [] i e = let z : ◌≡◌ {A = ℕ} 0 1 = cc in absurd (omega arith)
at_exists (b ∷ s) zero e = omega arith
at_exists (b ∷ s) (suc i) e = suc-le-suc (at_exists s i e)

at_mapped : {A : Type 0} (f : A → ℕ) (s : List A) (i : ℕ) {a : A} → get_elem? s i ≡ some a → get_or (map f s) i 0 ≡ f a
at_mapped f [] i e = let z : ◌≡◌ {A = ℕ} 0 1 = cc in absurd (omega arith)
at_mapped f (b ∷ s) zero e = cc
at_mapped f (b ∷ s) (suc i) e = at_mapped f s i e

pub result_place : (b : Book) (p : ℕ) {q : Procedure} → get_elem? b p ≡ some q → p < size b
unfolding size limits
result_place b p e = simp (length-append, length-map) (omega (arith, at_exists b p e))

pub result_limit : (b : Book) (p : ℕ) {q : Procedure} → get_elem? b p ≡ some q → get_or (limits b) p 0 ≡ q.parameters
unfolding limits
result_limit b p e =
    get_or-append (map (λ q. q.parameters) b) (row_limits b) 0 p (simp length-map (at_exists b p e))
    ∙ at_mapped (λ q. q.parameters) b p e

counted_placed : (k : ℕ) {qs : Book} → All Counted qs → All Counted (placed_all k qs)
unfolding placed_all
counted_placed k done = done
counted_placed k (also {a = q} c h) =
    also (record { parameters = c.parameters; locals = c.locals }) (counted_placed (k + variables q * loops_of q.body) h)

-- Where the rows of procedure p begin, if those of the first procedure begin at place k.
unfoldable pub row_of : ℕ → Book → ℕ → ℕ
row_of k [] p = k
row_of k (q ∷ qs) zero = k
row_of k (q ∷ qs) (suc p) = row_of (k + variables q * loops_of q.body) qs p

-- A row of w sets at place j, from place k on and before place l.
pub record RowFrom (k l w j : ℕ) : Type 0 where
  pub from : k ≤ j
  pub to : j + w ≤ l

row_start : (k : ℕ) (qs : Book) → row_of k qs 0 ≡ k
unfolding row_of
row_start k [] = refl
row_start k (q ∷ qs) = refl

-- Rows begin behind the first place, and those of a later procedure behind those of an earlier one: rows of different procedures do not meet.
pub row_behind : (k : ℕ) (qs : Book) (p : ℕ) → k ≤ row_of k qs p
unfolding row_of
row_behind k [] p = omega arith
row_behind k (q ∷ qs) zero = omega arith
row_behind k (q ∷ qs) (suc p) = omega (arith, row_behind (k + variables q * loops_of q.body) qs p)

pub row_ordered : (k : ℕ) (qs : Book) (p r : ℕ) → p ≤ r → row_of k qs p ≤ row_of k qs r
unfolding row_of
row_ordered k [] p r h = omega arith
row_ordered k (q ∷ qs) zero r h = row_behind k (q ∷ qs) r
row_ordered k (q ∷ qs) (suc p) zero h = absurd (omega arith)
row_ordered k (q ∷ qs) (suc p) (suc r) h = row_ordered (k + variables q * loops_of q.body) qs p r (omega arith)

-- The rows of procedure p stand from where its rows begin, and before those of the next.
rows_from : (k : ℕ) (qs : Book) (p : ℕ) (q : Procedure) → get_elem? (placed_all k qs) p ≡ some q →
    StandsOf q.body (RowFrom (row_of k (placed_all k qs) p) (row_of k (placed_all k qs) (suc p)) (variables q))
unfolding placed_all row_of Within
rows_from k [] p q e = let z : ◌≡◌ {A = ℕ} 0 1 = cc in absurd (omega arith)
rows_from k (r ∷ qs) zero q e =
    let r' : Procedure =
    record { parameters = r.parameters; locals = r.locals; body = placed_of (variables r) k r.body } in
    let s : r' ≡ q = cc in
    let rest = placed_all (k + variables r * loops_of r.body) qs in
    let end = row_of (k + variables r * loops_of r'.body) rest 0 in
    let m : end ≡ k + variables r * loops_of r.body =
    row_start (k + variables r * loops_of r'.body) rest ∙ ap (λ n. k + variables r * n) (loops_placed_of r.body (variables r) k) in
    subst (λ (x : Procedure). StandsOf x.body (RowFrom k end (variables x))) s
    (placed_stands_of (variables r) (RowFrom k end (variables r)) r.body k (λ j l h. record { from = l; to = rw m h }))
rows_from k (r ∷ qs) (suc p) q e =
    let rest = placed_all (k + variables r * loops_of r.body) qs in
    subst (λ n. StandsOf q.body (RowFrom (row_of (k + variables r * n) rest p) (row_of (k + variables r * n) rest (suc p)) (variables q)))
    (sym (loops_placed_of r.body (variables r) k))
    (rows_from (k + variables r * loops_of r.body) qs p q e)

-- A place where a row of procedure q of the book may begin.
abbrev pub OwnRow : Book → Procedure → ℕ → Type 0
OwnRow b q = RowIn (limits b) (variables q) q.parameters

-- What the layout of a readable book gives: each procedure's rows within its own places, and counts in their ranges.
pub record Laid (b : Book) : Type 0 where
  pub rows : (p : ℕ) (q : Procedure) → get_elem? b p ≡ some q → StandsOf q.body (OwnRow b q)
  pub own : (p : ℕ) (q : Procedure) → get_elem? b p ≡ some q →
      StandsOf q.body (RowFrom (row_of (length b) b p) (row_of (length b) b (suc p)) (variables q))
  pub counted : All Counted b
  pub some_procedure : 1 ≤ length b
  pub few_procedures : length b ≤ most_procedures
  pub few_loops_lem : loops_all b ≤ most_loops

rows_behind : (qs : Book) (p : ℕ) (q : Procedure) → get_elem? (placed_all (length qs) qs) p ≡ some q →
    StandsOf q.body (OwnRow (placed_all (length qs) qs) q)
unfolding limits
rows_behind qs p q e =
    subst (λ ls. StandsOf q.body (RowIn ls (variables q) q.parameters)) (sym (limits_placed (length qs) qs))
    (rows_placed (map (λ r. r.parameters) qs) qs p q (rw length-map e))

pub laid_placed : (qs : Book) → All Counted qs → 1 ≤ length qs → length qs ≤ most_procedures → loops_all qs ≤ most_loops →
    Laid (placed_all (length qs) qs)
laid_placed qs c s l f =
    record {
      rows = rows_behind qs;
      own = λ p q e. rw (length_placed (length qs) qs) (rows_from (length qs) qs p q e);
      counted = counted_placed (length qs) c;
      some_procedure = rw length_placed s;
      few_procedures = rw length_placed l;
      few_loops_lem = rw loops_all_placed f;
    }

pub laid : (book : List ℕ) {b : Book} → read book ≡ readable b → Laid b
laid book e =
    let r = reads book e in
    rw r.placing (laid_placed r.parsed (all_counted r) (some_read r) (few_read r) r.few)

-- The places in all: one for each procedure, and a row for each loop.
rows_few : {qs : Book} → All Counted qs → length (row_limits qs) ≤ (most_parameters + most_locals) * loops_all qs
unfolding row_limits loops_all
rows_few done = omega arith
rows_few (also {a = q} {s = qs} c h) =
    let row : variables q ≤ most_parameters + most_locals = omega arith in
    simp (length-append, length-replicate)
    (omega (arith, rows_few h, mul-le-mul_right (loops_of q.body) row))

pub few_places : {b : Book} → Laid b → size b ≤ most_procedures + (most_parameters + most_locals) * most_loops
unfolding size limits
few_places {b} l = simp (length-append, length-map) (omega (arith, rows_few l.counted))
