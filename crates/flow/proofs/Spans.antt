-- Where the rows of a book's procedures begin, and how many places they take.
use mathlib.Core.Path.{◌≡◌, refl, sym, ap, ◌∙◌}
use mathlib.Core.List.{List, [], ◌∷◌, ◌++◌, map}
use mathlib.Core.Option.{some}
use Prim.Native.Nat.{ℕ, zero, suc, ◌+◌, ◌*◌, ◌≤◌, ◌<◌}
use native.Mathlib.Nat.{add_assoc, zero-add}
use native.Mathlib.Omega.{arith}
use lib.ListN.{length, get_or, replicate, get_elem?, length-append, length-map, length-replicate, get_or-append, get_or-replicate}
use lib.Seq.{get_or-append-add}
use Rattle.meaning.specs.Tree.{Procedure, Book, variables, loops_of}
use Rattle.meaning.specs.Flow.{size, limits, row_limits}
use Rattle.meaning.proofs.Places.{row_of}

-- The first procedure's rows begin at the first place given.
pub rows_start : (k : ℕ) (qs : Book) → row_of k qs 0 ≡ k
unfolding row_of
rows_start k [] = refl
rows_start k (q ∷ qs) = refl

-- Rows that begin further on are moved by as much.
pub rows_from : (k : ℕ) (qs : Book) (p : ℕ) → row_of k qs p ≡ k + row_of 0 qs p
unfolding row_of
rows_from k [] p = omega arith
rows_from k (q ∷ qs) zero = omega arith
rows_from k (q ∷ qs) (suc p) =
    let n = variables q * loops_of q.body in
    rows_from (k + n) qs p
    ∙ add_assoc k n (row_of 0 qs p)
    ∙ ap (λ (m : ℕ). k + m) (sym (rows_from (0 + n) qs p ∙ ap (λ (m : ℕ). m + row_of 0 qs p) (zero-add n)))

-- The next procedure's rows begin where this one's end.
pub rows_next : (k : ℕ) (qs : Book) (p : ℕ) {q : Procedure} → get_elem? qs p ≡ some q →
    row_of k qs (suc p) ≡ row_of k qs p + variables q * loops_of q.body
unfolding row_of
rows_next k [] p e = let z : ◌≡◌ {A = ℕ} 0 1 = cc in absurd (omega arith)
rows_next k (r ∷ []) zero {q} e = let h : r ≡ q = cc in rw h
rows_next k (r ∷ (s ∷ qs)) zero {q} e = let h : r ≡ q = cc in rw h
rows_next k (r ∷ qs) (suc p) e = rows_next (k + variables r * loops_of r.body) qs p e

-- No rows begin behind the last place, and the last rows end there.
pub rows_below : (k : ℕ) (qs : Book) (p : ℕ) → row_of k qs p ≤ k + length (row_limits qs)
unfolding row_of row_limits
rows_below k [] p = omega arith
rows_below k (q ∷ qs) zero = omega arith
rows_below k (q ∷ qs) (suc p) =
    simp (length-append, length-replicate) (omega (arith, rows_below (k + variables q * loops_of q.body) qs p))

pub rows_all : (k : ℕ) (qs : Book) → row_of k qs (length qs) ≡ k + length (row_limits qs)
unfolding row_of row_limits
rows_all k [] = omega arith
rows_all k (q ∷ qs) = simp (length-append, length-replicate) (omega (arith, rows_all (k + variables q * loops_of q.body) qs))

-- A summary has a result for each procedure, and then the rows.
pub size_rows : (qs : Book) → size qs ≡ length qs + length (row_limits qs)
unfolding size limits
size_rows qs = simp (length-append, length-map)

past : (xs ys : List ℕ) (n m i : ℕ) → length xs ≡ n → m ≡ n + i → get_or (xs ++ ys) m 0 ≡ get_or ys i 0
past xs ys n m i e f = rw (f, ← e) (get_or-append-add xs ys i 0)

limit_from : (qs : Book) (p j : ℕ) {q : Procedure} → get_elem? qs p ≡ some q → j < variables q * loops_of q.body →
    get_or (row_limits qs) (row_of 0 qs p + j) 0 ≡ q.parameters
unfolding row_of row_limits
limit_from [] p j e h = let z : ◌≡◌ {A = ℕ} 0 1 = cc in absurd (omega arith)
limit_from (r ∷ qs) zero j {q} e h =
    let s : r ≡ q = cc in
    let n = variables q * loops_of q.body in
    rw (s, zero-add)
    (get_or-append (replicate n q.parameters) (row_limits qs) 0 j (rw length-replicate h) ∙ get_or-replicate n j q.parameters 0 h)
limit_from (r ∷ qs) (suc p) j {q} e h =
    let n = variables r * loops_of r.body in
    past (replicate n r.parameters) (row_limits qs) n (row_of (0 + n) qs p + j) (row_of 0 qs p + j)
    (length-replicate n r.parameters) (omega (arith, rows_from (0 + n) qs p))
    ∙ limit_from qs p j e h

-- The sets at places of a procedure's rows may name its parameters.
pub limit_row : (qs : Book) (p j : ℕ) {q : Procedure} → get_elem? qs p ≡ some q → j < variables q * loops_of q.body →
    get_or (limits qs) (row_of (length qs) qs p + j) 0 ≡ q.parameters
unfolding limits
limit_row qs p j {q} e h =
    past (map (λ q. q.parameters) qs) (row_limits qs) (length qs) (row_of (length qs) qs p + j) (row_of 0 qs p + j)
    (length-map qs _) (omega (arith, rows_from (length qs) qs p))
    ∙ limit_from qs p j e h
