-- The ways through the code that judges a book.
use mathlib.Core.Path.{◌≡◌, refl, sym, ap, ap₂, ◌∙◌}
use mathlib.Core.Bool.{Bool, true, false, ◌&&◌}
use mathlib.Core.List.{List, [], ◌∷◌}
use Prim.Native.Nat.{ℕ, suc, ◌+◌, ◌*◌, ◌≤◌, ◌<◌}
use native.Mathlib.Omega.{arith}
use borrow.Author.Tests.{le-leb, lt-leb}
use lib.Dec.{leb}
use lib.ListN.{length, length-append, length-map, length-replicate}
use Rattle.meaning.specs.Limits.{most_bytes, most_loops}
use Rattle.meaning.specs.Tree.{Cmd, Run, Closing, Book, assign, branch, loop, stop, then, first, give, pick, variables, loops, loops_in, loops_of, placed, placed_in, placed_of}
use Rattle.meaning.specs.Reading.{Parsed, got, bad, Entry, entry, entries, procedures, arities, contents, body_of, bodies, loops_all, placed_all, few_loops, whole_bodies, readable, refused, read}
use Rattle.meaning.specs.Flow.{row_limits, limits, size}
use Rattle.meaning.proofs.Lists.{length_each}
use Rattle.book.specs.Counted.{Sets, Fault, sets_all, counted, counted_of}
use Rattle.book.specs.Verdict.{Verdict, Readable, Refused, verdict_of, bodies_verdict}

-- Numbering the loops changes no count.
mutual
  unfolding loops loops_in placed placed_in

  loops_placed : (c : Cmd) (w k : ℕ) → loops (placed w k c) ≡ loops c
  loops_placed (assign x e) w k = refl
  loops_placed (branch e s t) w k = ap₂ (λ a b. a + b) (placed_in_loops s w k) (placed_in_loops t w (k + w * loops_in s))
  loops_placed (loop j e s) w k = ap (λ a. 1 + a) (placed_in_loops s w (k + w))

  placed_in_loops : (s : Run) (w k : ℕ) → loops_in (placed_in w k s) ≡ loops_in s
  placed_in_loops stop w k = refl
  placed_in_loops (then c s) w k = ap₂ (λ a b. a + b) (loops_placed c w k) (placed_in_loops s w (k + w * loops c))

placed_of_loops : (c : Closing) (w k : ℕ) → loops_of (placed_of w k c) ≡ loops_of c
unfolding loops_of placed_of
placed_of_loops (first c r) w k = ap₂ (λ a b. a + b) (loops_placed c w k) (placed_of_loops r w (k + w * loops c))
placed_of_loops (give e) w k = refl
placed_of_loops (pick e c d) w k = ap₂ (λ a b. a + b) (placed_of_loops c w k) (placed_of_loops d w (k + w * loops_of c))

-- The size: a set for each procedure, and the sets of the rows.
rows_placed : (qs : Book) (k : ℕ) → length (row_limits (placed_all k qs)) ≡ sets_all qs
unfolding row_limits placed_all sets_all
rows_placed [] k = refl
rows_placed (q ∷ qs) k =
    let w : ℕ = variables q in
    rw (length-append, length-replicate, placed_of_loops q.body w k, rows_placed qs (k + w * loops_of q.body))

length_placed : (qs : Book) (k : ℕ) → length (placed_all k qs) ≡ length qs
unfolding placed_all
length_placed [] k = refl
length_placed (q ∷ qs) k = ap suc (length_placed qs (k + variables q * loops_of q.body))

size_placed : (qs : Book) (k : ℕ) → size (placed_all k qs) ≡ length qs + sets_all qs
unfolding size limits
size_placed qs k = rw (length-append, length-map (placed_all k qs) (λ q. q.parameters), length_placed qs k, rows_placed qs k)

-- A procedure is read for each entry.
abbrev Full : ℕ → Parsed Book → Type 0
Full n (got qs m) = length qs ≡ n
Full n (bad r p) = Unit {0}

full : (b ar : List ℕ) (es : List Entry) → Full (length es) (bodies b ar es)
unfolding bodies
full b ar [] = refl
full b ar (e ∷ es) = go (body_of b ar e) (bodies b ar es) (full b ar es)
  where
    go : (p : Parsed Closing) (s : Parsed Book) → Full (length es) s → Full (suc (length es))
        (elim p [
          | bad r p ↦ bad r p
          | got c n ↦ elim s [
            | bad r p ↦ bad r p
            | got qs m ↦ got (record { parameters = e.parameters; locals = e.locals; body = c } ∷ qs) m
          ]
        ])
    go (got c n) (got qs m) h = ap suc h
    go (got c n) (bad r p) h = tt
    go (bad r p) s h = tt

many : (qs : Book) → most_loops < loops_all qs → few_loops qs ≡ refused record { number = 4; reason = 0; place = 0 }
unfolding few_loops
many qs h = rw (lt-leb (loops_all qs) most_loops h, few_loops)

few : (qs : Book) → loops_all qs ≤ most_loops → few_loops qs ≡ readable (placed_all (length qs) qs)
unfolding few_loops
few qs h = rw (le-leb (loops_all qs) most_loops h, few_loops)

-- The lengths that are allowed.
pub long_enough : (b : List ℕ) → 1 ≤ length b → length b ≤ most_bytes → (leb 1 (length b) && leb (length b) most_bytes) ≡ true
long_enough b h l = rw (le-leb 1 (length b) h, le-leb (length b) most_bytes l)

pub judged_empty : {r : Verdict} (b : List ℕ) → length b < 1 → r ≡ Refused 1 0 0 → r ≡ verdict_of (read b)
unfolding read verdict_of
judged_empty b h e = rw (lt-leb 1 (length b) h, read) e

pub judged_long : {r : Verdict} (b : List ℕ) → 1 ≤ length b → most_bytes < length b → r ≡ Refused 1 0 0 → r ≡ verdict_of (read b)
unfolding read verdict_of
judged_long b h l e = rw (le-leb 1 (length b) h, lt-leb (length b) most_bytes l, read) e

pub judged_contents : {r : Verdict} {x : Bool} (b : List ℕ) → 1 ≤ length b → length b ≤ most_bytes → x ≡ contents b → x ≡ false → r ≡ Refused 2 0 0 → r ≡ verdict_of (read b)
unfolding read verdict_of
judged_contents b h l q w e = rw (long_enough b h l, read, sym q ∙ w) e

pub judged_bodies : {r : Verdict} {x : Bool} (b : List ℕ) → 1 ≤ length b → length b ≤ most_bytes → x ≡ contents b → x ≡ true → r ≡ bodies_verdict b → r ≡ verdict_of (read b)
unfolding read
judged_bodies b h l q w e = rw (long_enough b h l, read, sym q ∙ w) e

-- The bodies and the loops.
module _ (b : List ℕ) where
  pub judged_fault : {r p : ℕ} → Fault r p ≡ counted_of b → Refused 3 r p ≡ bodies_verdict b
  unfolding whole_bodies verdict_of counted
  judged_fault {r} {p} e = go (bodies b (arities (entries b)) (entries b)) (sym e)
    where
      go : (s : Parsed Book) → counted s ≡ Fault r p → Refused 3 r p ≡ verdict_of (whole_bodies s)
      go (got qs n) d = let z : ◌≡◌ {A = ℕ} 0 1 = cc in absurd (omega arith)
      go (bad r' p') d = cc

  pub judged_loops : {r : Verdict} {m k : ℕ} → Sets m k ≡ counted_of b → most_loops < m → r ≡ Refused 4 0 0 → r ≡ bodies_verdict b
  unfolding whole_bodies verdict_of counted
  judged_loops {r} {m} {k} e n d = go (bodies b (arities (entries b)) (entries b)) (sym e)
    where
      go : (s : Parsed Book) → counted s ≡ Sets m k → r ≡ verdict_of (whole_bodies s)
      go (got qs i) c = let o : m ≡ loops_all qs = cc in rw (many qs (omega arith)) d
      go (bad r p) c = let z : ◌≡◌ {A = ℕ} 0 1 = cc in absurd (omega arith)

  pub judged_size : {count m k : ℕ} → count ≡ procedures b → Sets m k ≡ counted_of b → m ≤ most_loops → Readable (count + k) ≡ bodies_verdict b
  unfolding whole_bodies verdict_of counted entries
  judged_size {count} {m} {k} c e n = go (bodies b (arities (entries b)) (entries b)) refl (sym e)
    where
      go : (s : Parsed Book) → bodies b (arities (entries b)) (entries b) ≡ s → counted s ≡ Sets m k → Readable (count + k) ≡ verdict_of (whole_bodies s)
      go (got qs i) y o =
          let all : length qs ≡ procedures b = (rw y at (full b (arities (entries b)) (entries b))) ∙ length_each (procedures b) (entry b) in
          let sets : k ≡ sets_all qs = cc in
          let loops : m ≡ loops_all qs = cc in
          rw (few qs (omega arith)) (ap Readable (omega (arith, size_placed qs (length qs))))
      go (bad r p) y o = let z : ◌≡◌ {A = ℕ} 0 1 = cc in absurd (omega arith)
