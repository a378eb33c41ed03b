-- What is known of a book that is refused, and of one that is readable.
use mathlib.Core.Path.{◌≡◌, refl, sym, ◌∙◌}
use mathlib.Core.Logic.{inl, inr}
use mathlib.Core.Bool.{true, ◌&&◌}
use mathlib.Core.List.{List, [], ◌∷◌}
use Prim.Native.Nat.{ℕ, ◌+◌, ◌≤◌}
use native.Mathlib.Omega.{arith}
use borrow.Author.Tests.{leb-true}
use lib.Dec.{leb, eqb}
use lib.ListN.{length}
use Rattle.meaning.specs.Limits.{most_bytes, most_procedures, most_parameters, most_locals, most_loops}
use Rattle.meaning.specs.Tree.{Closing, Procedure, Book}
use Rattle.meaning.specs.Reading.{Entry, entry, procedures, contents_end, in_turn, body_of, Parsed, got, bad, Fault, Reading, refused, readable, contents, bodies, arities, entries, loops_all, placed_all, few_loops, whole_bodies, read}
use Rattle.meaning.proofs.Lists.{length_each, both_left, both_right, Tested, holds_or_fails}
use Rattle.meaning.proofs.Pairs.{All, Pairs, done, also, pairs_length}

-- The refusals of the reader are numbered from 1 on.
abbrev Numbered : Reading → Type 0
Numbered (refused f) = 1 ≤ f.number
Numbered (readable b) = Unit {0}

few_numbered : (qs : Book) → Numbered (few_loops qs)
unfolding few_loops
few_numbered qs = go (holds_or_fails (leb (loops_all qs) most_loops))
  where
    go : Tested (leb (loops_all qs) most_loops) → Numbered (few_loops qs)
    go (inl p) = rw (p, few_loops) tt
    go (inr p) = rw (p, few_loops) (omega arith)

whole_numbered : (r : Parsed Book) → Numbered (whole_bodies r)
unfolding whole_bodies
whole_numbered (bad r p) = omega arith
whole_numbered (got qs n) = few_numbered qs

abbrev short : List ℕ → Type 0
short book = (leb 1 (length book) && leb (length book) most_bytes) ≡ true

read_numbered : (book : List ℕ) → Numbered (read book)
unfolding read
read_numbered book = go (holds_or_fails (leb 1 (length book) && leb (length book) most_bytes)) (holds_or_fails (contents book))
  where
    go : Tested (leb 1 (length book) && leb (length book) most_bytes) → Tested (contents book) → Numbered (read book)
    go (inl p) (inl q) = rw (p, q, read) (whole_numbered (bodies book (arities (entries book)) (entries book)))
    go (inl p) (inr q) = rw (p, q, read) (omega arith)
    go (inr p) q = rw (p, read) (omega arith)

pub refused_number : (book : List ℕ) {f : Fault} → read book ≡ refused f → 1 ≤ f.number
refused_number book e = rw e at (read_numbered book)

-- A readable book: its contents keep the rules, its bodies are read in full, and the rows are placed behind the results.
pub record Readable (book : List ℕ) (b : Book) : Type 0 where
  pub parsed : Book
  pub taken : ℕ
  pub bytes : (leb 1 (length book) && leb (length book) most_bytes) ≡ true
  pub ordered : contents book ≡ true
  pub whole : bodies book (arities (entries book)) (entries book) ≡ got parsed taken
  pub few : loops_all parsed ≤ most_loops
  pub placing : b ≡ placed_all (length parsed) parsed

-- A refused book is not readable.
never_both : {A : Type 0} {f : Fault} {b : Book} → refused f ≡ readable b → A
never_both e = let z : ◌≡◌ {A = ℕ} 0 1 = cc in absurd (omega arith)

few_readable : (qs : Book) {b : Book} → few_loops qs ≡ readable b → (loops_all qs ≤ most_loops) × (b ≡ placed_all (length qs) qs)
unfolding few_loops
few_readable qs {b} e = go (holds_or_fails (leb (loops_all qs) most_loops))
  where
    go : Tested (leb (loops_all qs) most_loops) → (loops_all qs ≤ most_loops) × (b ≡ placed_all (length qs) qs)
    go (inl p) =
        let q : readable (placed_all (length qs) qs) ≡ readable b = rw (p, few_loops) at e in
        (leb-true (loops_all qs) most_loops p, cc)
    go (inr p) = never_both (rw (p, few_loops) at e)

whole_readable : (book : List ℕ) {b : Book} → short book → contents book ≡ true → (r : Parsed Book) →
    bodies book (arities (entries book)) (entries book) ≡ r → whole_bodies r ≡ readable b → Readable book b
unfolding whole_bodies
whole_readable book s c (bad r p) w e = never_both e
whole_readable book s c (got qs n) w e =
    record { parsed = qs; taken = n; bytes = s; ordered = c; whole = w; few = (few_readable qs e).0; placing = (few_readable qs e).1 }

pub reads : (book : List ℕ) {b : Book} → read book ≡ readable b → Readable book b
unfolding read
reads book {b} e = go (holds_or_fails (leb 1 (length book) && leb (length book) most_bytes)) (holds_or_fails (contents book))
  where
    go : Tested (leb 1 (length book) && leb (length book) most_bytes) → Tested (contents book) → Readable book b
    go (inl p) (inl q) = whole_readable book p q (bodies book (arities (entries book)) (entries book)) refl (rw (p, q, read) at e)
    go (inl p) (inr q) = never_both (rw (p, q, read) at e)
    go (inr p) q = never_both (rw (p, read) at e)

-- The counts of a procedure are in their ranges.
pub record Counted (q : Procedure) : Type 0 where
  pub parameters : q.parameters ≤ most_parameters
  pub locals : q.locals ≤ most_locals

pub record InRange (e : Entry) : Type 0 where
  pub parameters : e.parameters ≤ most_parameters
  pub locals : e.locals ≤ most_locals

in_range : (at : ℕ) (es : List Entry) (end : ℕ) → in_turn at es end ≡ true → All InRange es
unfolding in_turn
in_range at [] end h = done
in_range at (e ∷ es) end h =
    let h₁ = both_right (eqb e.offset at) _ h in
    let h₂ = both_right (leb e.parameters most_parameters) _ h₁ in
    also (record {
      parameters = leb-true e.parameters most_parameters (both_left _ _ h₁);
      locals = leb-true e.locals most_locals (both_left _ _ h₂);
    }) (in_range (at + e.bytes) es end (both_right (leb e.locals most_locals) _ h₂))

-- The procedures read are those of the entries.
pub record Entered (e : Entry) (q : Procedure) : Type 0 where
  pub parameters : q.parameters ≡ e.parameters
  pub locals : q.locals ≡ e.locals

bodies_pairs : (book ar : List ℕ) (es : List Entry) {qs : Book} {n : ℕ} → bodies book ar es ≡ got qs n → Pairs Entered es qs
unfolding bodies
bodies_pairs book ar [] {qs} e = let s : [] ≡ qs = cc in rw (← s) done
bodies_pairs book ar (x ∷ es) {qs} {n} e = go (body_of book ar x) refl (bodies book ar es) refl (λ rs m h. bodies_pairs book ar es h)
  where
    go : (r : Parsed Closing) → body_of book ar x ≡ r → (t : Parsed Book) → bodies book ar es ≡ t →
        ((rs : Book) (m : ℕ) → bodies book ar es ≡ got rs m → Pairs Entered es rs) → Pairs Entered (x ∷ es) qs
    go (bad r p) u t v ih = let y = rw (u, bodies) at e in let z : ◌≡◌ {A = ℕ} 0 1 = cc in absurd (omega arith)
    go (got c m) u (bad r p) v ih = let y = rw (u, v, bodies) at e in let z : ◌≡◌ {A = ℕ} 0 1 = cc in absurd (omega arith)
    go (got c m) u (got rs k) v ih =
        let y = rw (u, v, bodies) at e in
        let s : record { parameters = x.parameters; locals = x.locals; body = c } ∷ rs ≡ qs = cc in
        rw (← s) (also (record { parameters = refl; locals = refl }) (ih rs k v))

all_entered : {es : List Entry} {qs : Book} → Pairs Entered es qs → All InRange es → All Counted qs
all_entered done h = done
all_entered (also {b = q} p r) (also x h) =
    also {a = q} (record { parameters = rw p.parameters x.parameters; locals = rw p.locals x.locals })
    (all_entered r h)

module _ {book : List ℕ} {b : Book} (r : Readable book b) where
  entered : Pairs Entered (entries book) r.parsed
  entered = bodies_pairs book (arities (entries book)) (entries book) r.whole

  -- The parts of the contents' rule.
  in_turn_lem : in_turn (contents_end book) (entries book) (length book) ≡ true
  unfolding contents
  in_turn_lem =
      both_right (leb (contents_end book) (length book)) _
      (both_right (leb (procedures book) most_procedures) _ (both_right (leb 1 (procedures book)) _ r.ordered))

  pub all_counted : All Counted r.parsed
  all_counted = all_entered entered (in_range (contents_end book) (entries book) (length book) in_turn_lem)

  pub length_read : length r.parsed ≡ procedures book
  unfolding entries
  length_read = sym (pairs_length entered) ∙ length_each (procedures book) (entry book)

  pub some_read : 1 ≤ length r.parsed
  unfolding contents
  some_read = rw length_read (leb-true 1 (procedures book) (both_left _ _ r.ordered))

  pub few_read : length r.parsed ≤ most_procedures
  unfolding contents
  few_read =
      rw length_read (leb-true (procedures book) most_procedures (both_left _ _ (both_right (leb 1 (procedures book)) _ r.ordered)))
