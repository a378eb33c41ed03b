-- The walk of a body: from the sets at the start, under no guard, through its closing sequence.
use mathlib.Core.Path.{◌≡◌, sym, ap, ap₂, ◌∙◌}
use mathlib.Core.List.{List, ◌++◌}
use mathlib.Core.Option.{some}
use Prim.Native.Nat.{ℕ, suc, ◌+◌, ◌*◌, ◌-◌, ◌≤◌, ◌<◌}
use native.Mathlib.Omega.{arith}
use lib.ListN.{length, get_or, take, replicate, get_elem?, length-append, length-replicate, replicate-append-replicate}
use lib.Seq.{take-append-add, take_at}
use Rattle.meaning.specs.Limits.{entry_bytes}
use Rattle.meaning.specs.Lists.{each}
use Rattle.meaning.specs.Sets.{empty, single}
use Rattle.meaning.specs.Tree.{Closing, Procedure, variables, loops_of}
use Rattle.meaning.specs.Reading.{entry, procedures, pair}
use Rattle.meaning.specs.Flow.{by_sets, start_sets, ends as returned, grow}
use Rattle.meaning.proofs.Lists.{length_each}
use Rattle.meaning.proofs.Places.{row_of, result_place}
use Rattle.book.proofs.Text.{ClosingHere}
use Rattle.book.specs.Here.{BookHere}
use Rattle.book.proofs.Sound.{book_facts, procedure_view, size_of}
use Rattle.flow.specs.Rows.{most_variables, Wide}
use Rattle.flow.specs.Copies.{most_places}
use Rattle.flow.specs.Packed.{row_in}
use Rattle.flow.specs.Exprs.{within, Contents}
use Rattle.flow.specs.Walks.{going, standing, ClosingPre, ClosingPost, ClosingAnswer}
use Rattle.flow.specs.Rounds.{EntryHere, BodyPre, BodyPost}
use Rattle.flow.proofs.Spans.{rows_next, rows_below, size_rows}

-- The first of a list of equal things.
take_replicate : (a n m k : ℕ) → n + m ≡ k → take n (replicate k a) ≡ replicate n a
take_replicate a n m k e =
    rw (← e, ← replicate-append-replicate n m a) (take_at (replicate n a) (replicate m a) n (length-replicate n a))

-- The sets at the start: those of the variables in use are what the rules say.
start_front : (a c : ℕ) → a + c ≤ most_variables →
    take (a + c) (each a single ++ replicate (most_variables - a) 0) ≡ each a single ++ replicate c 0
start_front a c h =
    ap (λ (n : ℕ). take (n + c) (each a single ++ replicate (most_variables - a) 0)) (sym (length_each a single))
    ∙ take-append-add (each a single) (replicate (most_variables - a) 0) c
    ∙ ap (λ (l : List ℕ). each a single ++ l) (take_replicate 0 c (most_variables - a - c) (most_variables - a) (omega arith))

start_wide : (a : ℕ) → a ≤ most_variables → Wide (each a single ++ replicate (most_variables - a) 0)
start_wide a h = record { long = simp (length-append, length_each, length-replicate) (omega arith) }

-- What the walk reads of a readable book's contents.
book_contents : {b σ : List ℕ} (g : BookHere b) → length σ ≡ most_places → Contents b σ
book_contents {b} {σ} g e =
    let f = book_facts g in
    record {
      listed = record {
        room = rw f.arities_counted f.contents;
        arity = λ p h. f.arity p (rw f.arities_counted at h);
        few = λ p h. f.few_parameters p (rw f.arities_counted at h);
        short = f.few_bytes;
      };
      results = omega (arith, f.arities_counted, f.counted, size_rows g.book, size_of g);
      places = e;
    }

-- The entry of a procedure stands in the book, and its counts are in their ranges.
pub entry_here : {b : List ℕ} {p : ℕ} → BookHere b → p < procedures b → EntryHere b p
entry_here {b} {p} g h =
    let f = book_facts g in
    let k = f.contents in
    record { there = omega arith; few_parameters = f.few_parameters p h; few_locals = f.few_locals p h }

-- Where p is a procedure with a parameters and l locals, and i the offset of its body.
record Entered (b : List ℕ) (p a l i : ℕ) : Type 0 where
  pub known : p < procedures b
  pub parameters : a ≡ (entry b p).parameters
  pub locals : l ≡ (entry b p).locals
  pub offset : i ≡ (entry b p).offset

entered : {b : List ℕ} {p a l i : ℕ} → p < procedures b → a ≡ get_or b (1 + entry_bytes * p + 4) 0 →
    l ≡ get_or b (1 + entry_bytes * p + 5) 0 → i ≡ pair b (1 + entry_bytes * p) → Entered b p a l i
entered h d e f = record { known = h; parameters = d; locals = e; offset = f }

-- The body that stands there.
abbrev body_here : {b : List ℕ} {p a l i r : ℕ} → Entered b p a l i → (g : BookHere b) → r ≡ row_of (length g.book) g.book p →
    ClosingHere b (within b (a + l)) r i
body_here {b} {p} {a} {l} {i} {r} t g e =
    let y = (procedure_view g p t.known).body in
    record { tree = y.tree; next = y.next; is = rw (t.locals, t.parameters, t.offset, e) y.is }

same_walk : (σ : List ℕ) (p s : ℕ) {w v : ℕ} {c d : Closing} {Γ Δ : List ℕ} → w ≡ v → c ≡ d → Γ ≡ Δ →
    returned c (by_sets σ w) p Γ s ≡ returned d (by_sets σ v) p Δ s
same_walk σ p s e f h = rw (e, f, h)

-- The procedure that a readable book has at p is the one whose body is walked.
module _ {b : List ℕ} {p a l i : ℕ} (t : Entered b p a l i) (g : BookHere b) (q : Procedure) (e : get_elem? g.book p ≡ some q) where
  view_is : (procedure_view g p t.known).procedure ≡ q
  view_is = let y = (procedure_view g p t.known).found in cc

  parameters_are : a ≡ q.parameters
  parameters_are = t.parameters ∙ sym (procedure_view g p t.known).parameters ∙ ap (λ r. r.parameters) view_is

  locals_are : l ≡ q.locals
  locals_are = t.locals ∙ sym (procedure_view g p t.known).locals ∙ ap (λ r. r.locals) view_is

  width_is : a + l ≡ variables q
  width_is = ap₂ ◌+◌ parameters_are locals_are

  tree_is : (procedure_view g p t.known).body.tree ≡ q.body
  tree_is = (procedure_view g p t.known).tree ∙ ap (λ r. r.body) view_is

start_is : {b : List ℕ} {p a l i : ℕ} (t : Entered b p a l i) → EntryHere b p → (g : BookHere b) (q : Procedure) →
    get_elem? g.book p ≡ some q → take (a + l) (each a single ++ replicate (most_variables - a) 0) ≡ start_sets q
unfolding start_sets empty
start_is {b} {p} {a} {l} {i} t n g q e =
    start_front a l (omega (arith, t.parameters, t.locals, n.few_parameters, n.few_locals))
    ∙ ap₂ (λ (x y : ℕ). each x single ++ replicate y 0) (parameters_are t g q e) (locals_are t g q e)

body_law : {b σ new sets new' : List ℕ} {p row a l i next row' : ℕ} → BodyPre b σ new p row → Entered b p a l i →
    sets ≡ each a single ++ replicate (most_variables - a) 0 → ClosingPost (going b σ (a + l)) p 0 (standing i row new sets) new' next row' →
    BodyPost b σ new p row new' row'
unfolding empty
body_law {b} {σ} {new} {sets} {new'} {p} {row} {a} {l} {i} {next} {row'} c t h z =
    record {
      added = λ g q e f.
          z.added (body_here t g f)
          ∙ ap (grow new)
          (same_walk σ p 0 (width_is t g q e) (tree_is t g q e) (ap (take (a + l)) h ∙ start_is t c.entry g q e));
      rows = λ g q e f.
          z.rows (body_here t g f) ∙ ap₂ (λ (v d : ℕ). row + v * d) (width_is t g q e) (ap loops_of (tree_is t g q e));
      wide = z.long ∙ c.round.new_wide;
    }

body_ready : {b σ new sets : List ℕ} {p row a l i : ℕ} → BodyPre b σ new p row → Entered b p a l i →
    sets ≡ each a single ++ replicate (most_variables - a) 0 → ClosingPre (going b σ (a + l)) p (standing i row new sets)
body_ready {b} {σ} {new} {sets} {p} {row} {a} {l} {i} c t h =
    let g = c.round.book in
    let y = procedure_view g p t.known in
    let n = c.entry in
    let f = y.found in
    let k = rows_next (length g.book) g.book p f in
    let j = rows_below (length g.book) g.book (suc p) in
    let s = size_rows g.book in
    let m : row + (a + l) * loops_of y.body.tree ≡ row_of (length g.book) g.book (suc p) =
    ap₂ (λ (v d : ℕ). row + v * d) (width_is t g y.procedure f) (ap loops_of y.tree)
    ∙ ap (λ (r : ℕ). r + variables y.procedure * loops_of y.procedure.body) c.place
    ∙ sym k in
    record {
      ready = record {
        contents = book_contents g c.round.old_wide;
        narrow = omega (arith, t.parameters, t.locals, n.few_parameters, n.few_locals);
        wide = rw h (start_wide a (omega (arith, t.parameters, n.few_parameters)));
        sized = c.round.new_wide ∙ sym c.round.old_wide;
      };
      here = body_here t g c.place;
      room = omega (arith, c.round.old_wide, size_of g);
      result = omega (arith, c.round.old_wide, result_place g.book p f, size_of g);
    }

-- What the code asks and gives.
pub body_pre : {b σ new sets : List ℕ} {p row a l i : ℕ} → BodyPre b σ new p row → a ≡ get_or b (1 + entry_bytes * p + 4) 0 →
    l ≡ get_or b (1 + entry_bytes * p + 5) 0 → i ≡ pair b (1 + entry_bytes * p) →
    sets ≡ each a single ++ replicate (most_variables - a) 0 → ClosingPre (going b σ (a + l)) p (standing i row new sets)
body_pre c d e f h = body_ready c (entered c.known d e f) h

pub body_returns : {b σ new sets new' : List ℕ} {p row a l i z row' : ℕ} → BodyPre b σ new p row →
    a ≡ get_or b (1 + entry_bytes * p + 4) 0 → l ≡ get_or b (1 + entry_bytes * p + 5) 0 → i ≡ pair b (1 + entry_bytes * p) →
    sets ≡ each a single ++ replicate (most_variables - a) 0 → ClosingAnswer (going b σ (a + l)) p 0 (standing i row new sets) new' z →
    row' ≡ row_in z → BodyPost b σ new p row new' row'
body_returns c d e f h z k = rw k (body_law c (entered c.known d e f) h z.is)
