-- From 'these bytes are readable as this book' to the facts on the book, on each procedure, and on the summary's size.
use mathlib.Core.Path.{◌≡◌, refl, ap, ◌∙◌}
use mathlib.Core.Bool.{true}
use mathlib.Core.List.{List}
use Prim.Native.Nat.{ℕ, ◌+◌, ◌*◌, ◌≤◌, ◌<◌}
use native.Mathlib.Omega.{arith}
use borrow.Author.Tests.{leb-true}
use lib.Dec.{leb}
use lib.ListN.{length, length-map, get_or-map}
use Rattle.meaning.specs.Limits.{most_bytes, most_procedures, most_parameters, most_locals, most_loops}
use Rattle.meaning.specs.Reading.{Entry, entry, entries, arities, procedures, contents_end, contents}
use Rattle.meaning.specs.Flow.{size}
use Rattle.meaning.proofs.Lists.{both_left, both_right, length_each, get_or_each}
use Rattle.meaning.proofs.Pairs.{Pairs, all_at}
use Rattle.meaning.proofs.Readable.{Readable, Counted, reads, length_read}
use Rattle.meaning.proofs.Places.{Laid, laid, length_placed, few_places}
use Rattle.book.specs.Here.{BookHere}
use Rattle.book.proofs.Readable.{BookFacts, ProcedureView}
use Rattle.book.proofs.Sound.Parts.{gave}
use Rattle.book.proofs.Sound.Bodies.{ReadBody, BodyHere, bodies_sound, placed_bodies}
pub mod Parts
pub mod Placed
pub mod Forms
pub mod Trees
pub mod Bodies

-- The contents lie within the book.
contents_within : (bytes : List ℕ) → contents bytes ≡ true → contents_end bytes ≤ length bytes
unfolding contents
contents_within bytes h =
    leb-true (contents_end bytes) (length bytes)
    (both_left _ _ (both_right (leb (procedures bytes) most_procedures) _ (both_right (leb 1 (procedures bytes)) _ h)))

no_entry : Entry
no_entry = record { offset = 0; bytes = 0; parameters = 0; locals = 0 }

module _ {bytes : List ℕ} (g : BookHere bytes) where
  found : Readable bytes g.book
  found = reads bytes g.is

  layout : Laid g.book
  layout = laid bytes g.is

  pairs : Pairs (ReadBody bytes (arities (entries bytes))) (entries bytes) found.parsed
  pairs = gave (bodies_sound bytes (arities (entries bytes)) (entries bytes)) found.whole

  same_length : length g.book ≡ length found.parsed
  same_length = ap length found.placing ∙ length_placed (length found.parsed) found.parsed

  body_here : (p : ℕ) → p < procedures bytes → BodyHere bytes (arities (entries bytes)) (entry bytes p) (length g.book) g.book p
  unfolding entries
  body_here p h =
      let below : p < length (entries bytes) = rw (length_each (procedures bytes) (entry bytes)) h in
      let z = placed_bodies bytes (arities (entries bytes)) pairs (length found.parsed) p no_entry below in
      rw (get_or_each (procedures bytes) (entry bytes) p no_entry h, ← found.placing, ← same_length) at z

  pub procedure_view : (p : ℕ) → p < procedures bytes → ProcedureView bytes g p
  procedure_view p h =
      let y = body_here p h in
      record {
        procedure = y.procedure;
        found = y.found;
        parameters = y.parameters;
        locals = y.locals;
        body = record { tree = y.procedure.body; next = y.next; is = y.body };
        tree = refl;
      }

  counts : (p : ℕ) (h : p < procedures bytes) → Counted (body_here p h).procedure
  counts p h = all_at layout.counted p (body_here p h).found

  pub book_facts : BookFacts bytes g
  unfolding arities entries no_entry
  book_facts =
      let n = same_length ∙ length_read found in
      record {
        counted = n;
        some = omega (arith, layout.some_procedure);
        few = omega (arith, layout.few_procedures);
        some_bytes = leb-true 1 (length bytes) (both_left _ _ found.bytes);
        few_bytes = leb-true (length bytes) most_bytes (both_right (leb 1 (length bytes)) _ found.bytes);
        contents = contents_within bytes found.ordered;
        arities_counted = length-map (entries bytes) _ ∙ length_each (procedures bytes) (entry bytes);
        arity = λ p h.
            get_or-map (λ e. e.parameters) (entries bytes) p no_entry
            ∙ ap (λ e. e.parameters) (get_or_each (procedures bytes) (entry bytes) p no_entry h);
        few_parameters = λ p h. rw (body_here p h).parameters at (counts p h).parameters;
        few_locals = λ p h. rw (body_here p h).locals at (counts p h).locals;
        few_loops_lem = layout.few_loops_lem;
      }

  pub size_of : size g.book ≤ most_procedures + (most_parameters + most_locals) * most_loops
  size_of = few_places layout
