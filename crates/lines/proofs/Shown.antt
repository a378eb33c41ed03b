-- The lines of a book, one procedure after another.
use mathlib.Core.Path.{◌≡◌, refl, sym, ap, ◌∙◌}
use mathlib.Core.List.{List, [], ◌∷◌, ◌++◌, append_assoc, append-nil}
use mathlib.Core.Option.{some}
use Prim.Native.Nat.{ℕ, zero, suc, ◌+◌, ◌*◌, ◌<◌, ◌≤◌}
use native.Mathlib.Numerals.{add-one}
use native.Mathlib.Omega.{arith}
use lib.ListN.{length, drop, get_elem?, length-append}
use lib.Seq.{drop-length}
use Rattle.meaning.specs.Tree.{Procedure, Book}
use Rattle.meaning.specs.Reading.{entry, procedures}
use Rattle.meaning.specs.Flow.{at}
use Rattle.meaning.specs.Answers.{lines}
use Rattle.meaning.specs.Entries.{Reads}
use Rattle.book.proofs.Answer.{accepted}
use Rattle.book.specs.Here.{BookHere}
use Rattle.book.proofs.Sound.{book_facts, procedure_view}
use Rattle.lines.specs.Says.{room, line_of, line_bytes}
use Rattle.lines.specs.Listed.{Listed}
use Rattle.lines.proofs.Laws.{few_digits}

-- What stands at place i, and the rest.
drop_found : (b : Book) (i : ℕ) (q : Procedure) → get_elem? b i ≡ some q → drop i b ≡ q ∷ drop (suc i) b
drop_found [] i q h = let z : ◌≡◌ {A = ℕ} 0 1 = cc in absurd (omega arith)
drop_found (p ∷ b) zero q h = let e : p ≡ q = cc in ap (λ r. r ∷ b) e
drop_found (p ∷ b) (suc i) q h = drop_found b i q h

-- The lines of a book are the line of its first procedure and the others.
lines_first : (p : ℕ) (q : Procedure) (qs : Book) (σ : List ℕ) →
    lines p (q ∷ qs) σ ≡ line_of p q.parameters q.locals (at σ p) ++ lines (suc p) qs σ
unfolding lines
lines_first p q qs σ = simp append_assoc

-- A line is short.
few_bytes : (p m l s : ℕ) → (p < 1000) × (m < 1000) × (l < 1000) × (s < 1000) → length (line_of p m l s) ≤ line_bytes
few_bytes p m l s h =
    simp length-append (omega (arith, few_digits p h.0, few_digits m h.1, few_digits l h.2, few_digits s h.3))

-- The first i lines are there.
pub record Shown (book summary : List ℕ) (i : ℕ) (text : List ℕ) : Type 0 where
  pub short : length text ≤ line_bytes * i
  pub rest : (g : BookHere book) → text ++ lines i (drop i g.book) summary ≡ lines 0 g.book summary

pub shown_none : {book summary text : List ℕ} → text ≡ [] → Shown book summary 0 text
shown_none e = rw e (record { short = omega arith; rest = λ g. refl })

-- The lines from procedure i on begin with its line.
lines_here : {book : List ℕ} (summary : List ℕ) (g : BookHere book) (i : ℕ) → i < procedures book →
    lines i (drop i g.book) summary
    ≡ line_of i (entry book i).parameters (entry book i).locals (at summary i) ++ lines (suc i) (drop (suc i) g.book) summary
lines_here {book} summary g i h =
    let v = procedure_view g i h in
    ap (λ d. lines i d summary) (drop_found g.book i v.procedure v.found)
    ∙ lines_first i v.procedure (drop (suc i) g.book) summary
    ∙ ap (λ m. line_of i m v.procedure.locals (at summary i) ++ lines (suc i) (drop (suc i) g.book) summary) v.parameters
    ∙ ap (λ m. line_of i (entry book i).parameters m (at summary i) ++ lines (suc i) (drop (suc i) g.book) summary) v.locals

pub shown_more : {book summary old new : List ℕ} {i m l s : ℕ} → i < procedures book →
    m ≡ (entry book i).parameters → l ≡ (entry book i).locals → s ≡ at summary i → (i < 1000) × (m < 1000) × (l < 1000) × (s < 1000) →
    Shown book summary i old → new ≡ old ++ line_of i m l s → Shown book summary (i + 1) new
shown_more {book} {summary} {old} {new} {i} {m} {l} {s} h em el es k shown e =
    record {
      short = rw (e, length-append old (line_of i m l s)) (let w = few_bytes i m l s k in omega (arith, shown.short));
      rest = λ g.
          rw (e, add-one, append_assoc old (line_of i m l s) (lines (suc i) (drop (suc i) g.book) summary), em, el, es, ← lines_here summary g i h)
          (shown.rest g);
    }

pub shown_all : {book summary text : List ℕ} {i : ℕ} → i ≡ procedures book → Shown book summary i text → Listed book summary text
unfolding lines
shown_all {book} {summary} {text} {i} h s =
    record {
      lists = λ g.
          let n : i ≡ length g.book = omega (arith, (book_facts g).counted) in
          let none : drop i g.book ≡ [] = ap (λ k. drop k g.book) n ∙ drop-length g.book in
          sym (append-nil text) ∙ (rw none at (s.rest g));
    }

-- The first byte and the entries of a readable book, and how many there are.
module _ {b : List ℕ} {s : ℕ} (h : Reads b 0 s) where
  pub first_there : 0 < length b
  first_there = (book_facts (accepted h).book).some_bytes

  pub entry_there : {p : ℕ} → p < procedures b → 7 + 6 * p ≤ length b
  entry_there k = omega (arith, (book_facts (accepted h).book).contents)

  pub line_fits : {summary text : List ℕ} {p : ℕ} → p < procedures b → Shown b summary p text → length text + line_bytes ≤ room
  line_fits k shown = let f = book_facts (accepted h).book in omega (arith, shown.short, f.few, f.counted)
