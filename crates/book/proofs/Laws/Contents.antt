-- The ways through the code that judges the contents.
use mathlib.Core.Path.{◌≡◌, refl, sym, ◌∙◌}
use mathlib.Core.Bool.{Bool, true, false, ◌&&◌}
use mathlib.Core.List.{List, [], ◌∷◌, map, map-append}
use Prim.Native.Nat.{ℕ, zero, suc, ◌+◌, ◌*◌, ◌≤◌, ◌<◌}
use native.Mathlib.Omega.{arith}
use native.Mathlib.Numerals.{add-one}
use borrow.Author.Tests.{le-leb, lt-leb, eq-eqb, ne_eqb}
use lib.Dec.{eqb, leb}
use lib.ListN.{length, get_or, drop, drop_of_length-le}
use lib.Seq.{drop-cons}
use Rattle.meaning.specs.Limits.{entry_bytes, most_procedures, most_parameters, most_locals}
use Rattle.meaning.specs.Lists.{each}
use Rattle.meaning.specs.Reading.{pair, entry, entries, procedures, contents_end, in_turn, contents, arities}
use Rattle.meaning.proofs.Lists.{length_each, get_or_each}

-- The entries from entry i on.
pub entries_next : (b : List ℕ) (i : ℕ) → i < procedures b → drop i (entries b) ≡ entry b i ∷ drop (i + 1) (entries b)
unfolding entries
entries_next b i h =
    rw (drop-cons (each (procedures b) (entry b)) i (entry b i) (rw (length_each (procedures b) (entry b)) h), add-one i, get_or_each (procedures b) (entry b) i (entry b i) h)

pub entries_over : (b : List ℕ) (i : ℕ) → procedures b ≤ i → drop i (entries b) ≡ []
unfolding entries
entries_over b i h =
    let l : length (each (procedures b) (entry b)) ≤ i = rw (length_each (procedures b) (entry b)) h in
    drop_of_length-le (each (procedures b) (entry b)) l

-- The rules of the contents, from entry i on.
abbrev pub whole_turns : List ℕ → Bool
whole_turns b = in_turn (contents_end b) (entries b) (length b)

abbrev pub turns : List ℕ → ℕ → ℕ → Bool
turns b i at = in_turn at (drop i (entries b)) (length b)

pub turns_begin : {count : ℕ} (b : List ℕ) → count ≡ procedures b → whole_turns b ≡ turns b 0 (1 + entry_bytes * count)
turns_begin b e = rw e

pub turn : (b : List ℕ) (i at : ℕ) → i < procedures b → turns b i at
    ≡ (eqb (pair b (1 + entry_bytes * i)) at && (leb (get_or b (1 + entry_bytes * i + 4) 0) most_parameters && (leb (get_or b (1 + entry_bytes * i + 5) 0) most_locals
    && turns b (i + 1) (at + pair b (1 + entry_bytes * i + 2)))))
unfolding in_turn
turn b i at h = rw (entries_next b i h)

module _ (b : List ℕ) (i at : ℕ) {count o : ℕ} (listed : count ≡ procedures b) (h : i < count) (r : whole_turns b ≡ turns b i at)
    (offset : o ≡ pair b (1 + entry_bytes * i)) where
  pub turns_offset : (o ≡ at → ⊥) → false ≡ whole_turns b
  turns_offset n = sym (r ∙ turn b i at (omega arith) ∙ rw (ne_eqb (pair b (1 + entry_bytes * i)) at (λ e. n (offset ∙ e))))

  met : o ≡ at → eqb (pair b (1 + entry_bytes * i)) at ≡ true
  met e = eq-eqb (pair b (1 + entry_bytes * i)) at (sym offset ∙ e)

  pub turns_parameters : {x : ℕ} → o ≡ at → x ≡ get_or b (1 + entry_bytes * i + 4) 0 → most_parameters < x → false ≡ whole_turns b
  turns_parameters e x n = sym (r ∙ turn b i at (omega arith) ∙ rw (met e, lt-leb (get_or b (1 + entry_bytes * i + 4) 0) most_parameters (rw x at n)))

  pub turns_locals : {x y : ℕ} → o ≡ at → x ≡ get_or b (1 + entry_bytes * i + 4) 0 → x ≤ most_parameters → y ≡ get_or b (1 + entry_bytes * i + 5) 0 → most_locals < y →
      false ≡ whole_turns b
  turns_locals e x m y n =
      sym (r ∙ turn b i at (omega arith)
      ∙ rw (met e, le-leb (get_or b (1 + entry_bytes * i + 4) 0) most_parameters (rw x at m), lt-leb (get_or b (1 + entry_bytes * i + 5) 0) most_locals (rw y at n)))

  pub turns_more : {x y n : ℕ} → o ≡ at → x ≡ get_or b (1 + entry_bytes * i + 4) 0 → x ≤ most_parameters → y ≡ get_or b (1 + entry_bytes * i + 5) 0 → y ≤ most_locals →
      n ≡ pair b (1 + entry_bytes * i + 2) → whole_turns b ≡ turns b (i + 1) (at + n)
  turns_more e x m y n q =
      r ∙ turn b i at (omega arith)
      ∙ rw (met e, le-leb (get_or b (1 + entry_bytes * i + 4) 0) most_parameters (rw x at m), le-leb (get_or b (1 + entry_bytes * i + 5) 0) most_locals (rw y at n), q)

pub turns_end : {count : ℕ} (b : List ℕ) (i at : ℕ) → count ≡ procedures b → count ≤ i → whole_turns b ≡ turns b i at → eqb at (length b) ≡ whole_turns b
unfolding in_turn
turns_end b i at e h r = sym (r ∙ rw (entries_over b i (omega arith)))

-- The contents as a whole.
pub contents_none : {count : ℕ} (b : List ℕ) → count ≡ procedures b → count < 1 → false ≡ contents b
unfolding contents
contents_none b e h = rw (lt-leb 1 (procedures b) (omega arith))

pub contents_many : {count : ℕ} (b : List ℕ) → count ≡ procedures b → 1 ≤ count → most_procedures < count → false ≡ contents b
unfolding contents
contents_many b e h n = rw (le-leb 1 (procedures b) (omega arith), lt-leb (procedures b) most_procedures (omega arith))

pub contents_short : {count : ℕ} (b : List ℕ) → count ≡ procedures b → 1 ≤ count → count ≤ most_procedures → length b < 1 + entry_bytes * count → false ≡ contents b
unfolding contents
contents_short b e h n l =
    rw (le-leb 1 (procedures b) (omega arith), le-leb (procedures b) most_procedures (omega arith), lt-leb (contents_end b) (length b) (omega arith))

pub contents_turns : {count : ℕ} {r : Bool} (b : List ℕ) → count ≡ procedures b → 1 ≤ count → count ≤ most_procedures → 1 + entry_bytes * count ≤ length b →
    r ≡ whole_turns b → r ≡ contents b
unfolding contents
contents_turns b e h n l q =
    q ∙ rw (le-leb 1 (procedures b) (omega arith), le-leb (procedures b) most_procedures (omega arith), le-leb (contents_end b) (length b) (omega arith))

-- The parameter counts.
map_each : {A B : Type 0} (f : A → B) (g : ℕ → A) (n : ℕ) → map f (each n g) ≡ each n (λ i. f (g i))
unfolding each
map_each f g zero = refl
map_each f g (suc n) = rw (map-append f (each n g) (g n ∷ []), map_each f g n)

arities_each : (b : List ℕ) → arities (entries b) ≡ each (procedures b) (λ i. (entry b i).parameters)
unfolding arities entries
arities_each b = map_each (λ e. e.parameters) (entry b) (procedures b)

pub arities_length : (b : List ℕ) → length (arities (entries b)) ≡ procedures b
arities_length b = rw (arities_each b) (length_each (procedures b) (λ i. (entry b i).parameters))

pub arity : (b : List ℕ) (p : ℕ) → p < procedures b → get_or (arities (entries b)) p 0 ≡ (entry b p).parameters
arity b p h = rw (arities_each b) (get_or_each (procedures b) (λ i. (entry b i).parameters) p 0 h)
