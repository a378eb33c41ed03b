-- The ways through the code that reads the bodies in order.
use mathlib.Core.Path.{◌≡◌, refl, sym, ap, ap₂, ◌∙◌}
use mathlib.Core.Bool.{true, ◌&&◌}
use mathlib.Core.List.{List, [], ◌∷◌}
use Prim.Native.Nat.{ℕ, ◌+◌, ◌*◌, ◌-◌, ◌≤◌, ◌<◌}
use native.Mathlib.Omega.{arith}
use borrow.Author.Tests.{leb-true, eqb-true}
use lib.Dec.{eqb, leb}
use lib.ListN.{length, get_or, take, drop}
use Rattle.meaning.specs.Limits.{entry_bytes, most_procedures, most_parameters, most_locals}
use Rattle.meaning.specs.Tree.{Book, Closing, loops_of}
use Rattle.meaning.specs.Reading.{Parsed, got, bad, more, Entry, pair, entry, entries, procedures, contents_end, in_turn, contents, arities, scope, body, body_of, bodies, loops_all}
use Rattle.meaning.proofs.Lists.{both_left, both_right}
use Rattle.book.specs.Parts.{naming, body_taken}
use Rattle.book.specs.Taken as T
use Rattle.book.specs.Taken.{Bytes, plus}
use Rattle.book.specs.Counted.{Counted, Sets, Fault, sets_all, counted, counted_of}
use Rattle.book.proofs.Parts.{Got, was_got, was_bad, was_behind, was_stopped}
use Rattle.book.proofs.Laws.Contents.{entries_next, entries_over, whole_turns, turns, turn}

-- What the contents tell of entry i, whose body begins at `at`.
pub record Turned (b : List ℕ) (i at : ℕ) : Type 0 where
  pub offset : pair b (1 + entry_bytes * i) ≡ at
  pub parameters : get_or b (1 + entry_bytes * i + 4) 0 ≤ most_parameters
  pub locals : get_or b (1 + entry_bytes * i + 5) 0 ≤ most_locals
  pub rest : turns b (i + 1) (at + pair b (1 + entry_bytes * i + 2)) ≡ true
  pub fits : at + pair b (1 + entry_bytes * i + 2) ≤ length b

-- Bodies that follow one another to the end begin before it.
ends_after : (at : ℕ) (es : List Entry) (end : ℕ) → in_turn at es end ≡ true → at ≤ end
unfolding in_turn
ends_after at [] end h = omega (arith, eqb-true at end h)
ends_after at (e ∷ es) end h =
    let q₁ = both_right (eqb e.offset at) (leb e.parameters most_parameters && (leb e.locals most_locals && in_turn (at + e.bytes) es end)) h in
    let q₂ = both_right (leb e.parameters most_parameters) (leb e.locals most_locals && in_turn (at + e.bytes) es end) q₁ in
    omega (arith, ends_after (at + e.bytes) es end (both_right (leb e.locals most_locals) (in_turn (at + e.bytes) es end) q₂))

pub turned : {count : ℕ} (b : List ℕ) (i at : ℕ) → count ≡ procedures b → i < count → turns b i at ≡ true → Turned b i at
turned b i at e h r =
    let at' = pair b (1 + entry_bytes * i) in
    let ps = get_or b (1 + entry_bytes * i + 4) 0 in
    let ls = get_or b (1 + entry_bytes * i + 5) 0 in
    let next = at + pair b (1 + entry_bytes * i + 2) in
    let q = sym (turn b i at (omega arith)) ∙ r in
    let q₁ = both_right (eqb at' at) _ q in
    let q₂ = both_right (leb ps most_parameters) _ q₁ in
    let q₃ = both_right (leb ls most_locals) _ q₂ in
    record {
      offset = eqb-true at' at (both_left _ _ q);
      parameters = leb-true ps most_parameters (both_left _ _ q₁);
      locals = leb-true ls most_locals (both_left _ _ q₂);
      rest = q₃;
      fits = ends_after next (drop (i + 1) (entries b)) (length b) q₃;
    }

-- The answer with the loops and sets of the bodies before.
abbrev pub add_sets : ℕ → ℕ → Counted → Counted
add_sets l k (Sets a b) = Sets (l + a) (k + b)
add_sets l k (Fault r p) = Fault r p

add_add : (l k m n : ℕ) (t : Counted) → add_sets l k (add_sets m n t) ≡ add_sets (l + m) (k + n) t
add_add l k m n (Sets a b) = ap₂ Sets (omega arith) (omega arith)
add_add l k m n (Fault r p) = refl

add_none : (t : Counted) → add_sets 0 0 t ≡ t
add_none (Sets a b) = ap₂ Sets (omega arith) (omega arith)
add_none (Fault r p) = refl

one_more : (b ar : List ℕ) (e : Entry) (es : List Entry) (c : Closing) (n : ℕ) → body_of b ar e ≡ got c n →
    counted (bodies b ar (e ∷ es)) ≡ add_sets (loops_of c) ((e.parameters + e.locals) * loops_of c) (counted (bodies b ar es))
unfolding bodies counted loops_all sets_all
one_more b ar e es c n h = rw (h, bodies) (go (bodies b ar es))
  where
    go : (p : Parsed Book) →
        counted (elim p [ bad r p ↦ bad r p | got qs m ↦ got (record { parameters = e.parameters; locals = e.locals; body = c } ∷ qs) m ])
        ≡ add_sets (loops_of c) ((e.parameters + e.locals) * loops_of c) (counted p)
    go (got qs m) = refl
    go (bad r p) = refl

one_bad : (b ar : List ℕ) (e : Entry) (es : List Entry) (r p : ℕ) → body_of b ar e ≡ bad r p → counted (bodies b ar (e ∷ es)) ≡ Fault r p
unfolding bodies counted
one_bad b ar e es r p h = rw (h, bodies)

-- The bodies from entry i on, the first of which begins at `at`, behind so many loops and sets.
pub record Ahead (b ar : List ℕ) (i at loops sets : ℕ) : Type 0 where
  pub turning : turns b i at ≡ true
  pub same : counted (bodies b ar (entries b)) ≡ add_sets loops sets (counted (bodies b ar (drop i (entries b))))

-- What contents that keep every rule tell.
pub record Kept (b : List ℕ) : Type 0 where
  pub some : 1 ≤ procedures b
  pub few : procedures b ≤ most_procedures
  pub fits : contents_end b ≤ length b
  pub turning : whole_turns b ≡ true

pub kept : (b : List ℕ) → contents b ≡ true → Kept b
unfolding contents
kept b h =
    let q₁ = both_right (leb 1 (procedures b)) _ h in
    let q₂ = both_right (leb (procedures b) most_procedures) _ q₁ in
    record {
      some = leb-true 1 (procedures b) (both_left _ _ h);
      few = leb-true (procedures b) most_procedures (both_left _ _ q₁);
      fits = leb-true (contents_end b) (length b) (both_left _ _ q₂);
      turning = both_right (leb (contents_end b) (length b)) (whole_turns b) q₂;
    }

pub ahead_begin : {count : ℕ} (b ar : List ℕ) → contents b ≡ true → count ≡ procedures b → Ahead b ar 0 (1 + entry_bytes * count) 0 0
ahead_begin b ar h e = record { turning = rw e (kept b h).turning; same = sym (add_none (counted (bodies b ar (entries b)))) }

-- The answer for the body of entry i, read as a part of the book.
part_of : {t : T.Taken} {x y n : ℕ} (b ar : List ℕ) (i at : ℕ) → Turned b i at → n ≡ pair b (1 + entry_bytes * i + 2) →
    x ≡ get_or b (1 + entry_bytes * i + 4) 0 → y ≡ get_or b (1 + entry_bytes * i + 5) 0 →
    t ≡ body_taken (naming (x + y) ar) (take (at + n - at) (drop at b)) → t ≡ body_taken (scope ar (entry b i)) (take (entry b i).bytes (drop (entry b i).offset b))
part_of {t} {x} {y} {n} b ar i at u w p q h =
    let e : at + n - at ≡ n = omega arith in
    rw (p, q, e, w, ← u.offset) at h

ahead_one : {t : T.Taken} {count x y n m l : ℕ} (b ar : List ℕ) (i at loops sets : ℕ) → count ≡ procedures b → i < count → Ahead b ar i at loops sets →
    n ≡ pair b (1 + entry_bytes * i + 2) → x ≡ get_or b (1 + entry_bytes * i + 4) 0 → y ≡ get_or b (1 + entry_bytes * i + 5) 0 → t ≡ Bytes m l →
    t ≡ body_taken (naming (x + y) ar) (take (at + n - at) (drop at b)) → Ahead b ar (i + 1) (at + n) (loops + l) (sets + (x + y) * l)
unfolding body_of more
ahead_one {t} {count} {x} {y} {n} {m} {l} b ar i at loops sets c h a w p q e r =
    let u : Turned b i at = turned b i at c h a.turning in
    let E : Entry = entry b i in
    let s : Parsed Closing = body (scope ar E) (take E.bytes (drop E.offset b)) in
    let g : Got loops_of s m l = was_got loops_of s e (part_of b ar i at u w p q r) in
    let read : body_of b ar E ≡ got g.tree (E.offset + m) = ap (more E.offset) g.is in
    let rest : Counted = counted (bodies b ar (drop (i + 1) (entries b))) in
    let many : (E.parameters + E.locals) * loops_of g.tree ≡ (x + y) * l = rw (g.count, p, q) in
    record {
      turning = rw w u.rest;
      same = a.same ∙ ap (λ es. add_sets loops sets (counted (bodies b ar es))) (entries_next b i (omega arith))
          ∙ ap (add_sets loops sets) (one_more b ar E (drop (i + 1) (entries b)) g.tree (E.offset + m) read
          ∙ ap₂ (λ a k. add_sets a k rest) g.count many)
          ∙ add_add loops sets l ((x + y) * l) rest;
    }

pub ahead_more : {t : T.Taken} {count x y n m l : ℕ} (b ar : List ℕ) (i at loops sets : ℕ) → count ≡ procedures b → i < count → Ahead b ar i at loops sets →
    n ≡ pair b (1 + entry_bytes * i + 2) → x ≡ get_or b (1 + entry_bytes * i + 4) 0 → y ≡ get_or b (1 + entry_bytes * i + 5) 0 →
    t ≡ body_taken (naming (x + y) ar) (take (at + n - at) (drop at b)) → Bytes m l ≡ plus at 0 t → Ahead b ar (i + 1) (at + n) (loops + l) (sets + (x + y) * l)
ahead_more {t} {count} {x} {y} {n} {m} {l} b ar i at loops sets c h a w p q r f =
    let o = was_behind at 0 t f in
    ahead_one b ar i at loops sets c h a w p q (o.is ∙ ap (Bytes o.bytes) (omega (arith, o.all_loops))) r

pub ahead_fault : {t : T.Taken} {count x y n z p : ℕ} (b : List ℕ) (i at loops sets : ℕ) → count ≡ procedures b → i < count → Ahead b (arities (entries b)) i at loops sets →
    n ≡ pair b (1 + entry_bytes * i + 2) → x ≡ get_or b (1 + entry_bytes * i + 4) 0 → y ≡ get_or b (1 + entry_bytes * i + 5) 0 →
    t ≡ body_taken (naming (x + y) (arities (entries b))) (take (at + n - at) (drop at b)) → T.Fault z p ≡ plus at 0 t → Fault z p ≡ counted_of b
unfolding body_of more
ahead_fault {t} {count} {x} {y} {n} {z} {p} b i at loops sets c h a w f q r g =
    let ar : List ℕ = arities (entries b) in
    let o = was_stopped at 0 t g in
    let e : t ≡ T.Fault z o.place = o.is in
    let u : Turned b i at = turned b i at c h a.turning in
    let E : Entry = entry b i in
    let s : Parsed Closing = body (scope ar E) (take E.bytes (drop E.offset b)) in
    let fault : s ≡ bad z o.place = was_bad loops_of s e (part_of b ar i at u w f q r) in
    let read : body_of b ar E ≡ bad z (E.offset + o.place) = rw fault in
    sym (a.same ∙ ap (λ es. add_sets loops sets (counted (bodies b ar es))) (entries_next b i (omega arith))
    ∙ ap (add_sets loops sets) (one_bad b ar E (drop (i + 1) (entries b)) z (E.offset + o.place) read) ∙ ap₂ Fault refl (omega (arith, u.offset, o.all_places)))

pub ahead_end : {count : ℕ} (b : List ℕ) (i at loops sets : ℕ) → count ≡ procedures b → count ≤ i → Ahead b (arities (entries b)) i at loops sets → Sets loops sets ≡ counted_of b
unfolding bodies counted loops_all sets_all
ahead_end b i at loops sets c h a =
    sym (a.same ∙ ap (λ es. add_sets loops sets (counted (bodies b (arities (entries b)) es))) (entries_over b i (omega arith)) ∙ ap₂ Sets (omega arith) (omega arith))
