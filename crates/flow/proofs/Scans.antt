-- Loops over the bodies of a book that gather the numbers behind each byte 13.
use mathlib.Core.Path.{◌≡◌, ap, ◌∙◌}
use mathlib.Core.Bool.{true}
use mathlib.Core.List.{List, [], ◌∷◌}
use Prim.Native.Nat.{ℕ, ◌+◌, ◌-◌, ◌≤◌, ◌<◌}
use native.Mathlib.Omega.{arith}
use native.Mathlib.Decide.{ℕ_discrete}
use borrow.Author.Tests.{eqb-true}
use lib.Dec.{eqb, leb}
use Rattle.std.specs.Prelude.{Option, Some}
use Rattle.std.specs.declared.slice.Windows.{Windows}
use Rattle.std.specs.Slice.Iter.{windows_size, windows_rest, windows_steps}
use Rattle.std.proofs.lemmas.Iterator.{window_more}
use denote.Ref.{Bor}
use lib.ListN.{length, get_or, set, take, drop, replicate, length-drop, length-set, length-replicate}
use lib.Seq.{get_or-set_same, get_or-set_other, length-take-le}
use Rattle.meaning.specs.Limits.{most_procedures, most_parameters, most_locals}
use Rattle.meaning.specs.Sets.{union, single, member}
use Rattle.meaning.specs.Reading.{Entry, entry, entries, procedures, contents_end, in_turn, contents}
use Rattle.meaning.proofs.Lists.{both_left, both_right}
use Rattle.meaning.proofs.Pairs.{All, done, also, each_all}
use Rattle.meaning.proofs.Readable.{reads}
use Rattle.book.specs.Here.{BookHere}
use Rattle.flow.specs.Waking.{named, BehindPost}
use Rattle.flow.proofs.Copies.{part_at}
use Rattle.flow.proofs.Masks.{member_old, member_new}
use Rattle.flow.proofs.Numbers.{Numbered, numbered}

-- The numbers behind the bytes 13 before place i are in the set.
abbrev Heard : List ℕ → ℕ → ℕ → Type 0
Heard body i s = (k : ℕ) → k < i → get_or body k 0 ≡ 0x13 → get_or body (k + 1) 0 < most_procedures → member (get_or body (k + 1) 0) s ≡ true

-- The windows that are left are of the body's end.
pub record Hearing (body : List ℕ) (size : ℕ) (rest : List ℕ) (s : ℕ) : Type 0 where
  pub size_is : size ≡ 2
  pub long : length rest ≤ length body
  pub rest_is : rest ≡ drop (length body - length rest) body
  pub heard : Heard body (length body - length rest) s

-- A window whose first byte is 13: its number is put into the set.
pub hearing_new : {body : List ℕ} (s t : Windows ℕ) {r : Option (Bor (List ℕ))} {w : Bor (List ℕ)} {m p m' : ℕ} →
    Hearing body (windows_size s) (windows_rest s) m → r ≡ Some w → windows_steps s r t → p ≡ get_or w.now 1 0 → m' ≡ union m (single p) →
    Hearing body (windows_size t) (windows_rest t) m'
hearing_new {body} s t {r} {w} {m} {p} {m'} h e n u v =
    let x = window_more body s t r w e n (omega (arith, h.size_is)) h.long h.rest_is in
    record {
      size_is = n.0 ∙ h.size_is;
      long = omega (arith, x.0, h.long);
      rest_is = x.1;
      heard = λ k l f q.
          go k (omega (arith, x.0, h.long)) f q (u ∙ x.3 1 0 (omega (arith, h.size_is)))
          (ℕ_discrete k (length body - length (windows_rest s)));
    }
  where
    go : (k : ℕ) → k < length body - length (windows_rest s) + 1 → get_or body k 0 ≡ 0x13 → get_or body (k + 1) 0 < most_procedures →
        p ≡ get_or body (length body - length (windows_rest s) + 1) 0 → Dec (k ≡ length body - length (windows_rest s)) →
        member (get_or body (k + 1) 0) m' ≡ true
    go k l f q y (yes d) = rw (d, ← y, v) (member_new m p)
    go k l f q y (no d) = rw v (member_old m p (get_or body (k + 1) 0) (h.heard k (omega arith) f q))

-- The bodies follow one another up to the book's end, so each ends within it.
turn_below : (at : ℕ) (es : List Entry) (end : ℕ) → in_turn at es end ≡ true → at ≤ end
unfolding in_turn
turn_below at [] end h = omega (arith, eqb-true at end h)
turn_below at (e ∷ es) end h =
    let h₁ = both_right (eqb e.offset at) _ h in
    let h₂ = both_right (leb e.parameters most_parameters) _ h₁ in
    let h₃ = both_right (leb e.locals most_locals) _ h₂ in
    omega (arith, turn_below (at + e.bytes) es end h₃)

turn_within : (at : ℕ) (es : List Entry) (end : ℕ) → in_turn at es end ≡ true → All (λ e. e.offset + e.bytes ≤ end) es
unfolding in_turn
turn_within at [] end h = done
turn_within at (e ∷ es) end h =
    let h₁ = both_right (eqb e.offset at) _ h in
    let h₂ = both_right (leb e.parameters most_parameters) _ h₁ in
    let h₃ = both_right (leb e.locals most_locals) _ h₂ in
    also {a = e}
    (omega (arith, eqb-true e.offset at (both_left _ _ h), turn_below (at + e.bytes) es end h₃))
    (turn_within (at + e.bytes) es end h₃)

body_within : {b : List ℕ} → BookHere b → (p : ℕ) → p < procedures b → (entry b p).offset + (entry b p).bytes ≤ length b
unfolding contents entries
body_within {b} g p l =
    let r = reads b g.is in
    let h₁ = both_right (leb 1 (procedures b)) _ r.ordered in
    let h₂ = both_right (leb (procedures b) most_procedures) _ h₁ in
    let h₃ = both_right (leb (contents_end b) (length b)) _ h₂ in
    each_all (procedures b) (entry b) (turn_within (contents_end b) (entries b) (length b) h₃) p l

-- The first p bodies are scanned.
pub record Scanning (b : List ℕ) (n p : ℕ) (called : List ℕ) : Type 0 where
  pub counted : Numbered b n
  pub long : length called ≡ most_procedures
  pub heard : (q i : ℕ) → q < p → (entry b q).offset ≤ i → i + 1 < (entry b q).offset + (entry b q).bytes →
      get_or b i 0 ≡ 0x13 → get_or b (i + 1) 0 < most_procedures → named called q (get_or b (i + 1) 0) ≡ true

pub scanning_none : {b : List ℕ} {n : ℕ} → BookHere b → n ≡ procedures b → Scanning b n 0 (replicate most_procedures 0)
scanning_none g e =
    record { counted = numbered g e; long = length-replicate {A = ℕ} most_procedures 0; heard = λ q i h. absurd (omega arith) }

-- Where body p begins and how long it is.
pub record Spanned (b : List ℕ) (n p at bytes : ℕ) : Type 0 where
  pub known : p < n
  pub offset : at ≡ (entry b p).offset
  pub length_is : bytes ≡ (entry b p).bytes

pub body_ends : {b called : List ℕ} {n p at bytes : ℕ} → Scanning b n p called → Spanned b n p at bytes → at + bytes ≤ length b
body_ends {b} {called} {n} {p} s t = omega (arith, body_within s.counted.book p (omega (arith, s.counted.is, t.known)), t.offset, t.length_is)

-- What body p may call is told by its own set, and the sets of the others stay.
pub scanning_more : {b called : List ℕ} {n p at bytes r : ℕ} → Scanning b n p called → Spanned b n p at bytes →
    BehindPost (take (at + bytes - at) (drop at b)) r → Scanning b n (p + 1) (set called p r)
scanning_more {b} {called} {n} {p} {at} {bytes} {r} s t z =
    record { counted = s.counted; long = length-set called p r ∙ s.long; heard = λ q i h u v w x. go q i h u v w x (ℕ_discrete q p) }
  where
    size : at + bytes - at ≡ bytes
    size = omega arith

    long : length (take (at + bytes - at) (drop at b)) ≡ bytes
    long = length-take-le (at + bytes - at) (drop at b) (simp length-drop (omega (arith, body_ends s t))) ∙ size

    own : (i : ℕ) → at ≤ i → i + 1 < at + bytes → get_or b i 0 ≡ 0x13 → get_or b (i + 1) 0 < most_procedures → member (get_or b (i + 1) 0) r ≡ true
    own i u v w x =
        let e : get_or (take (at + bytes - at) (drop at b)) (i - at) 0 ≡ get_or b i 0 =
        part_at b at (at + bytes - at) (i - at) (omega arith) ∙ ap (λ (k : ℕ). get_or b k 0) (omega arith) in
        let f : get_or (take (at + bytes - at) (drop at b)) (i - at + 1) 0 ≡ get_or b (i + 1) 0 =
        part_at b at (at + bytes - at) (i - at + 1) (omega arith) ∙ ap (λ (k : ℕ). get_or b k 0) (omega arith) in
        rw f at (z.behind (i - at) (omega (arith, long)) (e ∙ w) (rw f x))

    go : (q i : ℕ) → q < p + 1 → (entry b q).offset ≤ i → i + 1 < (entry b q).offset + (entry b q).bytes →
        get_or b i 0 ≡ 0x13 → get_or b (i + 1) 0 < most_procedures → Dec (q ≡ p) → named (set called p r) q (get_or b (i + 1) 0) ≡ true
    go q i h u v w x (yes d) =
        let o : (entry b q).offset ≡ (entry b p).offset = ap (λ (k : ℕ). (entry b k).offset) d in
        let y : (entry b q).bytes ≡ (entry b p).bytes = ap (λ (k : ℕ). (entry b k).bytes) d in
        let m = own i (omega (arith, t.offset)) (omega (arith, t.offset, t.length_is)) w x in
        rw (d, get_or-set_same called p r 0 (omega (arith, s.long, s.counted.few, t.known))) m
    go q i h u v w x (no d) = rw (get_or-set_other called p q r 0 d) (s.heard q i (omega arith) u v w x)
