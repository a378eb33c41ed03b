-- Laws of the answers for a part, and of the parser's combinators under them.
use mathlib.Core.Path.{◌≡◌, refl, sym, ap, ap₂, ◌∙◌}
use mathlib.Core.List.{List}
use Prim.Native.Nat.{ℕ, ◌+◌, ◌-◌}
use native.Mathlib.Omega.{arith}
use lib.ListN.{length, take, drop}
use lib.Seq.{drop-drop}
use borrow.Author.Rules.{part_to_end}
use Rattle.meaning.specs.Reading.{Parsed, got, bad, more, and_then}
use Rattle.std.specs.Prelude.{Result, Err}
use Rattle.std.specs.Result.{IsErrAnd}
use Rattle.std.proofs.lemmas.Result.{err_from_is_err_and}
use Rattle.book.specs.declared.taken.Taken as T
use Rattle.book.specs.declared.fault.Fault as F
use Rattle.book.specs.Taken.{told, Taken, Bytes, Fault, taken, plus, span, loops_taken}

-- The part of a slice from a on, as the code's `&s[a..]` is known.
abbrev pub from : ℕ → List ℕ → List ℕ
from a s = take (length s - a) (drop a s)

pub from_drop : (a : ℕ) (s : List ℕ) → from a s ≡ drop a s
from_drop a s = part_to_end s a

pub plus_fault : {t : Taken} {r p : ℕ} (n l : ℕ) → t ≡ Fault r p → Fault r (n + p) ≡ plus n l t
plus_fault n l e = rw e

-- What an answer tells that is a fault.
pub told_err : (f : F.Fault) (r : Result T.Taken F.Fault) → IsErrAnd r (λ e. e ≡ f) → told r ≡ told (Err f)
told_err f r h = let p = err_from_is_err_and r h in rw (p.1, p.2) refl

-- What an answer behind n bytes with l loops tells of the part.
pub record Behind (n l : ℕ) (t : Taken) (m k : ℕ) : Type 0 where
  pub bytes : ℕ
  pub loops : ℕ
  pub is : t ≡ Bytes bytes loops
  pub all_bytes : m ≡ n + bytes
  pub all_loops : k ≡ l + loops

pub was_behind : (n l : ℕ) (t : Taken) {m k : ℕ} → Bytes m k ≡ plus n l t → Behind n l t m k
was_behind n l (Bytes i j) e = record { bytes = i; loops = j; is = refl; all_bytes = cc; all_loops = cc }
was_behind n l (Fault r p) e = let z : ◌≡◌ {A = ℕ} 0 1 = cc in absurd (omega arith)

pub record Stopped (n : ℕ) (t : Taken) (r q : ℕ) : Type 0 where
  pub place : ℕ
  pub is : t ≡ Fault r place
  pub all_places : q ≡ n + place

pub was_stopped : (n l : ℕ) (t : Taken) {r q : ℕ} → Fault r q ≡ plus n l t → Stopped n t r q
was_stopped n l (Bytes i j) e = let z : ◌≡◌ {A = ℕ} 0 1 = cc in absurd (omega arith)
was_stopped n l (Fault x p) e = record { place = p; is = cc; all_places = cc }

pub span_plus : (n l : ℕ) (t : Taken) {m k : ℕ} → Bytes m k ≡ plus n l t → m ≡ n + span t
span_plus n l t e = let b = was_behind n l t e in rw b.is b.all_bytes

pub loops_plus : (n l : ℕ) (t : Taken) {m k : ℕ} → Bytes m k ≡ plus n l t → k ≡ l + loops_taken t
loops_plus n l t e = let b = was_behind n l t e in rw b.is b.all_loops

pub plus_plus : (n l m k : ℕ) (t : Taken) → plus n l (plus m k t) ≡ plus (n + m) (l + k) t
plus_plus n l m k (Bytes i j) = ap₂ Bytes (omega arith) (omega arith)
plus_plus n l m k (Fault r p) = ap₂ Fault refl (omega arith)

pub plus_none : (t : Taken) → plus 0 0 t ≡ t
plus_none (Bytes n l) = ap₂ Bytes (omega arith) (omega arith)
plus_none (Fault r p) = ap₂ Fault refl (omega arith)

pub plus_apart : (n m k : ℕ) (t : Taken) → plus (n + m) k t ≡ plus n 0 (plus m k t)
plus_apart n m k (Bytes i j) = ap₂ Bytes (omega arith) (omega arith)
plus_apart n m k (Fault r p) = ap₂ Fault refl (omega arith)

pub plus_loops : (n k : ℕ) (t : Taken) → plus n k t ≡ plus n 0 (plus 0 k t)
plus_loops n k (Bytes i j) = ap₂ Bytes (omega arith) (omega arith)
plus_loops n k (Fault r p) = ap₂ Fault refl (omega arith)

pub taken_more : {A : Type 0} (loops : A → ℕ) (n : ℕ) (p : Parsed A) → taken loops (more n p) ≡ plus n 0 (taken loops p)
unfolding taken more
taken_more loops n (got a m) = ap₂ Bytes refl (omega arith)
taken_more loops n (bad r p) = refl

-- What was read, and the fault, from the answer.
pub record Got {A : Type 0} (loops : A → ℕ) (p : Parsed A) (n l : ℕ) : Type 0 where
  pub tree : A
  pub is : p ≡ got tree n
  pub count : loops tree ≡ l

pub was_got : {A : Type 0} (loops : A → ℕ) (p : Parsed A) {t : Taken} {n l : ℕ} → t ≡ Bytes n l → t ≡ taken loops p → Got loops p n l
unfolding taken
was_got loops (got a m) {t} {n} {l} e h = record { tree = a; is = cc; count = cc }
was_got loops (bad r p) e h = let z : ◌≡◌ {A = ℕ} 0 1 = cc in absurd (omega arith)

pub was_bad : {A : Type 0} (loops : A → ℕ) (p : Parsed A) {t : Taken} {r q : ℕ} → t ≡ Fault r q → t ≡ taken loops p → p ≡ bad r q
unfolding taken
was_bad loops (got a m) e h = let z : ◌≡◌ {A = ℕ} 0 1 = cc in absurd (omega arith)
was_bad loops (bad r p) e h = cc

-- A fault in the first part is the fault of the whole.
pub stops : {A B : Type 0} (loops : A → ℕ) (more : B → ℕ) (s : List ℕ) (p : Parsed A) (g : A → List ℕ → Parsed B) {t : Taken} {r q : ℕ} →
    t ≡ Fault r q → t ≡ taken loops p → t ≡ taken more (and_then s p g)
unfolding taken and_then
stops loops more s p g e h = rw (was_bad loops p e h) e

-- After the first part, what follows is read from where it ended.
pub goes_on : {A B : Type 0} (loops : A → ℕ) (some : B → ℕ) (s : List ℕ) (p : Parsed A) (g : A → List ℕ → Parsed B) {n l : ℕ} →
    (h : Got loops p n l) → taken some (and_then s p g) ≡ plus n 0 (taken some (g h.tree (drop n s)))
unfolding and_then
goes_on loops some s p g {n} h = rw h.is (taken_more some n (g h.tree (drop n s)))

-- The last part's answer is the whole's, with the loops of what was read before.
pub ends_with : {A B : Type 0} (loops : A → ℕ) (some : B → ℕ) (s : List ℕ) (p : Parsed A) (f : A → B) (k : ℕ) →
    ((a : A) → some (f a) ≡ k + loops a) → taken some (and_then s p λ a s. got (f a) 0) ≡ plus 0 k (taken loops p)
unfolding taken and_then more
ends_with loops some s (got a n) f k h = ap₂ Bytes (omega arith) (h a)
ends_with loops some s (bad r q) f k h = ap₂ Fault refl (omega arith)

-- One part more of a row of parts.
pub one_more : {A B C : Type 0} (first : A → ℕ) (rest : B → ℕ) (all : C → ℕ) (s : List ℕ) (p : Parsed A) (q : List ℕ → Parsed B) (join : A → B → C) {t : Taken} {m l : ℕ} →
    ((a : A) (b : B) → all (join a b) ≡ first a + rest b) → t ≡ Bytes m l → t ≡ taken first p →
    taken all (and_then s p λ a s. and_then s (q s) λ b s. got (join a b) 0) ≡ plus m l (taken rest (q (drop m s)))
one_more first rest all s p q join {t} {m} {l} j e h =
    let g : Got first p m l = was_got first p e h in
    let x : ℕ = first g.tree in
    let u : Taken = taken rest (q (drop m s)) in
    goes_on first all s p _ g
    ∙ ap (plus m 0) (ends_with rest all (drop m s) (q (drop m s)) (join g.tree) x (j g.tree))
    ∙ plus_plus m 0 0 x u
    ∙ ap₂ (λ a b. plus a b u) (omega arith) (omega (arith, g.count))

-- What follows the bytes of an answer.
abbrev pub onward : Taken → (ℕ → Taken) → Taken
onward (Bytes m l) f = plus m l (f m)
onward (Fault r p) f = Fault r p

pub plus_onward : (n l : ℕ) (t : Taken) (f g : ℕ → Taken) → ((i : ℕ) → g i ≡ f (n + i)) → plus n l (onward t g) ≡ onward (plus n l t) f
plus_onward n l (Bytes m k) f g h = plus_plus n l m k (g m) ∙ ap (plus (n + m) (l + k)) (h m)
plus_onward n l (Fault r p) f g h = refl

-- Behind two bytes.
pub two_bytes : {A B : Type 0} (f : A → ℕ) (g : B → ℕ) (p : Parsed A) (q : Parsed B) → taken f p ≡ taken g q → taken g (more 2 q) ≡ taken f (more 1 (more 1 p))
two_bytes f g p q e = rw (taken_more g 2 q, taken_more f 1 (more 1 p), taken_more f 1 p, e) (sym (plus_plus 1 0 1 0 (taken g q)))

-- Behind k bytes and a part that was read, or that broke a rule.
pub behind : {A B : Type 0} (one : A → ℕ) (all : B → ℕ) (k : ℕ) (s : List ℕ) (p : Parsed A) (g : A → List ℕ → Parsed B) {n l : ℕ} → (h : Got one p n l) →
    taken all (more k (and_then (drop k s) p g)) ≡ plus (k + n) 0 (taken all (g h.tree (drop (k + n) s)))
behind one all k s p g {n} h =
    taken_more all k _ ∙ ap (plus k 0) (goes_on one all (drop k s) p g h)
    ∙ rw drop-drop (plus_plus k 0 n 0 (taken all (g h.tree (drop (k + n) s))))

pub goes_behind : {A B : Type 0} (one : A → ℕ) (all : B → ℕ) (k : ℕ) (s : List ℕ) (p : Parsed A) (g : A → List ℕ → Parsed B) {m n l : ℕ} → m ≡ k + n → (h : Got one p n l) →
    taken all (more k (and_then (drop k s) p g)) ≡ plus m 0 (taken all (g h.tree (drop m s)))
goes_behind one all k s p g e h = rw e (behind one all k s p g h)

pub stops_behind : {A B : Type 0} (one : A → ℕ) (all : B → ℕ) (k : ℕ) (s : List ℕ) (p : Parsed A) (g : A → List ℕ → Parsed B) {t : Taken} {r q : ℕ} →
    t ≡ Fault r q → t ≡ taken one p → plus k 0 t ≡ taken all (more k (and_then s p g))
stops_behind one all k s p g e h = ap (plus k 0) (stops one all s p g e h) ∙ sym (taken_more all k _)
