-- The parser's combinators, held to what they read: a part that lies in the book at a place, and what a reading gives from there.
use mathlib.Core.Path.{◌≡◌, refl, sym, ◌∙◌}
use mathlib.Core.Bool.{Bool, true, false}
use mathlib.Core.List.{List, [], ◌∷◌}
use Prim.Native.Nat.{ℕ, zero, suc, ◌+◌, ◌-◌, ◌≤◌, ◌<◌}
use native.Mathlib.Nat.{add_assoc, add-zero}
use native.Mathlib.Omega.{arith}
use lib.ListN.{length, get_or, drop, length-drop}
use lib.Seq.{get_or-drop}
use Rattle.meaning.specs.Tree.{Cmd}
use Rattle.meaning.specs.Reading.{Parsed, got, bad, more, and_then, next, passing, until}
use Rattle.book.proofs.Text.{Coded}

-- The bytes of s stand in b from this place on. A part past the end is empty, and lies anywhere.
pub record Lies (s b : List ℕ) (at : ℕ) : Type 0 where
  pub fits : length s ≤ length b - at
  pub same : (i : ℕ) → i < length s → get_or s i 0 ≡ get_or b (at + i) 0

pub lies_drop : {s b : List ℕ} {at : ℕ} → Lies s b at → (n : ℕ) → Lies (drop n s) b (at + n)
lies_drop {s} {b} {at} l n =
    record {
      fits = simp length-drop (omega arith);
      same = λ i h. get_or-drop n s i 0 ∙ l.same (n + i) (omega (arith, simp length-drop at h)) ∙ rw (add_assoc at n i);
    }

-- The first byte of a part stands at its place.
pub coded : {k : ℕ} {s b : List ℕ} {at : ℕ} → Lies (k ∷ s) b at → Coded b at k
coded {k} {s} {b} {at} l = record { there = omega arith; is = rw (← add-zero at) (sym (l.same 0 (omega arith))) }

-- What is read from this place on, if anything, satisfies P with the place where it ends.
pub data To {A : Type 0} (P : A → ℕ → Type 0) (at : ℕ) : Parsed A → Type 0 where
  gives : (a : A) (n : ℕ) → P a (at + n) → To P at (got a n)
  fails : {r p : ℕ} → To P at (bad r p)

pub gives_all : {A : Type 0} {P : A → ℕ → Type 0} {at : ℕ} {a : A} → P a at → To P at (got a 0)
gives_all {P = P} {at} {a} x = gives a 0 (rw (add-zero at) x)

pub gave : {A : Type 0} {P : A → ℕ → Type 0} {at : ℕ} {o : Parsed A} {a : A} {n : ℕ} → To P at o → o ≡ got a n → P a (at + n)
gave {P = P} {at} {a} {n} (gives c m x) e =
    let p : c ≡ a = cc in
    let q : m ≡ n = cc in
    rw (← p, ← q) x
gave (fails {r} {p}) e = let z : ◌≡◌ {A = ℕ} 0 1 = cc in absurd (omega arith)

pub to_more : {A : Type 0} {P : A → ℕ → Type 0} {at : ℕ} {o : Parsed A} (n : ℕ) → To P (at + n) o → To P at (more n o)
unfolding more
to_more {at} n (gives a m x) = gives a (n + m) (rw (← add_assoc at n m) x)
to_more n fails = fails

pub to_then : {A B : Type 0} {Q : A → ℕ → Type 0} {P : B → ℕ → Type 0} {s b : List ℕ} {at : ℕ} {o : Parsed A} {g : A → List ℕ → Parsed B} →
    Lies s b at → To Q at o → ((a : A) (t : List ℕ) (mid : ℕ) → Lies t b mid → Q a mid → To P mid (g a t)) → To P at (and_then s o g)
unfolding and_then
to_then {s} {at} l (gives a n x) f = to_more n (f a (drop n s) (at + n) (lies_drop l n) x)
to_then l fails f = fails

pub to_next : {A : Type 0} {P : A → ℕ → Type 0} {b : List ℕ} {at : ℕ} {g : ℕ → List ℕ → Parsed A} (s : List ℕ) →
    Lies s b at → ((k : ℕ) (t : List ℕ) → Coded b at k → Lies t b (at + 1) → To P at (g k t)) → To P at (next s g)
unfolding next
to_next [] l f = fails
to_next {b} {at} (k ∷ s) l f = f k s (coded l) (lies_drop l 1)

pub to_passing : {A : Type 0} {P : A → ℕ → Type 0} {at : ℕ} {p : Parsed A} (t : Bool) (r : ℕ) →
    (t ≡ true → To P (at + 1) p) → To P at (passing t r p)
unfolding passing
to_passing true r f = to_more 1 (f refl)
to_passing false r f = fails

-- Commands up to a code that ends them: what holds of the last part, and is kept by each command before it, holds of the whole.
module _
    {B : Type 0}
    (b : List ℕ)
    {ends : ℕ → Bool}
    {last : List ℕ → Parsed B}
    {one : List ℕ → Parsed Cmd}
    {join : Cmd → B → B}
    (P : B → ℕ → ℕ → Type 0)
    (Q : Cmd → ℕ → ℕ → Type 0)
    (of_last : (k : ℕ) (s : List ℕ) (at : ℕ) → ends k ≡ true → Coded b at k → Lies s b at → To (λ r i. P r at i) at (last s))
    (of_one : (s : List ℕ) (at : ℕ) → Lies s b at → To (λ c i. Q c at i) at (one s))
    (of_join : (c : Cmd) (r : B) (at mid i : ℕ) → Q c at mid → P r mid i → P (join c r) at i) where
  pub to_until : (n : ℕ) (s : List ℕ) (at : ℕ) → Lies s b at → To (λ r i. P r at i) at (until ends last one join n s)
  unfolding until
  to_until zero s at l = fails
  to_until (suc n) [] at l = fails
  to_until (suc n) (k ∷ s) at l = go (ends k) refl (λ t mid m. to_until n t mid m)
    where
      go : (t : Bool) → ends k ≡ t → ((u : List ℕ) (mid : ℕ) → Lies u b mid → To (λ r i. P r mid i) mid (until ends last one join n u)) →
          To (λ r i. P r at i) at (until ends last one join (suc n) (k ∷ s))
      go true e rest = rw (e, until) (of_last k (k ∷ s) at e (coded l) l)
      go false e rest =
          rw (e, until)
          (to_then l (of_one (k ∷ s) at l) λ c t mid m x. to_then m (rest t mid m) λ r u i _ y. gives_all (of_join c r at mid i x y))
