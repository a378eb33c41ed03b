-- What the reader gives satisfies P: one law for each way in which it reads. A fault satisfies every P.
use mathlib.Core.Bool.{Bool, true, false}
use mathlib.Core.List.{List, [], ◌∷◌}
use Prim.Native.Nat.{ℕ, zero, suc}
use lib.ListN.{drop}
use Rattle.meaning.specs.Tree.{Cmd}
use Rattle.meaning.proofs.Cases.{by_test}
use Rattle.meaning.specs.Reading.{Parsed, got, bad, more, and_then, next, passing, until}

pub data Gives {A : Type 0} (P : A → Type 0) : Parsed A → Type 0 where
  well : {a : A} {n : ℕ} → P a → Gives P (got a n)
  ill : {r n : ℕ} → Gives P (bad r n)

pub gives_more : {A : Type 0} {P : A → Type 0} {x : Parsed A} (n : ℕ) → Gives P x → Gives P (more n x)
unfolding more
gives_more n (well h) = well h
gives_more n ill = ill

pub gives_then : {A B : Type 0} {P : A → Type 0} {Q : B → Type 0} {x : Parsed A} {g : A → List ℕ → Parsed B} (s : List ℕ) →
    Gives P x → ((a : A) (s : List ℕ) → P a → Gives Q (g a s)) → Gives Q (and_then s x g)
unfolding and_then
gives_then s (well {a = a} {n = n} h) k = gives_more n (k a (drop n s) h)
gives_then s ill k = ill

pub gives_next : {A : Type 0} {P : A → Type 0} {g : ℕ → List ℕ → Parsed A} (s : List ℕ) → ((b : ℕ) (s : List ℕ) → Gives P (g b s)) → Gives P (next s g)
unfolding next
gives_next [] k = ill
gives_next (b ∷ s) k = k b s

pub gives_passing : {A : Type 0} {P : A → Type 0} {x : Parsed A} (t : Bool) (r : ℕ) → Gives P x → Gives P (passing t r x)
unfolding passing
gives_passing true r h = gives_more 1 h
gives_passing false r h = ill

pub gives_got : {A B : Type 0} {P : A → Type 0} {Q : B → Type 0} {x : Parsed A} {g : A → ℕ → Parsed B} → Gives P x →
    ((a : A) (n : ℕ) → P a → Gives Q (g a n)) → Gives Q (elim x [ bad r n ↦ bad r n | got a n ↦ g a n ])
gives_got (well {a = a} {n = n} h) k = k a n h
gives_got ill k = ill

-- Ordinary commands, then what ends them.
pub gives_until : {B : Type 0} {C : Cmd → Type 0} {Q : B → Type 0} (ends : ℕ → Bool) {last : List ℕ → Parsed B} {one : List ℕ → Parsed Cmd} {join : Cmd → B → B} →
    ((s : List ℕ) → Gives Q (last s)) → ((s : List ℕ) → Gives C (one s)) → ((c : Cmd) (b : B) → C c → Q b → Q (join c b)) →
    (n : ℕ) (s : List ℕ) → Gives Q (until ends last one join n s)
unfolding until
gives_until ends l o j zero s = ill
gives_until ends l o j (suc n) [] = ill
gives_until {Q = Q} ends l o j (suc n) (k ∷ s) =
    by_test (Gives Q) (ends k) (λ e. l (k ∷ s))
    λ e. gives_then (k ∷ s) (o (k ∷ s)) λ c s h. gives_then s (gives_until ends l o j n s) λ r s h'. well (j c r h h')

-- What was read satisfies P.
pub gives_well : {A : Type 0} {P : A → Type 0} {a : A} {n : ℕ} → Gives P (got a n) → P a
gives_well (well h) = h
