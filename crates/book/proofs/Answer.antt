-- What the reader's answer tells: whether the bytes are readable.
use mathlib.Core.Path.{◌≡◌, refl, ◌∙◌}
use mathlib.Core.List.{List}
use Prim.Native.Nat.{ℕ}
use native.Mathlib.Omega.{arith}
use Rattle.meaning.specs.Reading.{Fault, Reading, refused, readable, read}
use Rattle.meaning.specs.Answers.{read_answer}
use Rattle.std.specs.Prelude.{Result, Ok, Err}
use Rattle.refusals.specs.declared.Refusal.{Refusal}
use Rattle.refusals.specs.Numbers.{number, refusal, field}
use Rattle.refusals.proofs.OneNumber.{one_answer}
use Rattle.book.specs.declared.verdict.Unreadable.{Unreadable}
use Rattle.book.specs.declared.verdict.Unreadable.TheVariants.{Length, Contents, Body, Loops}
use Rattle.book.specs.Verdict.{Readable, Refused, told, verdict_of, refusal_of}
use Rattle.meaning.specs.Entries.{Reads}
use Rattle.meaning.proofs.Readable.{refused_number}
use Rattle.meaning.proofs.OneAnswer.{one_read}
use Rattle.book.specs.Here.{Sized}

-- From the verdict to the answer.
module _ (b : List ℕ) where
  pub reads_size : {s : ℕ} → told (Ok s) ≡ verdict_of (read b) → Reads b 0 s
  unfolding read_answer verdict_of
  reads_size {s} e = go (read b) refl e
    where
      go : (x : Reading) → read b ≡ x → Readable s ≡ verdict_of x → Reads b 0 s
      go (refused g) q h = let z : ◌≡◌ {A = ℕ} 0 1 = cc in absurd (omega arith)
      go (readable c) q h = record { refusal_is = rw (q, read_answer); size_is = rw (q, read_answer) cc }

  pub reads_refused : {n r p : ℕ} → Refused n r p ≡ verdict_of (read b) → Reads b n 0
  unfolding read_answer verdict_of
  reads_refused {n} {r} {p} h = go (read b) refl h
    where
      go : (x : Reading) → read b ≡ x → Refused n r p ≡ verdict_of x → Reads b n 0
      go (refused g) q h = record { refusal_is = rw (q, read_answer) cc; size_is = rw (q, read_answer) }
      go (readable c) q h = let z : ◌≡◌ {A = ℕ} 0 1 = cc in absurd (omega arith)

  pub reads_refusal : (u : Unreadable) {r : Refusal} → told (Err u) ≡ verdict_of (read b) → r ≡ refusal_of u → Reads b (number r) 0
  reads_refusal u {r} e i = rw i (go u e)
    where
      go : (u : Unreadable) → told (Err u) ≡ verdict_of (read b) → Reads b (number (refusal_of u)) 0
      go Length h = reads_refused h
      go Contents h = reads_refused h
      go (Body f) h = reads_refused h
      go Loops h = reads_refused h

-- The answer without a refusal: the bytes are readable, and the size is their book's.
pub accepted : {bytes : List ℕ} {s : ℕ} → Reads bytes 0 s → Sized bytes s
unfolding read_answer
accepted {bytes} {s} h = go (read bytes) refl
  where
    go : (x : Reading) → read bytes ≡ x → Sized bytes s
    go (refused f) q =
        let e : 0 ≡ f.number = rw (q, read_answer) at h.refusal_is in
        let m = refused_number bytes q in
        absurd (omega arith)
    go (readable b) q = record { book = record { book = b; is = q }; size_is = rw (q, read_answer) at h.size_is }

-- A refusal is the definition's.
pub record Rejected (bytes : List ℕ) (r : ℕ) : Type 0 where
  pub fault : Fault
  pub is : read bytes ≡ refused fault
  pub number : r ≡ fault.number

pub rejected : {bytes : List ℕ} {r s : ℕ} → Reads bytes r s → (r ≡ 0 → ⊥) → Rejected bytes r
unfolding read_answer
rejected {bytes} {r} {s} h n = go (read bytes) refl
  where
    go : (x : Reading) → read bytes ≡ x → Rejected bytes r
    go (refused f) q = record { fault = f; is = q; number = rw (q, read_answer) at h.refusal_is }
    go (readable b) q = absurd (n (rw (q, read_answer) at h.refusal_is))

-- And back: of a readable book the reader answers its size.
pub sized_read : {bytes : List ℕ} {s : ℕ} → Sized bytes s → Reads bytes 0 s
unfolding read_answer
sized_read y = record { refusal_is = rw (y.book.is, read_answer); size_is = y.size_is ∙ rw (y.book.is, read_answer) }

-- As `one_read` has it of the numbers, of the answer itself.
pub one_read_answer : {bytes : List ℕ} (r s : Result ℕ Refusal) → Reads bytes (refusal r) (field (λ n. n) r) →
    Reads bytes (refusal s) (field (λ n. n) s) → r ≡ s
one_read_answer r s x y = let o = one_read x y in one_answer r s o.0 (λ a b p q. rw (p, q) at o.1)
