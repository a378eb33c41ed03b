-- What the code answers for a book: the definition's reading without its tree.
use Rattle.std.specs.Prelude.{◌≡◌, true, List, ℕ, ◌≤◌, length, Result, Ok, Err}
use Rattle.meaning.specs.Limits.{most_bytes}
use Rattle.meaning.specs.Flow.{size}
use Rattle.meaning.specs.Reading.{Reading, refused, readable, contents, entries, arities, bodies, whole_bodies}
use Rattle.refusals.specs.declared.Refusal.{Refusal}
use Rattle.book.specs.Faults.{number}
use Rattle.book.specs.declared.verdict.Unreadable.{Unreadable}
use Rattle.book.specs.declared.verdict.Unreadable.TheVariants.{Length, Contents, Body, Loops}

-- The size of a readable book's summary; or the refusal's number, and for a body that breaks a rule the reason and the place.
pub data Verdict : Type 0 where
  Readable : ℕ → Verdict
  Refused : ℕ → ℕ → ℕ → Verdict

-- What the code's answer says, in the numbers of the rules.
abbrev pub told : Result ℕ Unreadable → Verdict
told (Ok n) = Readable n
told (Err Length) = Refused 1 0 0
told (Err Contents) = Refused 2 0 0
told (Err (Body f)) = Refused 3 (number f.reason) f.place
told (Err Loops) = Refused 4 0 0

unfoldable pub verdict_of : Reading → Verdict
verdict_of (readable b) = Readable (size b)
verdict_of (refused f) = Refused f.number f.reason f.place

-- The verdict on the bodies and the loops.
abbrev pub bodies_verdict : List ℕ → Verdict
bodies_verdict b = verdict_of (whole_bodies (bodies b (arities (entries b)) (entries b)))

-- The book's length is allowed, and its contents keep every rule.
pub record Opened (b : List ℕ) : Type 0 where
  pub some : 1 ≤ length b
  pub few : length b ≤ most_bytes
  pub kept : contents b ≡ true

-- The refusal by which other crates know it.
abbrev pub refusal_of : Unreadable → Refusal
refusal_of Length = Refusal.Length
refusal_of Contents = Refusal.Contents
refusal_of (Body f) = Refusal.Body
refusal_of Loops = Refusal.Loops
