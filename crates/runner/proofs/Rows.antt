-- Parts in a row: taken apart, put together, and within the book.
use Rattle.std.proofs.Common.{◌≡◌, ℕ, zero, suc, ◌+◌, ◌-◌, ◌<◌, ◌≤◌, List, length, sym, refl, suc-add, zero-add, arith, w64, Fits}
use Rattle.meaning.specs.Tree.{Args, nil, arg}
use Rattle.meaning.specs.Reading.{Scope}
use Rattle.book.proofs.Text.{ArgsAt}
use Rattle.runner.specs.Opened.{in_scope}
use Rattle.runner.specs.Skipping.{SomeExpr, InRow, RowPre, RowPost, PartPre, HeadPost}
use Rattle.runner.specs.Spanning.{Spanned}
use Rattle.runner.specs.declared.skip.Head.{Head}

pub no_parts : (P : ℕ → ℕ → Type 0) {at next : ℕ} → next ≡ at → InRow P 0 at next
unfolding InRow
no_parts P e = e

pub one_part : (P : ℕ → ℕ → Type 0) {at next : ℕ} → P at next → InRow P 1 at next
unfolding InRow
one_part P {at} {next} x = (next, x, refl)

pub two_parts : (P : ℕ → ℕ → Type 0) {at mid next : ℕ} → P at mid → P mid next → InRow P 2 at next
unfolding InRow
two_parts P {at} {mid} {next} x y = (mid, x, (next, y, refl))

pub rows_append : (P : ℕ → ℕ → Type 0) (j k at mid next : ℕ) → InRow P j at mid → InRow P k mid next → InRow P (j + k) at next
unfolding InRow
rows_append P zero k at mid next x y = rw (zero-add k, ← x) y
rows_append P (suc j) k at mid next x y =
    rw (suc-add j k) (x.0, x.1, rows_append P j k x.0 mid next x.2 y)

-- The first part of a row that has one, and the rest.
pub record Headed (P : ℕ → ℕ → Type 0) (k at next : ℕ) : Type 0 where
  pub mid : ℕ
  pub head : P at mid
  pub rest : InRow P (k - 1) mid next

pub headed : (P : ℕ → ℕ → Type 0) (k at next : ℕ) → InRow P k at next → 0 < k → Headed P k at next
unfolding InRow
headed P zero at next x h = absurd (omega arith)
headed P (suc k) at next x h =
    let e : suc k - 1 ≡ k = omega arith in
    record { mid = x.0; head = x.1; rest = rw e x.2 }

pub row_ends : (P : ℕ → ℕ → Type 0) (k at next : ℕ) → InRow P k at next → k ≤ 0 → at ≡ next
unfolding InRow
row_ends P zero at next x h = sym x
row_ends P (suc k) at next x h = absurd (omega arith)

-- A row has no more parts than bytes.
row_few : (b : List ℕ) (P : Scope → ℕ → ℕ → Type 0) → Spanned b P → (v : Scope) (k at next : ℕ) →
    InRow (P v) k at next → k + at ≤ next
unfolding InRow
row_few b P s v zero at next x = omega arith
row_few b P s v (suc k) at next x =
    let h = s.spans v at x.0 x.1 in
    let l = row_few b P s v k x.0 next x.2 in
    omega arith

row_within : (b : List ℕ) (P : Scope → ℕ → ℕ → Type 0) → Spanned b P → (v : Scope) (k at next : ℕ) →
    InRow (P v) k at next → at ≤ length b → next ≤ length b
unfolding InRow
row_within b P s v zero at next x l = omega arith
row_within b P s v (suc k) at next x l =
    let h = s.spans v at x.0 x.1 in
    row_within b P s v k x.0 next x.2 h.within

-- The parts inside a part are no more than the book's bytes.
pub head_few : {b : List ℕ} (P Q : Scope → ℕ → ℕ → Type 0) {at : ℕ} {h : Head} → Spanned b P → Spanned b Q →
    PartPre P b at → HeadPost P Q b at h → h.more ≤ length b
head_few {b} P Q {at} {h} s t x post =
    let v = in_scope b x.variables in
    let a = s.spans v at x.next x.part in
    let f = row_few b Q t v h.more h.next x.next (post.rest x.variables x.next x.part) in
    omega arith

-- A call's arguments are a row of expressions.
pub args_row : (es : Args) (b : List ℕ) (v : Scope) (n at next : ℕ) → ArgsAt es b v n at next → InRow (SomeExpr b v) n at next
unfolding ArgsAt InRow
args_row nil b v n at next x = rw x.none x.ends
args_row (arg e es) b v n at next x =
    rw x.some (
      x.mid,
      record { here = record { tree = e; next = x.mid; is = x.head }; ends = refl },
      args_row es b v x.fewer x.mid next x.rest,
    )

-- The loop that passes over a row: what was a row at the start is one still.
pub record Passing (P : Scope → ℕ → ℕ → Type 0) (b : List ℕ) (at₀ count₀ at count : ℕ) : Type 0 where
  pub pre : RowPre P b at₀ count₀
  pub spanned : Spanned b P
  pub still : (n next : ℕ) → InRow (P (in_scope b n)) count₀ at₀ next → InRow (P (in_scope b n)) count at next

pub passing_start : {P : Scope → ℕ → ℕ → Type 0} {b : List ℕ} {at count : ℕ} → Spanned b P → RowPre P b at count →
    Passing P b at count at count
passing_start s r = record { pre = r; spanned = s; still = λ n next x. x }

record Turned (b : List ℕ) (at count : ℕ) (h : Head) : Type 0 where
  few : count - 1 + h.more ≤ length b
  less : length b - h.next < length b - at

-- A turn of the loop: the first part is there, and after its head the rest is a row, shorter in bytes.
module _ {P : Scope → ℕ → ℕ → Type 0} {b : List ℕ} {at₀ count₀ at count : ℕ} where
  pub passing_part : Passing P b at₀ count₀ at count → 0 < count → PartPre P b at
  passing_part i h =
      let r = i.pre in
      let x = headed (P (in_scope b r.variables)) count at r.next (i.still r.variables r.next r.row) h in
      record { book = r.book; variables = r.variables; next = x.mid; part = x.head }

  pub passing_on : {h : Head} → Passing P b at₀ count₀ at count → 0 < count → HeadPost P P b at h →
      Passing P b at₀ count₀ h.next (count - 1 + h.more)
  passing_on {h} i l post =
      record {
        pre = i.pre;
        spanned = i.spanned;
        still =
            λ n next x.
            let y = headed (P (in_scope b n)) count at next (i.still n next x) l in
            let z = post.rest n y.mid y.head in
            let e : count - 1 + h.more ≡ h.more + (count - 1) = omega arith in
            rw e (rows_append (P (in_scope b n)) h.more (count - 1) h.next y.mid next z y.rest);
      }

  turned : {h : Head} → Passing P b at₀ count₀ at count → 0 < count → HeadPost P P b at h → Turned b at count h
  turned {h} i l post =
      let r = i.pre in
      let s = i.spanned in
      let v = in_scope b r.variables in
      let y = headed (P v) count at r.next (i.still r.variables r.next r.row) l in
      let z = (passing_on {h = h} i l post).still r.variables r.next r.row in
      let a = s.spans v at y.mid y.head in
      let f = row_few b P s v (count - 1 + h.more) h.next r.next z in
      let w = row_within b P s v (count - 1) y.mid r.next y.rest a.within in
      let o = post.on in
      record { few = omega arith; less = omega arith }

  pub passing_fits : {h : Head} → Passing P b at₀ count₀ at count → 0 < count → HeadPost P P b at h →
      Fits w64 (count - 1 + h.more)
  passing_fits i l post = let t = turned i l post in let f = i.pre.book.facts in omega arith

  pub passing_less : {h : Head} → Passing P b at₀ count₀ at count → 0 < count → HeadPost P P b at h →
      length b - h.next < length b - at
  passing_less i l post = (turned i l post).less

  pub passing_done : Passing P b at₀ count₀ at count → count ≤ 0 → RowPost P b at₀ count₀ at
  passing_done i l = record { past = λ n next x. row_ends (P (in_scope b n)) count at next (i.still n next x) l }
