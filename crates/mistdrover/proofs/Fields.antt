-- What C is told of a result, whose fields stand in three numbers.
use mathlib.Core.Path.{◌≡◌, refl}
use mathlib.Core.List.{List}
use Prim.Native.Nat.{ℕ}
use Rattle.std.specs.Prelude.{Result, Ok, Err}
use Rattle.std.specs.Result.{MatchResult, IsOkAnd}
use Rattle.refusals.specs.declared.Refusal.{Refusal}
use Rattle.refusals.specs.Numbers.{refusal, field}
use Rattle.mistdrover.specs.Face.{eight}

abbrev pub Three : Type 0
Three = ℕ × ℕ × ℕ

-- A field that is 0, or not there.
pub no_field : {A : Type 0} (r : Result A Refusal) → field (λ a. 0) r ≡ 0
no_field (Ok a) = refl
no_field (Err e) = refl

-- The number and the answer of a result, by those of the three numbers that it was mapped to.
module _ {A : Type 0} (f : A → Three) {L : A → Three → Type 0} (maps : (a : A) (l : Three) → L a l → l ≡ f a) where
  pub told_as : (r : Result A Refusal) (q : Result Three Refusal) {n : ℕ} {answer : List ℕ} →
      MatchResult r (λ a. IsOkAnd q (L a)) (λ e. q ≡ Err e) →
      n ≡ refusal q → answer ≡ eight (field (λ l. l.0) q) (field (λ l. l.1) q) (field (λ l. l.2) q) →
      (n ≡ refusal r)
      × (answer ≡ eight (field (λ a. (f a).0) r) (field (λ a. (f a).1) r) (field (λ a. (f a).2) r))
  told_as (Ok a) (Ok l) h e g = let s : l ≡ f a = maps a l h in (e, rw s at g)
  told_as (Ok a) (Err d) h e g = absurd h
  told_as (Err d) q h e g = (rw h at e, rw h at g)
