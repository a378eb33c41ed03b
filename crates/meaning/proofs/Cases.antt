-- What a choice gives satisfies T where each way does, knowing how the test went.
use mathlib.Core.Path.{◌≡◌, refl}
use mathlib.Core.Bool.{Bool, true, false}
use mathlib.Core.Option.{Option, some, none}

pub by_test : {A : Type 0} (T : A → Type 0) {x y : A} (t : Bool) → (t ≡ true → T x) → (t ≡ false → T y) → T (elim t [ true ↦ x | false ↦ y ])
by_test T true h k = h refl
by_test T false h k = k refl

pub by_some : {A B : Type 0} (T : A → Type 0) {x : A} {g : B → A} (o : Option B) → (o ≡ none → T x) → ((b : B) → o ≡ some b → T (g b)) →
    T (elim o [ none ↦ x | some b ↦ g b ])
by_some T none h k = h refl
by_some T (some b) h k = k b refl
