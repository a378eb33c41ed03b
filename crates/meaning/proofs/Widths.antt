-- A walk keeps one set for each variable, and a call has one set for each argument.
use mathlib.Core.Path.{◌≡◌, refl, sym, ap, ◌∙◌}
use mathlib.Core.List.{List, [], ◌∷◌}
use Prim.Native.Nat.{ℕ, suc}
use native.Mathlib.Omega.{arith}
use lib.ListN.{length, length-set, length-append, length-replicate}
use Rattle.meaning.specs.Tree.{Args, Cmd, Run, Procedure, variables, nil, arg, assign, branch, loop, stop, then}
use Rattle.meaning.specs.Flow.{Walk, row, joined, flows, after, afters, start_sets}
use Rattle.meaning.proofs.Lists.{length_each}
use Rattle.meaning.proofs.Calls.{count}

pub length_joined : {A : Type 0} (join : A → A → A) (Γ Δ : List A) → length Γ ≡ length Δ → length (joined join Γ Δ) ≡ length Γ
unfolding joined
length_joined join [] Δ e = sym e
length_joined join (s ∷ Γ) [] e = refl
length_joined join (s ∷ Γ) (t ∷ Δ) e = ap suc (length_joined join Γ Δ (omega arith))

pub length_start_sets : (q : Procedure) → length (start_sets q) ≡ variables q
unfolding start_sets
length_start_sets q = simp (length-append, length_each, length-replicate) refl

module _ {A : Type 0} (W : Walk A) where
  pub length_row : (k : ℕ) → length (row W k) ≡ W.width
  unfolding row
  length_row k = length_each W.width (λ i. W.held _)

  pub length_flows : (es : Args) (Γ : List A) → length (flows es W Γ) ≡ count es
  unfolding flows count
  length_flows nil Γ = refl
  length_flows (arg e es) Γ = ap suc (length_flows es Γ)

  mutual
    unfolding after afters

    pub length_after : (c : Cmd) (Γ : List A) (g : A) → length Γ ≡ W.width → length (after c W Γ g) ≡ W.width
    length_after (assign x e) Γ g h = length-set Γ x _ ∙ h
    length_after (branch e s t) Γ g h =
        length_joined W.join _ _ (length_afters s Γ _ h ∙ sym (length_afters t Γ _ h)) ∙ length_afters s Γ _ h
    length_after (loop k e s) Γ g h = length_row k

    pub length_afters : (s : Run) (Γ : List A) (g : A) → length Γ ≡ W.width → length (afters s W Γ g) ≡ W.width
    length_afters stop Γ g h = h
    length_afters (then c s) Γ g h = length_afters s _ g (length_after c Γ g h)
