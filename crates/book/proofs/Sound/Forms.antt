-- Each form has the one code that tells it.
use mathlib.Core.Path.{◌≡◌, refl}
use mathlib.Core.Bool.{Bool, true, false}
use Prim.Native.Nat.{ℕ}
use lib.Dec.{eqb}
use borrow.Author.Tests.{eqb-true}
use Rattle.meaning.specs.Reading.{ExprForm, a_constant, a_variable, an_operation, a_call, no_expression, expr_form}
use Rattle.meaning.specs.Reading.{CmdForm, an_assignment, an_if, a_while, no_command, cmd_form, LastForm, a_return, a_pick, no_closing, last_form}

abbrev pub ExprCode : ℕ → ExprForm → Type 0
ExprCode k a_constant = k ≡ 0x10
ExprCode k a_variable = k ≡ 0x11
ExprCode k an_operation = k ≡ 0x12
ExprCode k a_call = k ≡ 0x13
ExprCode k no_expression = Unit {0}

abbrev pub CmdCode : ℕ → CmdForm → Type 0
CmdCode k an_assignment = k ≡ 0x01
CmdCode k an_if = k ≡ 0x02
CmdCode k a_while = k ≡ 0x03
CmdCode k no_command = Unit {0}

abbrev pub LastCode : ℕ → LastForm → Type 0
LastCode k a_return = k ≡ 0x04
LastCode k a_pick = k ≡ 0x05
LastCode k no_closing = Unit {0}

-- A choice by a code: the form chosen has it, or is one of the others.
chosen : {F : Type 0} (C : F → Type 0) (k code : ℕ) (f g : F) → (k ≡ code → C f) → C g → C (elim (eqb k code) [ true ↦ f | false ↦ g ])
chosen C k code f g h x = go (eqb k code) (eqb-true k code)
  where
    go : (t : Bool) → (t ≡ true → k ≡ code) → C (elim t [ true ↦ f | false ↦ g ])
    go true e = h (e refl)
    go false e = x

pub expr_form_lem : (k : ℕ) → ExprCode k (expr_form k)
unfolding expr_form
expr_form_lem k =
    chosen (ExprCode k) k 0x10 _ _ (λ e. e)
    (chosen (ExprCode k) k 0x11 _ _ (λ e. e) (chosen (ExprCode k) k 0x12 _ _ (λ e. e) (chosen (ExprCode k) k 0x13 a_call no_expression (λ e. e) tt)))

pub cmd_form_lem : (k : ℕ) → CmdCode k (cmd_form k)
unfolding cmd_form
cmd_form_lem k =
    chosen (CmdCode k) k 0x01 _ _ (λ e. e)
    (chosen (CmdCode k) k 0x02 _ _ (λ e. e) (chosen (CmdCode k) k 0x03 a_while no_command (λ e. e) tt))

pub last_form_lem : (k : ℕ) → LastCode k (last_form k)
unfolding last_form
last_form_lem k = chosen (LastCode k) k 0x04 _ _ (λ e. e) (chosen (LastCode k) k 0x05 a_pick no_closing (λ e. e) tt)
