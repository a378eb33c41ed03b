-- The proof of the run's cycle: each member at its measure.
-- Assumes nothing.
use Rattle.runner.proofs.Commands.{assign_form, branch_form, cmd_none, cmd_stepped, loop_falls, loop_form, spent_falls}
use Rattle.std.proofs.Common.{refl, arith}
use Rattle.runner.proofs.Sequences.{command_falls, command_pre, commands_stopped, ended_by_closing, ended_by_stop, going_less, going_on, going_start}
use Rattle.runner.proofs.Exprs.{applied, left_falls, left_pre, left_stopped, right_falls, right_pre}
use Rattle.runner.proofs.Commands.{assign_cell, assign_done, assign_falls, assign_pre, assign_stopped, assign_there}
use Rattle.std.proofs.Common.{arith}
use Rattle.runner.proofs.Calls.{body_done, body_falls, body_pre}
use Rattle.runner.proofs.Commands.{branch_done, branch_falls, branch_jump, branch_pre, branch_stopped, taken_falls, taken_pre}
use Rattle.runner.proofs.Calls.{args_falls, args_pre, call_done, call_falls, call_fits, call_pre, call_stopped, call_within}
use Rattle.runner.proofs.Calls.{enter_deep, rest_falls, rest_pre}
use Rattle.runner.proofs.Exprs.{eval_leaf, eval_none, form_falls, form_pre, leaf_pre}
use Rattle.runner.proofs.Closings.{closing_start, finish_spent, give_done, last_falls, last_pre, lead_falls, lead_less, lead_on, lead_pre, lead_stopped, pick_jump, pick_less, pick_on, pick_stopped}
use Rattle.runner.proofs.Calls.{argument_falls, argument_on, argument_pre, arguments_done, arguments_stopped, gathering_start}
use Rattle.runner.proofs.Exprs.{eval_variable, lookup_cell, lookup_fits, same_place}
use Rattle.runner.proofs.Exprs.{operand_small, same_place}
use Rattle.runner.proofs.Exprs.{operation_fits, right_done, right_stopped, second_falls, second_pre}
use Rattle.std.proofs.Common.{refl, arith}
use Rattle.runner.proofs.Turns.{inside_falls, inside_pre, inside_stopped, loop_jump, turn_falls, turn_pre, turning_on, turning_start, turns_done, turns_spent, turns_stopped}
use Rattle.std.proofs.lemmas.Result.{err_from_is_err_and}
use Rattle.runner.proofs.cycle.+running.Goals as goal

pub act-turns-requires : goal.act-turns-requires
act-turns-requires t c = (search loop_falls, search loop_form)

pub act-returns-then-left-eq0 : goal.act-returns-then-left-eq0
act-returns-then-left-eq0 t c = search cmd_none

pub act-assign-requires : goal.act-assign-requires
act-assign-requires t c = (search spent_falls, search assign_form)

pub act-returns-then-k-eq1 : goal.act-returns-then-k-eq1
act-returns-then-k-eq1 t c = search cmd_stepped

pub act-branch-book-requires : goal.act-branch-book-requires
act-branch-book-requires t c = (search spent_falls, search branch_form)

pub act-returns : goal.act-returns
act-returns t c = search cmd_stepped

pub acts-loop-frame-init : goal.acts-loop-frame-init
acts-loop-frame-init t c = (search going_start, refl)

pub acts-returns-then-k-eq0 : goal.acts-returns-then-k-eq0
acts-returns-then-k-eq0 t c = search ended_by_stop

pub acts-returns-then-k-gt3 : goal.acts-returns-then-k-gt3
acts-returns-then-k-gt3 t c = search ended_by_closing

pub acts-act-requires : goal.acts-act-requires
acts-act-requires t c = (search command_falls, search command_pre)

pub acts-returns-in_err-a : goal.acts-returns-in_err-a
acts-returns-in_err-a t c =
    let p = err_from_is_err_and c.from_residual.result c.from_residual.ensures.1 in
    let o = c.in_err-a.field-0.0 in
    rw (p.1, p.2) (search (commands_stopped, c.in_err-a.ensures, o.ended))

pub acts-loop-frame-smaller : goal.acts-loop-frame-smaller
acts-loop-frame-smaller t c = search going_less

pub acts-loop-frame-preserved : goal.acts-loop-frame-preserved
acts-loop-frame-preserved t c = (search (going_on, c.in_ok-a.ensures, c.in_ok-a.a.goes), omega arith)

pub apply-quick-requires : goal.apply-quick-requires
apply-quick-requires t c = (search left_falls, search left_pre)

pub apply-returns-in_err-a : goal.apply-returns-in_err-a
apply-returns-in_err-a t c =
    let p = err_from_is_err_and c.from_residual.result c.from_residual.ensures.1 in
    let o = c.in_err-a.field-0.0 in
    rw (p.1, p.2) (search (left_stopped, c.in_err-a.ensures, o.ended))

pub apply-right-requires : goal.apply-right-requires
apply-right-requires t c = (search (right_falls, c.in_ok-a.ensures), search (right_pre, c.in_ok-a.ensures, c.in_ok-a.a.goes))

pub apply-returns : goal.apply-returns
apply-returns t c = search (applied, c.in_ok-a.ensures)

pub assign-quick-requires : goal.assign-quick-requires
assign-quick-requires t c = (search assign_falls, search assign_pre)

pub assign-returns-in_err-a : goal.assign-returns-in_err-a
assign-returns-in_err-a t c =
    let p = err_from_is_err_and c.from_residual.result c.from_residual.ensures.1 in
    let o = c.in_err-a.field-0.0 in
    rw (p.1, p.2) (search (assign_stopped, c.in_err-a.ensures, o.ended))

pub assign-bounds-book-at : goal.assign-bounds-book-at
assign-bounds-book-at t c = search assign_there

pub assign-bounds-work-x : goal.assign-bounds-work-x
assign-bounds-work-x t c = search assign_cell

pub assign-returns : goal.assign-returns
assign-returns t c = search (assign_done, c.in_ok-a.ensures, c.in_ok-a.a.goes)

pub body-finish-requires : goal.body-finish-requires
body-finish-requires t c = (search body_falls, search body_pre)

pub body-returns : goal.body-returns
body-returns t c = search body_done

pub branch-lookup-requires : goal.branch-lookup-requires
branch-lookup-requires t c = (search branch_falls, search branch_pre)

pub branch-returns-in_err-a : goal.branch-returns-in_err-a
branch-returns-in_err-a t c =
    let p = err_from_is_err_and c.from_residual.result c.from_residual.ensures.1 in
    let o = c.in_err-a.field-0.0 in
    rw (p.1, p.2) (search (branch_stopped, c.in_err-a.ensures, o.ended))

pub branch-taken-start-requires : goal.branch-taken-start-requires
branch-taken-start-requires t c = search branch_jump

pub branch-acts-requires : goal.branch-acts-requires
branch-acts-requires t c =
    let q = c.in_ok-a.ensures in let i = c.value.ensures in let p = c.taken-start.ensures in let k = c.left.ensures in
    (taken_falls c.requires q i p k c.decreases, taken_pre c.requires q i p k)

pub branch-returns : goal.branch-returns
branch-returns t c = search (branch_done, c.in_ok-a.ensures, c.in_ok-a.a.goes)

pub call-bounds-book-at : goal.call-bounds-book-at
call-bounds-book-at t c = search call_fits

pub call-parameters-count-requires : goal.call-parameters-count-requires
call-parameters-count-requires t c = search call_within

pub call-gather-requires : goal.call-gather-requires
call-gather-requires t c = (search args_falls, search args_pre)

pub call-returns-in_err-a : goal.call-returns-in_err-a
call-returns-in_err-a t c =
    let p = err_from_is_err_and c.from_residual.result c.from_residual.ensures.1 in
    let o = c.in_err-a.field-0.0 in
    rw (p.1, p.2) (search (call_stopped, c.in_err-a.ensures, o.ended))

pub call-enter-requires : goal.call-enter-requires
call-enter-requires t c =
    let i = c.number-p.ensures.0 in let n = c.parameters-count.ensures in let q = c.in_ok-a.ensures in let k = c.left.ensures in
    (call_falls c.requires i n q k c.decreases, call_pre c.requires i n q k)

pub call-returns : goal.call-returns
call-returns t c = search (call_done, c.in_ok-a.ensures, c.in_ok-a.a.goes)

pub enter-returns-then-d-eq0 : goal.enter-returns-then-d-eq0
enter-returns-then-d-eq0 t c = search enter_deep

pub enter-body-requires : goal.enter-body-requires
enter-body-requires t c = (search rest_falls, search rest_pre)

pub eval-returns-then-left-eq0 : goal.eval-returns-then-left-eq0
eval-returns-then-left-eq0 t c = search eval_none

pub eval-apply-requires : goal.eval-apply-requires
eval-apply-requires t c = (search form_falls, search form_pre)

pub eval-call-requires : goal.eval-call-requires
eval-call-requires t c = (search form_falls, search form_pre)

pub eval-leaf_value-requires : goal.eval-leaf_value-requires
eval-leaf_value-requires t c = search leaf_pre

pub eval-returns : goal.eval-returns
eval-returns t c = search eval_leaf

pub finish-loop-jumps-init : goal.finish-loop-jumps-init
finish-loop-jumps-init t c = (search closing_start, refl)

pub finish-acts-requires : goal.finish-acts-requires
finish-acts-requires t c = (search lead_falls, search lead_pre)

pub finish-returns-in_err-s : goal.finish-returns-in_err-s
finish-returns-in_err-s t c =
    let p = err_from_is_err_and c.from_residual.result c.from_residual.ensures.1 in
    let o = c.in_err-s.field-0.0 in
    rw (p.1, p.2) (search (lead_stopped, c.in_err-s.ensures, o.ended))

pub finish-loop-jumps-smaller-then-k-lt4 : goal.finish-loop-jumps-smaller-then-k-lt4
finish-loop-jumps-smaller-then-k-lt4 t c = search (lead_less, c.in_ok-s.ensures, c.in_ok-s.s.goes)

pub finish-loop-jumps-preserved-then-k-lt4 : goal.finish-loop-jumps-preserved-then-k-lt4
finish-loop-jumps-preserved-then-k-lt4 t c = (search (lead_on, c.in_ok-s.ensures, c.in_ok-s.s.goes), omega arith)

pub finish-returns-then-left-eq0 : goal.finish-returns-then-left-eq0
finish-returns-then-left-eq0 t c = search finish_spent

pub finish-quick-a-requires : goal.finish-quick-a-requires
finish-quick-a-requires t c = (search last_falls, search last_pre)

pub finish-returns-then-k-eq4 : goal.finish-returns-then-k-eq4
finish-returns-then-k-eq4 t c = search give_done

pub finish-returns-in_err-a : goal.finish-returns-in_err-a
finish-returns-in_err-a t c =
    let p = err_from_is_err_and c.from_residual-in_err-a.result c.from_residual-in_err-a.ensures.1 in
    let o = c.in_err-a.field-0.0 in
    rw (p.1, p.2) (search (pick_stopped, c.in_err-a.ensures, o.ended))

pub finish-picked-at-requires : goal.finish-picked-at-requires
finish-picked-at-requires t c =
    pick_jump c.loop-jumps.invariant.0 c.if-k-lt4.false c.if-left-eq0.false c.in_ok-a.ensures c.if-k-eq4.false

pub finish-loop-jumps-smaller : goal.finish-loop-jumps-smaller
finish-loop-jumps-smaller t c = search (pick_less, c.in_ok-a.ensures)

pub finish-loop-jumps-preserved : goal.finish-loop-jumps-preserved
finish-loop-jumps-preserved t c = (search (pick_on, c.in_ok-a.ensures, c.in_ok-a.a.goes), omega arith)

pub gather-loop-i-init : goal.gather-loop-i-init
gather-loop-i-init t c = (search gathering_start, refl)

pub gather-lookup-requires : goal.gather-lookup-requires
gather-lookup-requires t c = (search argument_falls, search argument_pre)

pub gather-returns-in_err-a : goal.gather-returns-in_err-a
gather-returns-in_err-a t c =
    let p = err_from_is_err_and c.from_residual.result c.from_residual.ensures.1 in
    let o = c.in_err-a.field-0.0 in
    rw (p.1, p.2) (search (arguments_stopped, c.in_err-a.ensures, o.ended))

pub gather-loop-i-preserved : goal.gather-loop-i-preserved
gather-loop-i-preserved t c = (search (argument_on, c.in_ok-a.ensures, c.in_ok-a.a.goes), omega arith)

pub gather-returns : goal.gather-returns
gather-returns t c = search arguments_done

pub lookup-bounds-book-at-then-book-at-eq17 : goal.lookup-bounds-book-at-then-book-at-eq17
lookup-bounds-book-at-then-book-at-eq17 t c = search lookup_fits

pub lookup-bounds-work-x : goal.lookup-bounds-work-x
lookup-bounds-work-x t c = search lookup_cell

pub lookup-returns-then-book-at-eq17 : goal.lookup-returns-then-book-at-eq17
lookup-returns-then-book-at-eq17 t c = search eval_variable

pub lookup-eval-requires : goal.lookup-eval-requires
lookup-eval-requires t c = search same_place

pub quick-returns-in-Some : goal.quick-returns-in-Some
quick-returns-in-Some t c = operand_small c.requires (rw c.in-Some.is at c.small.ensures) c.in-Some.a.goes

pub quick-eval-requires : goal.quick-eval-requires
quick-eval-requires t c = search same_place

pub right-quick-requires : goal.right-quick-requires
right-quick-requires t c = (search second_falls, search second_pre)

pub right-returns-in_err-b : goal.right-returns-in_err-b
right-returns-in_err-b t c =
    let p = err_from_is_err_and c.from_residual.result c.from_residual.ensures.1 in
    let o = c.in_err-b.field-0.0 in
    rw (p.1, p.2) (search (right_stopped, c.in_err-b.ensures, o.ended))

pub right-bounds-book-at : goal.right-bounds-book-at
right-bounds-book-at t c = search operation_fits

pub right-returns : goal.right-returns
right-returns t c = search (right_done, c.in_ok-b.ensures, c.in_ok-b.b.goes)

pub turns-expr_end-inside-requires : goal.turns-expr_end-inside-requires
turns-expr_end-inside-requires t c = search loop_jump

pub turns-loop-left-init : goal.turns-loop-left-init
turns-loop-left-init t c = let e = c.expr_end-inside.ensures in (search turning_start, refl)

pub turns-lookup-requires : goal.turns-lookup-requires
turns-lookup-requires t c = (search turn_falls, search turn_pre)

pub turns-returns-in_err-a : goal.turns-returns-in_err-a
turns-returns-in_err-a t c =
    let p = err_from_is_err_and c.from_residual.result c.from_residual.ensures.1 in
    let o = c.in_err-a.field-0.0 in
    rw (p.1, p.2) (search (turns_stopped, c.in_err-a.ensures, o.ended))

pub turns-returns-then-value-eq0 : goal.turns-returns-then-value-eq0
turns-returns-then-value-eq0 t c =
    turns_done c.loop-left.invariant.0 c.loop-left-test.true c.in_ok-a.ensures c.in_ok-a.a.goes c.value.ensures c.if-value-eq0.true

pub turns-acts-requires : goal.turns-acts-requires
turns-acts-requires t c =
    let p = c.loop-left.invariant.0 in let u = c.loop-left-test.true in let q = c.in_ok-a.ensures in let z = c.in_ok-a.a.goes in let k = c.left.ensures in
    (inside_falls p u q z k c.decreases, inside_pre p u q z k)

pub turns-returns-in_err-s : goal.turns-returns-in_err-s
turns-returns-in_err-s t c =
    let p = err_from_is_err_and c.from_residual-in_err-s.result c.from_residual-in_err-s.ensures.1 in
    let o = c.in_err-s.field-0.0 in
    rw (p.1, p.2) (search (inside_stopped, c.in_ok-a.ensures, c.in_ok-a.a.goes, c.in_err-s.ensures, o.ended))

pub turns-loop-left-preserved : goal.turns-loop-left-preserved
turns-loop-left-preserved t c = (search (turning_on, c.in_ok-a.ensures, c.in_ok-a.a.goes, c.in_ok-s.ensures, c.in_ok-s.s.goes), omega arith)

pub turns-returns : goal.turns-returns
turns-returns t c = search turns_spent
