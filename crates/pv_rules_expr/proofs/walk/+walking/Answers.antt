use Rattle.std.proofs.Common.{◌≡◌, refl, sym, ap, ◌∙◌, [], ◌∷◌, map, drop, rules, arith}
use Rattle.std.proofs.lemmas.Grind.{common_steps}
use Rattle.std.proofs.lemmas.Result.{on_ok_weaker}
use Rattle.pv_tree.specs.Types.{sort_of}
use Rattle.pv_tree.specs.View.{expr_tree, exprs_of, operand_tree, step_tree, steps_of}
use Rattle.pv_tree.proofs.ForCallers.{binary_seen, index_seen, paren_seen, read_seen, std_seen, unary_seen}
use Rattle.pv_names.specs.InScope.{scope_of}
use Rattle.pv_names.specs.Sorts.{sort_tree, want_tree}
use Rattle.pv_names.specs.Views.{thing_tree}
use Rattle.pv_names.proofs.ForCallers.{rest_step}
use Rattle.pv_rules_expr.specs.Near.{near_at}
use Rattle.pv_rules_expr.proofs.Along.{args_end, args_step, steps_end, steps_step}
use Rattle.pv_rules_expr.proofs.Walking.{binary_done, index_done, paren_done, read_done, std_done, unary_done}
use Rattle.pv_rules_expr.proofs.walk.+walking.Goals as goal

pub look_along-loop-step-preserved : goal.look_along-loop-step-preserved
look_along-loop-step-preserved t c =
    let items = c.deref-step-items.result.now in
    steps_step c.args.reads (scope_of c.args.scope.now) (operand_tree c.args.operand.now) c.loop-step.last c.last_behind-last.result
    (thing_tree c.loop-step.thing) (thing_tree c.dated-thing.result) (thing_tree c.step-thing.result) c.loop-step.indexed c.in_ok-fits.fits
    c.both-indexed.result (steps_of (map step_tree (drop c.loop-step.step-index items))) _ (step_tree c.step-item.result)
    c.args.near.now c.loop-step.near c.look_in_step.new.near
    (rest_step items c.loop-step.step-index _ c.step-item.result c.loop-step-test.true c.step-item.is refl)
    c.dated-thing.ensures c.last_behind-last.ensures c.step-thing.ensures c.in_ok-fits.ensures.fits c.both-indexed.ensures
    c.in_ok-fits.ensures.near c.loop-step.invariant

pub look_along-returns-clause-near : goal.look_along-returns-clause-near
look_along-returns-clause-near t c = λ what.
    steps_end c.args.reads (scope_of c.args.scope.now) (operand_tree c.args.operand.now) c.loop-step.last (thing_tree c.loop-step.thing)
    (thing_tree c.dated-end.result) c.loop-step.indexed (steps_of (map step_tree (drop c.loop-step.step-index c.deref-step-items.result.now)))
    c.args.near.now c.loop-step.near c.add_end.new.near what (first_of (search rules, grind (arith, common_steps))) c.dated-end.ensures
    c.add_end.ensures c.loop-step.invariant

pub look_in_step-returns-in_ok-sort-in-Index-clause-near : goal.look_in_step-returns-in_ok-sort-in-Index-clause-near
look_in_step-returns-in_ok-sort-in-Index-clause-near t c = λ what.
    let e = c.deref-in-Index-2.result.now in
    index_done c.args.reads (scope_of c.args.scope.now) (thing_tree c.args.thing) (step_tree c.args.step.now) (expr_tree e)
    (expr_tree c.deref.result.now) (expr_tree c.deref-in-Index.result.now) c.in-Index.field-1 c.in_ok-sort-in-Index.sort what
    c.args.near.now c.look_within.new.near c.add_outside.new.near c.add_index.new.near
    (index_seen c.args.step.now c.in-Index.e c.in-Index.field-1 e c.in-Index.is c.deref-in-Index-2.ensures)
    (ap expr_tree (c.deref.ensures ∙ sym c.deref-in-Index-2.ensures))
    (ap expr_tree (c.deref-in-Index.ensures ∙ sym c.deref-in-Index-2.ensures))
    c.in_ok-sort-in-Index.ensures.sort c.in_ok-sort-in-Index.ensures.near c.add_outside.ensures c.add_index.ensures

pub look_within-loop-arg-preserved : goal.look_within-loop-arg-preserved
look_within-loop-arg-preserved t c =
    args_step (scope_of c.args.scope.now) c.deref-arg-items.result.now c.loop-arg.arg-index _ c.arg-item.result c.loop-arg.parts.items _
    c.in_ok-sort-in-Std.sort c.args.near.now c.loop-arg.near c.look_within-in-loop-arg.new.near c.loop-arg-test.true c.arg-item.is refl
    c.in_ok-push-in-Std.ensures.items c.in_ok-sort-in-Std.ensures.sort c.in_ok-sort-in-Std.ensures.near c.loop-arg.invariant

pub look_within-returns-in-Read-clause-near : goal.look_within-returns-in-Read-clause-near
look_within-returns-in-Read-clause-near t c =
    on_ok_weaker c.look_along.result
    (λ h what. read_done (scope_of c.args.scope.now) (expr_tree c.args.e.now) (operand_tree c.in-Read.operand) what (near_at what c.args.near.now)
    (near_at what c.look_along.new.near) (read_seen c.args.e.now c.in-Read.operand c.in-Read.is) (h what))
    c.look_along.ensures.near

pub look_within-returns-in_ok-sort-in-Unary-clause-near : goal.look_within-returns-in_ok-sort-in-Unary-clause-near
look_within-returns-in_ok-sort-in-Unary-clause-near t c = λ what.
    let scope = scope_of c.args.scope.now in
    let arg = c.deref-in-Unary.result.now in
    let again = c.deref.result.now in
    let same = ap expr_tree (c.deref.ensures ∙ sym c.deref-in-Unary.ensures) in
    unary_done scope (expr_tree c.args.e.now) c.in-Unary.op c.in-Unary.place (expr_tree arg) (expr_tree again) what
    (near_at what c.args.near.now) (near_at what c.look_within.new.near) (near_at what c.add_unary.new.near)
    (unary_seen c.args.e.now c.in-Unary.op c.in-Unary.place c.in-Unary.arg arg c.in-Unary.is c.deref-in-Unary.ensures)
    same (c.in_ok-sort-in-Unary.ensures.near what)
    (c.add_unary.ensures.near scope (c.in_ok-sort-in-Unary.ensures.sort ∙ ap (sort_of scope) same) what)

pub look_within-returns-in_ok-other-in-Binary-clause-near : goal.look_within-returns-in_ok-other-in-Binary-clause-near
look_within-returns-in_ok-other-in-Binary-clause-near t c = λ what.
    let scope = scope_of c.args.scope.now in
    let l = c.deref-in-Binary-3.result.now in
    let r = c.deref-in-Binary-4.result.now in
    let left = c.deref-in-Binary.result.now in
    let right = c.deref-in-Binary-2.result.now in
    let pair = sort_tree c.in_ok-one-in-Binary.one ∷ sort_tree c.in_ok-other-in-Binary.other ∷ [] in
    let first : map sort_tree c.as_slice.result.now ≡ pair = first_of (search rules, grind (arith, common_steps)) in
    let second : map sort_tree c.as_slice-in-Binary.result.now ≡ pair = first_of (search rules, grind (arith, common_steps)) in
    binary_done scope (expr_tree c.args.e.now) c.in-Binary.op c.in-Binary.place (expr_tree l) (expr_tree r) (expr_tree left) (expr_tree right)
    c.in_ok-one-in-Binary.one c.in_ok-other-in-Binary.other c.as_slice.result.now c.as_slice-in-Binary.result.now
    (want_tree c.wanted_beside-beside.result) what c.args.near.now c.look_within-in-Binary.new.near c.look_within-in-Binary-2.new.near
    c.add_outside.new.near c.add_outside-in-Binary.new.near c.add_binary.new.near
    (binary_seen c.args.e.now c.in-Binary.op c.in-Binary.place c.in-Binary.left c.in-Binary.right l r c.in-Binary.is
    c.deref-in-Binary-3.ensures c.deref-in-Binary-4.ensures)
    (ap expr_tree (c.deref-in-Binary.ensures ∙ sym c.deref-in-Binary-3.ensures))
    (ap expr_tree (c.deref-in-Binary-2.ensures ∙ sym c.deref-in-Binary-4.ensures))
    c.in_ok-one-in-Binary.ensures.sort c.in_ok-other-in-Binary.ensures.sort first second c.wanted_beside-beside.ensures
    c.in_ok-one-in-Binary.ensures.near c.in_ok-other-in-Binary.ensures.near c.add_outside.ensures c.add_outside-in-Binary.ensures
    c.add_binary.ensures.near

pub look_within-returns-after-loop-arg-clause-sort : goal.look_within-returns-after-loop-arg-clause-sort
look_within-returns-after-loop-arg-clause-sort t c =
    let scope = scope_of c.args.scope.now in
    let items = c.deref-arg-items.result.now in
    c.add_function.ensures.sort scope (exprs_of (map expr_tree items))
    (ap (map sort_tree) c.as_slice-in-Std-4.ensures.value
    ∙ args_end scope items c.loop-arg.arg-index c.loop-arg.parts.items c.args.near.now c.loop-arg.near (omega arith) c.loop-arg.invariant)
    ∙ ap (sort_of scope) (sym (std_seen c.args.e.now c.in-Std.function c.in-Std.place c.in-Std.args items c.in-Std.is c.deref-arg-items.ensures.value))

pub look_within-returns-after-loop-arg-clause-near : goal.look_within-returns-after-loop-arg-clause-near
look_within-returns-after-loop-arg-clause-near t c = λ what.
    let scope = scope_of c.args.scope.now in
    let items = c.deref-arg-items.result.now in
    std_done scope (expr_tree c.args.e.now) c.in-Std.function c.in-Std.place items c.as_slice-in-Std-2.result.now c.loop-arg.parts.items
    c.as_slice-in-Std.result.now c.as_slice-in-Std-3.result.now c.as_slice-in-Std-4.result.now
    (want_tree c.wants_of-wants.result.first) (want_tree c.wants_of-wants.result.others) c.loop-arg.arg-index what
    c.args.near.now c.loop-arg.near c.add_arguments.new.near c.add_function.new.near
    (std_seen c.args.e.now c.in-Std.function c.in-Std.place c.in-Std.args items c.in-Std.is c.deref-arg-items.ensures.value) (omega arith)
    (c.as_slice-in-Std-2.ensures.value ∙ sym c.deref-arg-items.ensures.value) c.as_slice-in-Std.ensures.value c.as_slice-in-Std-3.ensures.value
    c.as_slice-in-Std-4.ensures.value c.loop-arg.invariant c.wants_of-wants.ensures c.add_arguments.ensures c.add_function.ensures.near

pub look_within-returns-in-Paren-clause-near : goal.look_within-returns-in-Paren-clause-near
look_within-returns-in-Paren-clause-near t c =
    on_ok_weaker c.look_within-in-Paren.result
    (λ h what. paren_done (scope_of c.args.scope.now) (expr_tree c.args.e.now) c.in-Paren.field-0 (expr_tree c.deref-in-Paren.result.now) what
    (near_at what c.args.near.now) (near_at what c.look_within-in-Paren.new.near)
    (paren_seen c.args.e.now c.in-Paren.field-0 c.in-Paren.inner c.deref-in-Paren.result.now c.in-Paren.is c.deref-in-Paren.ensures) (h what))
    c.look_within-in-Paren.ensures.near
