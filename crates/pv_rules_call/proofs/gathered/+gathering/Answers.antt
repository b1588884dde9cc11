use Rattle.std.proofs.Common.{refl, ap, sym, ◌∙◌, map, max, arith, [], ◌∷◌, ◌++◌}
use denote.Param.Weighed.{most}
use Rattle.pv_tree.specs.declared.stmt.Stmt.TheViews as form
use Rattle.pv_tree.specs.Parts.{a_for, another, spots_of, spots_of_stmts, spots_of_arms, spots_of_branches, spots_of_else}
use Rattle.pv_tree.specs.View.{expr_tree, stmt_tree, stmt_trees}
use Rattle.pv_names.specs.InScope.{scope_of}
use Rattle.pv_tree.proofs.ForCallers.{stmt-if, stmt-case, stmt-for}
use Rattle.pv_rules_expr.proofs.ForCallers.{if_ok}
use Rattle.pv_rules_call.specs.Links.{link_tree}
use Rattle.pv_rules_call.specs.Gathered.{with_spots, arm_trees, branch_trees, other_tree}
use Rattle.pv_rules_call.proofs.Gathering.{stmt-while, stmt-repeat, if_begun, case_begun, in_loop, next_one, next_stmt, under_most, case_falls}
use Rattle.pv_rules_call.proofs.gathered.+gathering.Goals as goal

pub with_links-loop-arm-init : goal.with_links-loop-arm-init
with_links-loop-arm-init t c =
    let here = scope_of c.args.scope.now in
    let old = map link_tree c.args.links.items in
    ap (λ l. with_spots here old (spots_of_arms [] (arm_trees l) ++ spots_of_else [] (other_tree c.in-If.other))) c.deref-arm-items.ensures.value
    ∙ if_begun here [] (stmt_tree c.args.stmt.now) (arm_trees c.in-If.arms.items) (other_tree c.in-If.other) c.in-If.place old
    (ap stmt_tree c.in-If.is ∙ stmt-if c.in-If.arms c.in-If.other c.in-If.place)

pub with_links-loop-branch-init : goal.with_links-loop-branch-init
with_links-loop-branch-init t c =
    let here = scope_of c.args.scope.now in
    let old = map link_tree c.args.links.items in
    ap (λ l. with_spots here old (spots_of_branches [] (branch_trees l) ++ spots_of_else [] (other_tree c.in-Case.other)))
    c.deref-branch-items.ensures.value
    ∙ case_begun here [] (stmt_tree c.args.stmt.now) (expr_tree c.in-Case.selector.value) (branch_trees c.in-Case.branches.items)
    (other_tree c.in-Case.other) c.in-Case.place old
    (ap stmt_tree c.in-Case.is ∙ stmt-case c.in-Case.selector c.in-Case.branches c.in-Case.other c.in-Case.place)

pub with_links-loop-arm-preserved : goal.with_links-loop-arm-preserved
with_links-loop-arm-preserved t c =
    let here = scope_of c.args.scope.now in
    let n = map link_tree c.loop-arm.all.items in
    next_one here (λ a. spots_of_stmts [] (stmt_trees a.1.items)) (λ l. spots_of_arms [] (arm_trees l)) (spots_of_else [] (other_tree c.in-If.other))
    c.deref-arm-items.result.now (λ y ys. refl) c.loop-arm.arm-index _ c.arm-item.result n (map link_tree c.in_ok-all-in-If.all.items) _
    c.loop-arm-test.true c.arm-item.is refl
    (c.in_ok-all-in-If.ensures ∙ ap (λ l. with_spots here n (spots_of_stmts [] (stmt_trees l))) c.as_slice.ensures.value) c.loop-arm.invariant

pub with_links-loop-branch-preserved : goal.with_links-loop-branch-preserved
with_links-loop-branch-preserved t c =
    let here = scope_of c.args.scope.now in
    let n = map link_tree c.loop-branch.all.items in
    next_one here (λ b. spots_of_stmts [] (stmt_trees b.1.items)) (λ l. spots_of_branches [] (branch_trees l)) (spots_of_else [] (other_tree c.in-Case.other))
    c.deref-branch-items.result.now (λ y ys. refl) c.loop-branch.branch-index _ c.branch-item.result n (map link_tree c.in_ok-all-in-Case.all.items) _
    c.loop-branch-test.true c.branch-item.is refl
    (c.in_ok-all-in-Case.ensures ∙ ap (λ l. with_spots here n (spots_of_stmts [] (stmt_trees l))) c.as_slice-in-loop-branch.ensures.value)
    c.loop-branch.invariant

pub with_all_links-loop-stmt-preserved : goal.with_all_links-loop-stmt-preserved
with_all_links-loop-stmt-preserved t c =
    next_stmt (scope_of c.args.scope.now) [] c.args.list.now c.loop-stmt.stmt-index _ c.stmt-item.result (map link_tree c.loop-stmt.all.items)
    (map link_tree c.in_ok-all.all.items) _ c.loop-stmt-test.true c.stmt-item.is refl c.in_ok-all.ensures c.loop-stmt.invariant

pub with_links-returns-in-For : goal.with_links-returns-in-For
with_links-returns-in-For t c =
    let here = scope_of c.args.scope.now in
    let old = map link_tree c.args.links.items in
    if_ok c.with_all_links-in-For.result
    (λ new p. in_loop here (a_for c.in-For.head.value.var ∷ []) (stmt_tree c.args.stmt.now) c.as_slice-in-For.result.now c.in-For.body.items old
    (map link_tree new.items) p c.as_slice-in-For.ensures.value
    (ap (λ s. with_spots here old (spots_of [] s)) (sym (ap stmt_tree c.in-For.is
    ∙ stmt-for c.in-For.head c.in-For.body c.in-For.place))))
    c.with_all_links-in-For.ensures

pub with_links-returns-in-While : goal.with_links-returns-in-While
with_links-returns-in-While t c =
    let here = scope_of c.args.scope.now in
    let old = map link_tree c.args.links.items in
    if_ok c.with_all_links-in-While.result
    (λ new p. in_loop here (another ∷ []) (stmt_tree c.args.stmt.now) c.as_slice-in-While.result.now c.in-While.body.items old
    (map link_tree new.items) p c.as_slice-in-While.ensures.value
    (ap (λ s. with_spots here old (spots_of [] s)) (sym (ap stmt_tree c.in-While.is ∙ stmt-while c.in-While.cond c.in-While.body c.in-While.place))))
    c.with_all_links-in-While.ensures

pub with_links-returns-in-Repeat : goal.with_links-returns-in-Repeat
with_links-returns-in-Repeat t c =
    let here = scope_of c.args.scope.now in
    let old = map link_tree c.args.links.items in
    if_ok c.with_all_links-in-Repeat.result
    (λ new p. in_loop here (another ∷ []) (stmt_tree c.args.stmt.now) c.as_slice-in-Repeat.result.now c.in-Repeat.body.items old
    (map link_tree new.items) p c.as_slice-in-Repeat.ensures.value
    (ap (λ s. with_spots here old (spots_of [] s)) (sym (ap stmt_tree c.in-Repeat.is ∙ stmt-repeat c.in-Repeat.body c.in-Repeat.cond c.in-Repeat.place))))
    c.with_all_links-in-Repeat.ensures

pub with_links-with_all_links-requires-in-loop-branch : goal.with_links-with_all_links-requires-in-loop-branch
with_links-with_all_links-requires-in-loop-branch t c =
    let low = under_most form.size-Stmt (λ b. b.1.items) c.deref-branch-items.result.now c.loop-branch.branch-index c.branch-item.result
    c.as_slice-in-loop-branch.result.now c.loop-branch-test.true c.branch-item.is c.as_slice-in-loop-branch.ensures.value in
    let same = ap (λ l. most (λ b. max 0 (most form.size-Stmt b.1.items)) l) c.deref-branch-items.ensures.value in
    let size = ap form.size-Stmt c.in-Case.is in
    let begun = c.decreases in
    let falls = case_falls c.in-Case.selector c.in-Case.branches c.in-Case.other c.in-Case.place in
    (omega (arith, low, same, size, begun, falls), tt)
