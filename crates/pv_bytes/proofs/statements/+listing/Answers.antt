use denote.Param.Weighed.{most}
use Rattle.pv_tree.specs.declared.stmt.Stmt.{size-Stmt}
use Rattle.std.proofs.Common.{arith, ◌+◌, ◌*◌, ◌<◌, refl, ap, sym, ◌∙◌, map}
use Rattle.std.specs.Prelude.{option_map}
use Rattle.pv_tree.specs.View.{expr_tree, stmt_tree, stmts_of, arms_of, branches_of, else_of}
use Rattle.pv_bytes.specs.Statements.{within, listed, within_arms, within_branches, within_else}
use Rattle.pv_tree.proofs.ForCallers.{stmt-if, stmt-case}
use Rattle.pv_bytes.proofs.Listing.{next_stmt, next_arm, next_branch, branch_smaller}
use Rattle.pv_bytes.proofs.statements.+listing.Goals as goal

pub push_statements-loop-stmt-preserved : goal.push_statements-loop-stmt-preserved
push_statements-loop-stmt-preserved t c =
    next_stmt c.args.stmts.now c.loop-stmt.stmt-index _ c.stmt-item.result (map (λ s. stmt_tree s.now) c.loop-stmt.list.items)
    (map (λ s. stmt_tree s.now) c.push_within.new.list.items) _ stmt_tree c.loop-stmt-test.true c.stmt-item.is refl
    (c.in_ok-push_within.ensures ∙ ap (λ l. within l (stmt_tree c.stmt-item.result)) c.in_ok-push_one.ensures)
    c.loop-stmt.invariant

pub push_within-loop-arm-init : goal.push_within-loop-arm-init
push_within-loop-arm-init t c =
    let old = map (λ s. stmt_tree s.now) c.args.list.now.items in
    let other = else_of (option_map (λ o. stmts_of (map stmt_tree o.value.items)) c.in-If.other) in
    ap (λ l. within_else (within_arms old (arms_of (map (λ a. (expr_tree a.0, stmts_of (map stmt_tree a.1.items))) l))) other)
    c.deref-arm-items.ensures.value
    ∙ ap (within old) (sym (ap stmt_tree c.in-If.is ∙ stmt-if c.in-If.arms c.in-If.other c.in-If.place))

pub push_within-loop-arm-preserved : goal.push_within-loop-arm-preserved
push_within-loop-arm-preserved t c =
    let old = map (λ s. stmt_tree s.now) c.loop-arm.list.items in
    next_arm c.deref-arm-items.result.now c.loop-arm.arm-index _ c.arm-item.result old
    (map (λ s. stmt_tree s.now) c.push_statements.new.list.items) _ (λ a. (expr_tree a.0, stmts_of (map stmt_tree a.1.items)))
    (else_of (option_map (λ o. stmts_of (map stmt_tree o.value.items)) c.in-If.other)) c.loop-arm-test.true c.arm-item.is refl
    (c.in_ok-push_statements-in-If.ensures ∙ ap (λ l. listed old (stmts_of (map stmt_tree l))) c.as_slice.ensures.value)
    c.loop-arm.invariant

pub push_within-loop-branch-init : goal.push_within-loop-branch-init
push_within-loop-branch-init t c =
    let old = map (λ s. stmt_tree s.now) c.args.list.now.items in
    let other = else_of (option_map (λ o. stmts_of (map stmt_tree o.value.items)) c.in-Case.other) in
    ap (λ l. within_else (within_branches old (branches_of (map (λ b. (b.0.items, stmts_of (map stmt_tree b.1.items))) l))) other)
    c.deref-branch-items.ensures.value
    ∙ ap (within old)
    (sym (ap stmt_tree c.in-Case.is ∙ stmt-case c.in-Case.selector c.in-Case.branches c.in-Case.other c.in-Case.place))

pub push_within-loop-branch-preserved : goal.push_within-loop-branch-preserved
push_within-loop-branch-preserved t c =
    let old = map (λ s. stmt_tree s.now) c.loop-branch.list.items in
    next_branch c.deref-branch-items.result.now c.loop-branch.branch-index _ c.branch-item.result old
    (map (λ s. stmt_tree s.now) c.push_statements-in-loop-branch.new.list.items) _
    (λ b. (b.0.items, stmts_of (map stmt_tree b.1.items))) (else_of (option_map (λ o. stmts_of (map stmt_tree o.value.items)) c.in-Case.other))
    c.loop-branch-test.true c.branch-item.is refl
    (c.in_ok-push_statements-in-Case.ensures
    ∙ ap (λ l. listed old (stmts_of (map stmt_tree l))) c.as_slice-in-loop-branch.ensures.value)
    c.loop-branch.invariant

pub push_within-push_statements-requires-in-loop-branch : goal.push_within-push_statements-requires-in-loop-branch
push_within-push_statements-requires-in-loop-branch t c =
    let smaller = branch_smaller c.args.stmt.now c.in-Case.selector c.in-Case.branches c.in-Case.other c.in-Case.place c.in-Case.is
    c.deref-branch-items.result.now c.deref-branch-items.ensures.value c.loop-branch.branch-index c.branch-item.result c.loop-branch-test.true
    c.branch-item.is c.as_slice-in-loop-branch.result.now c.as_slice-in-loop-branch.ensures.value in
    let less : 2 * most size-Stmt c.as_slice-in-loop-branch.result.now + 1 < t = omega (arith, smaller, c.decreases) in
    (less, tt)
