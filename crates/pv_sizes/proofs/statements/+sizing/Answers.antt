use Rattle.std.proofs.Common.{◌+◌, ◌*◌, ◌<◌, refl, sym, ap, ◌∙◌, arith}
use denote.Param.Weighed.{most}
use Rattle.pv_tree.specs.declared.stmt.Stmt.{size-Stmt}
use Rattle.pv_tree.specs.View.{expr_tree, stmt_tree}
use Rattle.pv_tree.proofs.ForCallers.{stmt-if, stmt-case}
use Rattle.pv_names.specs.InScope.{scope_of}
use Rattle.pv_sizes.specs.Counts.{capped}
use Rattle.pv_sizes.specs.Checks.{checks_of}
use Rattle.pv_sizes.specs.Sizes.{size_of_stmt, size_of_arms, size_of_branches, size_of_else}
use Rattle.pv_sizes.specs.Steps.{arm_trees, branch_trees, other_tree}
use Rattle.pv_sizes.proofs.Adding.{sum_with, sum_of, none_added}
use Rattle.pv_sizes.proofs.Measures.{case_deeper}
use Rattle.pv_sizes.proofs.statements.+sizing.Goals as goal

pub arms_size-loop-arm-init : goal.arms_size-loop-arm-init
arms_size-loop-arm-init t c = record {
  within = refl;
  total = none_added _ _ _ (ap (λ l. size_of_arms (scope_of c.args.scope.now) (arm_trees l)) c.deref-arm-items.ensures.value) refl;
}

pub branches_size-loop-branch-init : goal.branches_size-loop-branch-init
branches_size-loop-branch-init t c = record {
  within = refl;
  total = none_added _ _ _ (ap (λ l. size_of_branches (scope_of c.args.scope.now) (branch_trees l)) c.deref-branch-items.ensures.value) refl;
}

pub one_size-branches_size-requires : goal.one_size-branches_size-requires
one_size-branches_size-requires t c =
    let deeper = case_deeper c.in-Case.selector c.in-Case.branches c.in-Case.other c.in-Case.place in
    let size = ap size-Stmt c.in-Case.is in
    let less : 4 * most (λ b. most size-Stmt b.1.items) c.in-Case.branches.items + 2 < t = omega (arith, deeper, size, c.decreases) in
    (less, tt)

pub one_size-returns-in-If : goal.one_size-returns-in-If
one_size-returns-in-If t c =
    let here = scope_of c.args.scope.now in
    let seen = ap stmt_tree c.in-If.is ∙ stmt-if c.in-If.arms c.in-If.other c.in-If.place in
    sum_of c.sum-in-If.result c.arms_size.result c.other_size.result (size_of_arms here (arm_trees c.in-If.arms.items))
    (size_of_else here (other_tree c.in-If.other)) c.sum-in-If.ensures c.arms_size.ensures c.other_size.ensures
    ∙ sym (ap (λ s. capped (size_of_stmt here s)) seen)

pub one_size-returns-in-Case : goal.one_size-returns-in-Case
one_size-returns-in-Case t c =
    let here = scope_of c.args.scope.now in
    let seen = ap stmt_tree c.in-Case.is ∙ stmt-case c.in-Case.selector c.in-Case.branches c.in-Case.other c.in-Case.place in
    let checks = checks_of here (expr_tree c.in-Case.selector.value) in
    let choices = size_of_branches here (branch_trees c.in-Case.branches.items) in
    let asked = c.expr_size-in-Case.ensures ∙ ap (λ e. capped (checks_of here (expr_tree e))) c.deref-in-Case.ensures in
    let test = sum_with c.sum-test.result c.expr_size-in-Case.result checks 1 c.sum-test.ensures asked in
    let chosen = sum_of c.sum-chosen.result c.sum-test.result c.branches_size.result (checks + 1) choices c.sum-chosen.ensures test c.branches_size.ensures in
    sum_of c.sum-in-Case.result c.sum-chosen.result c.other_size-in-Case.result (checks + 1 + choices)
    (size_of_else here (other_tree c.in-Case.other)) c.sum-in-Case.ensures chosen c.other_size-in-Case.ensures
    ∙ sym (ap (λ s. capped (size_of_stmt here s)) seen)
