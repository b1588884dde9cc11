use Rattle.std.proofs.Common.{◌+◌, ◌*◌, ◌<◌, ap, ◌∙◌, map, refl, arith}
use Rattle.std.specs.Prelude.{option_map}
use denote.Param.Weighed.{most}
use Rattle.pv_tree.specs.declared.stmt.Stmt.{size-Stmt}
use Rattle.pv_tree.specs.Parts.{spots_of_stmts, spots_of_arms, spots_of_branches}
use Rattle.pv_tree.specs.View.{expr_tree, stmt_tree, stmts_of, arms_of, branches_of, else_of}
use Rattle.pv_names.specs.InScope.{scope_of}
use Rattle.pv_rules_expr.specs.NearestIn.{nearest_in}
use Rattle.pv_rules_code.specs.Nears.{near_site}
use Rattle.pv_rules_code.specs.Sites.{site_place}
use Rattle.pv_rules_code.specs.Spots.{loop_tree}
use Rattle.pv_tree.proofs.ForCallers.{stmt-if, stmt-case}
use Rattle.pv_rules_code.proofs.Meeting.{on_ok}
use Rattle.pv_rules_code.proofs.StmtSeen.{case_deeper, if_walked, case_walked, next_stmt, next_arm, next_branch}
use Rattle.pv_rules_code.proofs.walk.+walking.Goals as goal

pub walk_arms-loop-arm-init : goal.walk_arms-loop-arm-init
walk_arms-loop-arm-init t c =
    λ what. ap (λ l. nearest_in (site_place what (scope_of c.args.scope.now)) (spots_of_arms (map loop_tree c.args.loops.now)
    (arms_of (map (λ a. (expr_tree a.0, stmts_of (map stmt_tree a.1.items))) l))) (near_site what c.args.near.now)) c.deref-arm-items.ensures.value

pub walk_arms-loop-arm-preserved : goal.walk_arms-loop-arm-preserved
walk_arms-loop-arm-preserved t c =
    λ what. let f = site_place what (scope_of c.args.scope.now) in
    let loops = map loop_tree c.args.loops.now in
    next_arm f loops c.deref-arm-items.result.now c.loop-arm.arm-index _ c.arm-item.result (near_site what c.loop-arm.near)
    (near_site what c.walk_all.new.near) _ (λ a. (expr_tree a.0, stmts_of (map stmt_tree a.1.items))) c.loop-arm-test.true c.arm-item.is refl
    (c.in_ok-walk_all.ensures what
    ∙ ap (λ l. nearest_in f (spots_of_stmts loops (stmts_of (map stmt_tree l))) (near_site what c.loop-arm.near)) c.as_slice.ensures.value)
    (c.loop-arm.invariant what)

pub walk_branches-loop-branch-init : goal.walk_branches-loop-branch-init
walk_branches-loop-branch-init t c =
    λ what. ap (λ l. nearest_in (site_place what (scope_of c.args.scope.now)) (spots_of_branches (map loop_tree c.args.loops.now)
    (branches_of (map (λ b. (b.0.items, stmts_of (map stmt_tree b.1.items))) l))) (near_site what c.args.near.now)) c.deref-branch-items.ensures.value

pub walk_branches-loop-branch-preserved : goal.walk_branches-loop-branch-preserved
walk_branches-loop-branch-preserved t c =
    λ what. let f = site_place what (scope_of c.args.scope.now) in
    let loops = map loop_tree c.args.loops.now in
    next_branch f loops c.deref-branch-items.result.now c.loop-branch.branch-index _ c.branch-item.result (near_site what c.loop-branch.near)
    (near_site what c.walk_all.new.near) _ (λ b. (b.0.items, stmts_of (map stmt_tree b.1.items))) c.loop-branch-test.true c.branch-item.is refl
    (c.in_ok-walk_all.ensures what
    ∙ ap (λ l. nearest_in f (spots_of_stmts loops (stmts_of (map stmt_tree l))) (near_site what c.loop-branch.near)) c.as_slice.ensures.value)
    (c.loop-branch.invariant what)

pub walk-returns-in_ok-walk_arms-in-If : goal.walk-returns-in_ok-walk_arms-in-If
walk-returns-in_ok-walk_arms-in-If t c =
    on_ok c.walk_other.result (λ behind what.
    if_walked (site_place what (scope_of c.args.scope.now)) (map loop_tree c.args.loops.now) (stmt_tree c.args.stmt.now)
    (near_site what c.args.near.now) (near_site what c.add_sites.new.near) (near_site what c.walk_arms.new.near) (near_site what c.walk_other.new.near)
    (arms_of (map (λ a. (expr_tree a.0, stmts_of (map stmt_tree a.1.items))) c.in-If.arms.items))
    (else_of (option_map (λ o. stmts_of (map stmt_tree o.value.items)) c.in-If.other)) c.in-If.place
    (ap stmt_tree c.in-If.is ∙ stmt-if c.in-If.arms c.in-If.other c.in-If.place)
    (c.in_ok-add_sites.ensures what) (c.in_ok-walk_arms-in-If.ensures what) (behind what)) c.walk_other.ensures

pub walk-walk_branches-requires : goal.walk-walk_branches-requires
walk-walk_branches-requires t c =
    let deeper = case_deeper c.in-Case.selector c.in-Case.branches c.in-Case.other c.in-Case.place in
    let size = ap size-Stmt c.in-Case.is in
    let less : 4 * most (λ b. most size-Stmt b.1.items) c.in-Case.branches.items + 2 < t = omega (arith, deeper, size, c.decreases) in
    (less, tt)

pub walk-returns-in_ok-walk_branches-in-Case : goal.walk-returns-in_ok-walk_branches-in-Case
walk-returns-in_ok-walk_branches-in-Case t c =
    on_ok c.walk_other-in-Case.result (λ behind what.
    case_walked (site_place what (scope_of c.args.scope.now)) (map loop_tree c.args.loops.now) (stmt_tree c.args.stmt.now)
    (near_site what c.args.near.now) (near_site what c.add_sites.new.near) (near_site what c.walk_branches.new.near)
    (near_site what c.walk_other-in-Case.new.near) (expr_tree c.in-Case.selector.value)
    (branches_of (map (λ b. (b.0.items, stmts_of (map stmt_tree b.1.items))) c.in-Case.branches.items))
    (else_of (option_map (λ o. stmts_of (map stmt_tree o.value.items)) c.in-Case.other)) c.in-Case.place
    (ap stmt_tree c.in-Case.is ∙ stmt-case c.in-Case.selector c.in-Case.branches c.in-Case.other c.in-Case.place)
    (c.in_ok-add_sites.ensures what) (c.in_ok-walk_branches-in-Case.ensures what) (behind what)) c.walk_other-in-Case.ensures

pub walk_all-loop-stmt-preserved : goal.walk_all-loop-stmt-preserved
walk_all-loop-stmt-preserved t c =
    λ what. next_stmt (site_place what (scope_of c.args.scope.now)) (map loop_tree c.args.loops.now) c.args.list.now c.loop-stmt.stmt-index _
    c.stmt-item.result (near_site what c.loop-stmt.near) (near_site what c.walk.new.near) _ stmt_tree c.loop-stmt-test.true c.stmt-item.is refl
    (c.in_ok-walk.ensures what) (c.loop-stmt.invariant what)
