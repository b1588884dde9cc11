use Rattle.std.proofs.Common.{◌≡◌, ℕ, ◌+◌, ◌*◌, map, drop, Option, Some, None}
use Rattle.std.specs.Prelude.{Vec, Box}
use Rattle.std.specs.declared.alloc.Global.{Global}
use denote.Param.Weighed.{most}
use Rattle.pv_tree.specs.declared.stmt.Stmt.{Stmt, size-Stmt}
use Rattle.pv_tree.specs.Parts.{spots_of_stmts, spots_of_arms, spots_of_branches}
use Rattle.pv_tree.specs.View.{expr_tree, stmt_tree, stmts_of, arms_of, branches_of}
use Rattle.pv_names.specs.InScope.{scope_of}
use Rattle.pv_rules_expr.specs.NearestIn.{nearest_in}
use Rattle.pv_rules_code.specs.Nears.{near_site}
use Rattle.pv_rules_code.specs.Sites.{site_place}
use Rattle.pv_rules_code.specs.Spots.{loop_tree}
use Rattle.pv_rules_code.specs.Sought.Site.{Site}
use Rattle.pv_rules_code.proofs.walk.+walking.Given as goal

-- how deep statements stand behind ELSE at most
abbrev of_other : Option (Box (Vec Stmt Global) Global) → ℕ
of_other None = 0
of_other (Some v) = most size-Stmt v.value.items

abbrev pub decreases-walk : goal.decreases-walk
decreases-walk l = 4 * size-Stmt l.stmt.now

abbrev pub decreases-walk_all : goal.decreases-walk_all
decreases-walk_all l = 4 * most size-Stmt l.list.now + 1

abbrev pub decreases-walk_arms : goal.decreases-walk_arms
decreases-walk_arms l = 4 * most (λ a. most size-Stmt a.1.items) l.arms.now.items + 2

abbrev pub decreases-walk_branches : goal.decreases-walk_branches
decreases-walk_branches l = 4 * most (λ b. most size-Stmt b.1.items) l.branches.now.items + 2

abbrev pub decreases-walk_other : goal.decreases-walk_other
decreases-walk_other l = 4 * of_other l.other.now + 2

abbrev pub decreases-walk_loop : goal.decreases-walk_loop
decreases-walk_loop l = 4 * most size-Stmt l.body.now.items + 2

abbrev pub invariant-walk_arms-loop-arm : goal.invariant-walk_arms-loop-arm
invariant-walk_arms-loop-arm l = (what : Site) →
    nearest_in (site_place what (scope_of l.scope)) (spots_of_arms (map loop_tree l.loops)
    (arms_of (map (λ a. (expr_tree a.0, stmts_of (map stmt_tree a.1.items))) (drop l.arm-index l.arm-items)))) (near_site what l.near)
    ≡ nearest_in (site_place what (scope_of l.scope)) (spots_of_arms (map loop_tree l.loops)
    (arms_of (map (λ a. (expr_tree a.0, stmts_of (map stmt_tree a.1.items))) l.fn.arms.items))) (near_site what l.fn.near)

abbrev pub invariant-walk_branches-loop-branch : goal.invariant-walk_branches-loop-branch
invariant-walk_branches-loop-branch l = (what : Site) →
    nearest_in (site_place what (scope_of l.scope)) (spots_of_branches (map loop_tree l.loops)
    (branches_of (map (λ b. (b.0.items, stmts_of (map stmt_tree b.1.items))) (drop l.branch-index l.branch-items)))) (near_site what l.near)
    ≡ nearest_in (site_place what (scope_of l.scope)) (spots_of_branches (map loop_tree l.loops)
    (branches_of (map (λ b. (b.0.items, stmts_of (map stmt_tree b.1.items))) l.fn.branches.items))) (near_site what l.fn.near)

abbrev pub invariant-walk_all-loop-stmt : goal.invariant-walk_all-loop-stmt
invariant-walk_all-loop-stmt l = (what : Site) →
    nearest_in (site_place what (scope_of l.scope)) (spots_of_stmts (map loop_tree l.loops)
    (stmts_of (map stmt_tree (drop l.stmt-index l.list)))) (near_site what l.near)
    ≡ nearest_in (site_place what (scope_of l.scope)) (spots_of_stmts (map loop_tree l.loops) (stmts_of (map stmt_tree l.list))) (near_site what l.fn.near)
