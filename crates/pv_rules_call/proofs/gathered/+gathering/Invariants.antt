use Rattle.std.proofs.Common.{◌≡◌, [], ◌++◌, map, drop}
use Rattle.pv_tree.specs.Parts.{spots_of, spots_of_stmts, spots_of_arms, spots_of_branches, spots_of_else}
use Rattle.pv_tree.specs.View.{stmt_tree, stmt_trees}
use Rattle.pv_names.specs.InScope.{scope_of}
use Rattle.pv_rules_call.specs.Links.{link_tree}
use Rattle.pv_rules_call.specs.Gathered.{with_spots, arm_trees, branch_trees, other_tree}
use Rattle.pv_rules_call.proofs.gathered.+gathering.Given as goal

abbrev pub invariant-with_links-loop-arm : goal.invariant-with_links-loop-arm
invariant-with_links-loop-arm l =
    with_spots (scope_of l.scope) (map link_tree l.all.items)
    (spots_of_arms [] (arm_trees (drop l.arm-index l.arm-items)) ++ spots_of_else [] (other_tree l.other))
    ≡ with_spots (scope_of l.scope) (map link_tree l.fn.links.items) (spots_of [] (stmt_tree l.fn.stmt))

abbrev pub invariant-with_links-loop-branch : goal.invariant-with_links-loop-branch
invariant-with_links-loop-branch l =
    with_spots (scope_of l.scope) (map link_tree l.all.items)
    (spots_of_branches [] (branch_trees (drop l.branch-index l.branch-items)) ++ spots_of_else [] (other_tree l.other))
    ≡ with_spots (scope_of l.scope) (map link_tree l.fn.links.items) (spots_of [] (stmt_tree l.fn.stmt))

abbrev pub invariant-with_all_links-loop-stmt : goal.invariant-with_all_links-loop-stmt
invariant-with_all_links-loop-stmt l =
    with_spots (scope_of l.scope) (map link_tree l.all.items) (spots_of_stmts [] (stmt_trees (drop l.stmt-index l.list)))
    ≡ with_spots (scope_of l.scope) (map link_tree l.fn.links.items) (spots_of_stmts [] (stmt_trees l.list))
