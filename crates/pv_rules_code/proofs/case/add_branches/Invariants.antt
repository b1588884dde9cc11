use Rattle.std.proofs.Common.{◌≡◌, map, drop}
use Rattle.pv_tree.specs.Rules.MissingNames.{values_of_branches}
use Rattle.pv_tree.specs.View.{stmt_tree, stmts_of, branches_of}
use Rattle.pv_names.specs.InScope.{scope_of}
use Rattle.pv_names.specs.Sorts.{want_tree}
use Rattle.pv_rules_expr.specs.NearestIn.{nearest_in}
use Rattle.pv_rules_code.specs.AtCases.{value_at}
use Rattle.pv_rules_code.specs.Nears.{near_pick}
use Rattle.pv_rules_code.specs.Sought.Pick.{Pick}
use Rattle.pv_rules_code.proofs.case.add_branches.Given as goal

abbrev pub invariant-loop-branch : goal.invariant-loop-branch
invariant-loop-branch l = (what : Pick) →
    nearest_in (value_at what (scope_of l.scope) (want_tree l.want))
    (values_of_branches (branches_of (map (λ b. (b.0.items, stmts_of (map stmt_tree b.1.items))) (drop l.branch-index l.branch-items))))
    (near_pick what l.picks)
    ≡ nearest_in (value_at what (scope_of l.scope) (want_tree l.want))
    (values_of_branches (branches_of (map (λ b. (b.0.items, stmts_of (map stmt_tree b.1.items))) l.fn.branches.items))) (near_pick what l.fn.picks)
