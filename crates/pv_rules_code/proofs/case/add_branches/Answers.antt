use Rattle.std.proofs.Common.{ap, ◌∙◌, map, refl}
use Rattle.pv_tree.specs.Rules.MissingNames.{values_of_choices, values_of_branches}
use Rattle.pv_tree.specs.View.{stmt_tree, stmts_of, branches_of}
use Rattle.pv_names.specs.InScope.{scope_of}
use Rattle.pv_names.specs.Sorts.{want_tree}
use Rattle.pv_rules_expr.specs.NearestIn.{nearest_in}
use Rattle.pv_rules_code.specs.AtCases.{value_at}
use Rattle.pv_rules_code.specs.Nears.{near_pick}
use Rattle.pv_rules_code.proofs.StmtSeen.{next_values}
use Rattle.pv_rules_code.proofs.case.add_branches.Goals as goal

pub loop-branch-init : goal.loop-branch-init
loop-branch-init c =
    λ what. ap (λ l. nearest_in (value_at what (scope_of c.args.scope.now) (want_tree c.args.want)) (values_of_branches
    (branches_of (map (λ b. (b.0.items, stmts_of (map stmt_tree b.1.items))) l))) (near_pick what c.args.picks.now)) c.deref-branch-items.ensures.value

pub loop-branch-preserved : goal.loop-branch-preserved
loop-branch-preserved c =
    λ what. let f = value_at what (scope_of c.args.scope.now) (want_tree c.args.want) in
    next_values f c.loop-branch.branch-index _ (near_pick what c.loop-branch.picks) (near_pick what c.add_choices.new.picks) _
    (λ b. (b.0.items, stmts_of (map stmt_tree b.1.items))) c.deref-branch-items.result.now c.branch-item.result
    c.loop-branch-test.true c.branch-item.is refl
    (c.add_choices.ensures what ∙ ap (λ l. nearest_in f (values_of_choices l) (near_pick what c.loop-branch.picks)) c.as_slice.ensures.value)
    (c.loop-branch.invariant what)
