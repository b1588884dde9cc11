use Rattle.std.proofs.Common.{refl, subst, map}
use Rattle.std.specs.Prelude.{flat_map}
use Rattle.pv_tree.specs.Parts.{site}
use Rattle.pv_tree.specs.View.{arg_tree, call_tree, expr_tree}
use Rattle.pv_names.specs.Callees.{callee_tree, how_tree}
use Rattle.pv_names.specs.InScope.{scope_of}
use Rattle.pv_tree.specs.Operands.{operands_in}
use Rattle.pv_rules_expr.specs.Members.{Has}
use Rattle.pv_rules.specs.Codes.{calls_of_code}
use Rattle.pv_rules.specs.Values.{value_at}
use Rattle.pv_rules.proofs.OutputLaws.{hands_written}
use Rattle.pv_rules.proofs.Walks.{has_at, next_of}
use Rattle.pv_rules.proofs.reads.value_in_call.Goals as goal

pub value_in_arg-best-requires : goal.value_in_arg-best-requires
value_in_arg-best-requires c =
    let a = arg_tree c.arg-item.result in
    hands_written (scope_of c.args.scope.now) (calls_of_code c.args.code) (site (how_tree c.args.how) (call_tree c.args.call.now))
    (callee_tree c.callee_of-callee.result) a c.requires c.callee_of-callee.ensures
    (subst (λ l. Has (map arg_tree l) a) c.deref-arg-items.ensures.value
    (has_at arg_tree c.deref-arg-items.result.now c.loop-arg.arg-index c.arg-item.result c.loop-arg-test.true c.arg-item.is))

pub loop-arg-preserved : goal.loop-arg-preserved
loop-arg-preserved c =
    next_of (value_at (scope_of c.args.scope.now) (calls_of_code c.args.code)) (λ a. operands_in (expr_tree a.value))
    (λ l. flat_map (λ a. operands_in a.value) (map arg_tree l)) (λ a l. refl) c.deref-arg-items.result.now c.loop-arg.arg-index _ c.arg-item.result
    c.loop-arg.best c.value_in_arg-best.result _ c.loop-arg-test.true c.arg-item.is refl c.value_in_arg-best.ensures c.loop-arg.invariant
