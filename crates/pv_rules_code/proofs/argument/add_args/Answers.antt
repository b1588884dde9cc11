use Rattle.std.proofs.Common.{map, refl}
use Rattle.pv_tree.specs.View.{arg_tree}
use Rattle.pv_names.specs.InScope.{scope_of}
use Rattle.pv_names.specs.Callees.{how_tree, callee_tree}
use Rattle.pv_rules_expr.specs.Near.{near_at}
use Rattle.pv_rules_expr.proofs.ForCallers.{next_in, next_parts}
use Rattle.pv_rules_code.specs.AtCalls.{arg_parts, arg_place}
use Rattle.pv_rules_code.specs.Nears.{near_pass}
use Rattle.pv_rules_code.specs.Spots.{loop_tree}
use Rattle.pv_rules_code.proofs.argument.add_args.Goals as goal

pub loop-arg-preserved : goal.loop-arg-preserved
loop-arg-preserved c =
    let scope = scope_of c.args.scope.now in
    let callee = callee_tree c.args.callee in
    let how = how_tree c.args.how in
    record {
      parts = λ what. next_parts what scope (arg_parts scope callee how) arg_tree c.args.args.now c.loop-arg.arg-index _ c.arg-item.result
          (near_at what c.loop-arg.near) (near_at what c.add_arg.new.near) _ c.loop-arg-test.true c.arg-item.is refl
          (c.in_ok-add_arg.ensures.parts what) (c.loop-arg.invariant.parts what);
      passes = λ what. next_in (arg_place what scope (map loop_tree c.args.loops.now) callee how) arg_tree c.args.args.now c.loop-arg.arg-index _
          c.arg-item.result (near_pass what c.loop-arg.passes) (near_pass what c.add_arg.new.passes) _ c.loop-arg-test.true c.arg-item.is refl
          (c.in_ok-add_arg.ensures.passes what) (c.loop-arg.invariant.passes what);
    }
