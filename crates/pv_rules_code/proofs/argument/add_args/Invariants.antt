use Rattle.std.proofs.Common.{◌≡◌, map, drop}
use Rattle.std.specs.Prelude.{flat_map}
use Rattle.pv_tree.specs.View.{arg_tree}
use Rattle.pv_names.specs.InScope.{scope_of}
use Rattle.pv_names.specs.Callees.{how_tree, callee_tree}
use Rattle.pv_rules_expr.specs.Looks.{near_parts}
use Rattle.pv_rules_expr.specs.Near.{near_at}
use Rattle.pv_rules_expr.specs.NearestIn.{nearest_in}
use Rattle.pv_rules_expr.specs.declared.search.Look.{Look}
use Rattle.pv_rules_code.specs.AtCalls.{arg_parts, arg_place}
use Rattle.pv_rules_code.specs.Nears.{near_pass}
use Rattle.pv_rules_code.specs.Spots.{loop_tree}
use Rattle.pv_rules_code.specs.Sought.Pass.{Pass}
use Rattle.pv_rules_code.proofs.argument.add_args.Given as goal

abbrev pub invariant-loop-arg : goal.invariant-loop-arg
invariant-loop-arg l = record {
  parts : (what : Look) →
      near_parts what (scope_of l.scope) (flat_map (arg_parts (scope_of l.scope) (callee_tree l.callee) (how_tree l.how))
      (map arg_tree (drop l.arg-index l.args))) (near_at what l.near)
      ≡ near_parts what (scope_of l.scope) (flat_map (arg_parts (scope_of l.scope) (callee_tree l.callee) (how_tree l.how))
      (map arg_tree l.args)) (near_at what l.fn.near);
  passes : (what : Pass) →
      nearest_in (arg_place what (scope_of l.scope) (map loop_tree l.loops) (callee_tree l.callee) (how_tree l.how))
      (map arg_tree (drop l.arg-index l.args)) (near_pass what l.passes)
      ≡ nearest_in (arg_place what (scope_of l.scope) (map loop_tree l.loops) (callee_tree l.callee) (how_tree l.how))
      (map arg_tree l.args) (near_pass what l.fn.passes);
}
