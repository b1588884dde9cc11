use Rattle.std.proofs.Common.{◌≡◌, map, drop}
use Rattle.std.specs.Prelude.{flat_map}
use Rattle.pv_tree.specs.LiteralTypes.{nothing}
use Rattle.pv_tree.specs.Parts.{parts_of}
use Rattle.pv_tree.specs.View.{expr_tree}
use Rattle.pv_names.specs.InScope.{scope_of}
use Rattle.pv_rules_expr.specs.Looks.{near_parts}
use Rattle.pv_rules_expr.specs.Near.{near_at}
use Rattle.pv_rules_expr.specs.NearestIn.{nearest_in}
use Rattle.pv_rules_expr.specs.declared.search.Look.{Look}
use Rattle.pv_rules_code.specs.AtStatements.{condition_at}
use Rattle.pv_rules_code.proofs.sites.add_arms.Given as goal

abbrev pub invariant-loop-arm : goal.invariant-loop-arm
invariant-loop-arm l = record {
  parts : (what : Look) →
      near_parts what (scope_of l.scope) (flat_map (parts_of (scope_of l.scope) nothing) (map (λ a. expr_tree a.0) (drop l.arm-index l.arm-items)))
      (near_at what l.near)
      ≡ near_parts what (scope_of l.scope) (flat_map (parts_of (scope_of l.scope) nothing) (map (λ a. expr_tree a.0) l.fn.arms.items))
      (near_at what l.fn.near);
  condition : nearest_in (condition_at (scope_of l.scope)) (map (λ a. expr_tree a.0) (drop l.arm-index l.arm-items)) l.condition
      ≡ nearest_in (condition_at (scope_of l.scope)) (map (λ a. expr_tree a.0) l.fn.arms.items) l.fn.condition;
}
