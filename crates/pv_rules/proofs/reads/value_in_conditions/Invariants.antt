use Rattle.std.proofs.Common.{◌≡◌, map, drop}
use Rattle.std.specs.Prelude.{flat_map}
use Rattle.pv_tree.specs.View.{expr_tree}
use Rattle.pv_names.specs.InScope.{scope_of}
use Rattle.pv_rules_expr.specs.NearestIn.{nearest_in}
use Rattle.pv_rules.specs.Codes.{calls_of_code}
use Rattle.pv_tree.specs.Operands.{operands_in}
use Rattle.pv_rules.specs.Values.{value_at}
use Rattle.pv_rules.proofs.reads.value_in_conditions.Given as goal

abbrev pub invariant-loop-arm : goal.invariant-loop-arm
invariant-loop-arm l =
    nearest_in (value_at (scope_of l.scope) (calls_of_code l.code)) (flat_map operands_in
    (map (λ a. expr_tree a.0) (drop l.arm-index l.arms))) l.best
    ≡ nearest_in (value_at (scope_of l.scope) (calls_of_code l.code)) (flat_map operands_in
    (map (λ a. expr_tree a.0) l.arms)) l.fn.nearest
