use Rattle.std.proofs.Common.{◌≡◌, map, drop}
use Rattle.std.specs.Prelude.{flat_map}
use Rattle.pv_tree.specs.View.{arg_tree, call_tree}
use Rattle.pv_names.specs.InScope.{scope_of}
use Rattle.pv_rules_expr.specs.NearestIn.{nearest_in}
use Rattle.pv_rules.specs.Codes.{calls_of_code}
use Rattle.pv_tree.specs.Operands.{operands_in}
use Rattle.pv_rules.specs.Reads.{reads_of_call}
use Rattle.pv_rules.specs.Values.{value_at}
use Rattle.pv_rules.proofs.reads.value_in_call.Given as goal

abbrev pub invariant-loop-arg : goal.invariant-loop-arg
invariant-loop-arg l =
    nearest_in (value_at (scope_of l.scope) (calls_of_code l.code)) (flat_map (λ a. operands_in a.value)
    (map arg_tree (drop l.arg-index l.arg-items))) l.best
    ≡ nearest_in (value_at (scope_of l.scope) (calls_of_code l.code)) (reads_of_call (call_tree l.fn.call)) l.fn.nearest
