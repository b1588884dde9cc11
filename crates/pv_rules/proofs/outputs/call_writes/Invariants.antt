use Rattle.std.proofs.Common.{◌≡◌, map, drop}
use Rattle.std.specs.List.{list_any}
use Rattle.pv_tree.specs.Parts.{site}
use Rattle.pv_tree.specs.View.{arg_tree, call_tree, operand_tree}
use Rattle.pv_names.specs.InScope.{scope_of}
use Rattle.pv_names.specs.Callees.{how_tree}
use Rattle.pv_rules.specs.Outputs.{passes_out, call_writes}
use Rattle.pv_rules.proofs.outputs.call_writes.Given as goal

abbrev pub invariant-loop-arg : goal.invariant-loop-arg
invariant-loop-arg l =
    list_any (passes_out (scope_of l.fn.scope) (operand_tree l.operand) (site (how_tree l.how) (call_tree l.fn.call)))
    (map arg_tree (drop l.arg-index l.arg-items))
    ≡ call_writes (scope_of l.fn.scope) (operand_tree l.operand) (site (how_tree l.how) (call_tree l.fn.call))
