use Rattle.std.proofs.Common.{◌≡◌, map, drop}
use Rattle.std.specs.Prelude.{flat_map}
use Rattle.pv_tree.specs.Parts.{calls_of_instruction}
use Rattle.pv_tree.specs.View.{operand_tree, instr_tree}
use Rattle.pv_names.specs.InScope.{scope_of}
use Rattle.pv_rules.specs.Outputs.{is_written}
use Rattle.pv_rules.proofs.outputs.instructions_write.Given as goal

abbrev pub invariant-loop-instr : goal.invariant-loop-instr
invariant-loop-instr l =
    is_written (scope_of l.scope) (flat_map calls_of_instruction (map instr_tree (drop l.instr-index l.list))) (operand_tree l.operand)
    ≡ is_written (scope_of l.scope) (flat_map calls_of_instruction (map instr_tree l.list)) (operand_tree l.operand)
