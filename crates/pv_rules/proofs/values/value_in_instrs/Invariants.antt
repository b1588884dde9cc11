use Rattle.std.proofs.Common.{◌≡◌, map, drop}
use Rattle.std.specs.Prelude.{flat_map}
use Rattle.pv_tree.specs.Parts.{calls_of_instruction}
use Rattle.pv_tree.specs.View.{instr_tree}
use Rattle.pv_names.specs.InScope.{scope_of}
use Rattle.pv_rules.specs.Reads.{reads_of_instruction}
use Rattle.pv_rules.specs.Values.{values_in}
use Rattle.pv_rules.proofs.values.value_in_instrs.Given as goal

abbrev pub invariant-loop-instr : goal.invariant-loop-instr
invariant-loop-instr l =
    values_in (scope_of l.scope) (flat_map calls_of_instruction (map instr_tree l.list)) (flat_map reads_of_instruction
    (map instr_tree (drop l.instr-index l.list))) l.best
    ≡ values_in (scope_of l.scope) (flat_map calls_of_instruction (map instr_tree l.list)) (flat_map reads_of_instruction
    (map instr_tree l.list)) l.fn.nearest
