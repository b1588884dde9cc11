use Rattle.std.proofs.Common.{◌≡◌, map, drop}
use Rattle.std.specs.Prelude.{flat_map}
use Rattle.pv_tree.specs.Parts.{calls_of_instruction}
use Rattle.pv_tree.specs.View.{instr_tree}
use Rattle.pv_names.specs.InScope.{scope_of}
use Rattle.pv_rules.specs.Values.{calls_in}
use Rattle.pv_rules.proofs.values.call_in_instrs.Given as goal

abbrev pub invariant-loop-instr : goal.invariant-loop-instr
invariant-loop-instr l =
    calls_in (scope_of l.scope) (flat_map calls_of_instruction (map instr_tree (drop l.instr-index l.list))) l.best
    ≡ calls_in (scope_of l.scope) (flat_map calls_of_instruction (map instr_tree l.list)) l.fn.nearest
