use Rattle.std.proofs.Common.{◌≡◌, ◌++◌, map, drop}
use Rattle.std.specs.Prelude.{flat_map}
use Rattle.pv_tree.specs.View.{instr_tree}
use Rattle.pv_tree.specs.Parts.{calls_of_instruction}
use Rattle.pv_cells.specs.Calls.{made_tree}
use Rattle.pv_cells.proofs.calls.push_instrs.Given as goal

abbrev pub invariant-loop-instr : goal.invariant-loop-instr
invariant-loop-instr l = map made_tree l.calls.items ++ flat_map (λ i. calls_of_instruction (instr_tree i)) (drop l.instr-index l.instrs)
    ≡ map made_tree l.initial.calls.items ++ flat_map (λ i. calls_of_instruction (instr_tree i)) l.instrs
