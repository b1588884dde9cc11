use Rattle.std.proofs.Common.{ap, sym, ◌∙◌}
use Rattle.std.specs.Prelude.{flat_map, option_to_list}
use Rattle.std.proofs.lemmas.List.Folds.{flat_map-map}
use Rattle.pv_tree.specs.InstructionGroups.{operand_of_instruction}
use Rattle.pv_tree.specs.Parts.{instructions_of}
use Rattle.pv_tree.specs.View.{instr_tree, body_tree}
use Rattle.pv_bytes.proofs.Marking.{also_same}
use Rattle.pv_bytes.proofs.marks.Marks.mark_operands_of.Goals as goal

pub returns-in-Stl : goal.returns-in-Stl
returns-in-Stl c =
    also_same c.args.area c.args.self.now.flags.items c.mark_instr_operands.new.self.flags.items _ _
    (ap (flat_map (λ i. option_to_list (operand_of_instruction (instr_tree i)))) c.as_slice.ensures.value
    ∙ sym (flat_map-map (λ i. option_to_list (operand_of_instruction i)) instr_tree c.in-Stl.instrs.items)
    ∙ ap (λ b. flat_map (λ i. option_to_list (operand_of_instruction i)) (instructions_of (body_tree b))) (sym c.in-Stl.is))
    c.mark_instr_operands.ensures
