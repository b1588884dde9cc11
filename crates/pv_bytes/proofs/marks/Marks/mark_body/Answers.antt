use Rattle.std.proofs.Common.{ap, sym, ◌∙◌, ◌++◌}
use Rattle.std.specs.Prelude.{flat_map}
use Rattle.std.proofs.lemmas.List.{append-nil}
use Rattle.std.proofs.lemmas.List.Folds.{flat_map-map}
use Rattle.pv_tree.specs.Parts.{instructions_of, starts_of}
use Rattle.pv_tree.specs.View.{instr_tree, operand_tree, start_tree, body_tree}
use Rattle.pv_tree.specs.Operands.{operands_within}
use Rattle.pv_bytes.specs.Operands.{operands_in_instr}
use Rattle.pv_bytes.proofs.Marking.{also_same}
use Rattle.pv_bytes.proofs.marks.Marks.mark_body.Goals as goal

pub returns-in-Stl : goal.returns-in-Stl
returns-in-Stl c =
    also_same c.args.area c.args.self.now.flags.items c.mark_instrs.new.self.flags.items _ _
    (ap (flat_map (λ i. operands_in_instr (instr_tree i))) c.as_slice.ensures.value
    ∙ sym (flat_map-map operands_in_instr instr_tree c.in-Stl.instrs.items)
    ∙ sym (append-nil _)
    ∙ ap (λ b. flat_map operands_in_instr (instructions_of (body_tree b)) ++ flat_map (λ v. operands_within v.0) (starts_of (body_tree b)))
    (sym c.in-Stl.is))
    c.mark_instrs.ensures

pub returns-in-Starts : goal.returns-in-Starts
returns-in-Starts c =
    also_same c.args.area c.args.self.now.flags.items c.mark_starts.new.self.flags.items _ _
    (ap (flat_map (λ v. operands_within (operand_tree v.0))) c.as_slice-in-Starts.ensures.value
    ∙ sym (flat_map-map (λ v. operands_within v.0) start_tree c.in-Starts.starts.items)
    ∙ ap (λ b. flat_map operands_in_instr (instructions_of (body_tree b)) ++ flat_map (λ v. operands_within v.0) (starts_of (body_tree b)))
    (sym c.in-Starts.is))
    c.mark_starts.ensures
