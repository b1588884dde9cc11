use Rattle.std.proofs.Common.{map, ap, sym, ◌∙◌, ◌++◌}
use Rattle.std.specs.Prelude.{flat_map}
use Rattle.std.proofs.lemmas.List.Folds.{flat_map-map}
use Rattle.pv_tree.specs.Parts.{calls_of_instruction, instructions_of}
use Rattle.pv_tree.specs.View.{instr_tree, body_tree}
use Rattle.pv_cells.specs.Calls.{made_tree}
use Rattle.pv_cells.proofs.Results.{on_ok}
use Rattle.pv_cells.proofs.calls.push_body.Goals as goal

pub returns-in-Stl : goal.returns-in-Stl
returns-in-Stl c =
    on_ok c.push_instrs.result _ _
    (λ e. e ∙ ap (λ l. map made_tree c.args.calls.now.items ++ l)
    (ap (flat_map (λ i. calls_of_instruction (instr_tree i))) c.as_slice.ensures.value
    ∙ sym (flat_map-map calls_of_instruction instr_tree c.in-Stl.instrs.items)
    ∙ ap (λ b. flat_map calls_of_instruction (instructions_of (body_tree b))) (sym c.in-Stl.is)))
    c.push_instrs.ensures
