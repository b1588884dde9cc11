use Rattle.std.specs.Prelude.{flat_map, option_to_list}
use Rattle.pv_tree.specs.InstructionGroups.{operand_of_instruction}
use Rattle.pv_tree.specs.Parts.{parts_of_operand, parts_of_call, calls_of_instruction}
use Rattle.pv_tree.specs.View.{instr_tree}
use Rattle.pv_names.specs.InScope.{scope_of}
use Rattle.pv_rules_expr.specs.Near.{near_at}
use Rattle.pv_rules_code.specs.Nears.{near_count, near_stride, near_pick}
use Rattle.pv_rules_code.specs.Sites.{instr_place}
use Rattle.pv_rules_code.proofs.Nears.{all_sites, at_named, both_ok, two_lists, kept}
use Rattle.pv_rules_code.proofs.instruction.add_instr.Goals as goal

pub returns : goal.returns
returns c =
    let scope = scope_of c.args.scope.now in
    let i = instr_tree c.args.instr.now in
    let near = c.args.near.now in
    both_ok c.add_called.result (λ parts asks.
    all_sites (λ what. instr_place what scope i) near _
    (λ what. two_lists what scope (flat_map (parts_of_operand scope) (option_to_list (operand_of_instruction i)))
    (flat_map (parts_of_call scope) (calls_of_instruction i)) (near_at what near.parts) (near_at what c.add_operand.new.near)
    (near_at what c.add_called.new.near) (c.in_ok-add_operand.ensures.parts what) (parts what))
    (at_named scope i near.aims c.add_operand.new.aims c.in_ok-add_operand.ensures.aims) (kept near.counted) asks
    (λ what. kept (near_count what near.counts)) (λ what. kept (near_stride what near.strides)) (λ what. kept (near_pick what near.picks))
    (kept near.misfit) (kept near.selector) (kept near.condition) (kept near.leave)) c.add_called.ensures.parts c.add_called.ensures.asks
