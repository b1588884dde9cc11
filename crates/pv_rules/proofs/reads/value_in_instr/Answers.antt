use Rattle.std.specs.Prelude.{flat_map, option_to_list}
use Rattle.pv_tree.specs.InstructionGroups as groups
use Rattle.pv_tree.specs.Rules.Callable.{read_operand}
use Rattle.pv_tree.specs.View.{instr_tree, operand_tree}
use Rattle.pv_names.specs.InScope.{scope_of}
use Rattle.pv_rules.specs.Codes.{calls_of_code}
use Rattle.pv_tree.specs.Operands.{operands_within}
use Rattle.pv_rules.specs.Reads.{reads_of_call}
use Rattle.pv_rules.specs.Values.{value_at}
use Rattle.pv_rules.proofs.Walks.{near_three, near_one, near_no}
use Rattle.pv_rules.proofs.reads.value_in_instr.Goals as goal

pub returns-in-Some : goal.returns-in-Some
returns-in-Some c =
    let f = value_at (scope_of c.args.scope.now) (calls_of_code c.args.code) in
    let i = instr_tree c.args.instr.now in
    near_three f (flat_map operands_within (option_to_list (groups.operand_of_instruction i))) (flat_map reads_of_call (option_to_list i.call))
    (option_to_list (read_operand i)) c.args.nearest c.value_in_named-named.result c.value_in_called-called.result c.value_name.result
    c.value_in_named-named.ensures c.value_in_called-called.ensures
    (near_one (λ o. operand_tree o.now) c.read_operand.result (read_operand i) c.read_operand.ensures f c.in-Some.operand c.value_in_called-called.result
    c.value_name.result c.in-Some.is c.value_name.ensures)

pub returns-in-None : goal.returns-in-None
returns-in-None c =
    let f = value_at (scope_of c.args.scope.now) (calls_of_code c.args.code) in
    let i = instr_tree c.args.instr.now in
    near_three f (flat_map operands_within (option_to_list (groups.operand_of_instruction i))) (flat_map reads_of_call (option_to_list i.call))
    (option_to_list (read_operand i)) c.args.nearest c.value_in_named-named.result c.value_in_called-called.result c.value_in_called-called.result
    c.value_in_named-named.ensures c.value_in_called-called.ensures
    (near_no (λ o. operand_tree o.now) c.read_operand.result (read_operand i) c.read_operand.ensures f c.value_in_called-called.result c.in-None.is)
