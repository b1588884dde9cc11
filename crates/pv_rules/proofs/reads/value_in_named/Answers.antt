use Rattle.pv_tree.specs.InstructionGroups as groups
use Rattle.pv_tree.specs.View.{instr_tree, operand_tree}
use Rattle.pv_names.specs.InScope.{scope_of}
use Rattle.pv_rules.specs.Codes.{calls_of_code}
use Rattle.pv_tree.specs.Operands.{operands_within}
use Rattle.pv_rules.specs.Values.{value_at}
use Rattle.pv_rules.proofs.Walks.{near_each, near_nothing}
use Rattle.pv_rules.proofs.reads.value_in_named.Goals as goal

pub returns-in-Some : goal.returns-in-Some
returns-in-Some c =
    near_each (λ o. operand_tree o.now) c.operand_of_instruction.result (groups.operand_of_instruction (instr_tree c.args.instr.now))
    c.operand_of_instruction.ensures (value_at (scope_of c.args.scope.now) (calls_of_code c.args.code)) operands_within c.in-Some.operand c.args.nearest
    c.value_in_operand.result c.in-Some.is c.value_in_operand.ensures

pub returns-in-None : goal.returns-in-None
returns-in-None c =
    near_nothing (λ o. operand_tree o.now) c.operand_of_instruction.result (groups.operand_of_instruction (instr_tree c.args.instr.now))
    c.operand_of_instruction.ensures (value_at (scope_of c.args.scope.now) (calls_of_code c.args.code)) operands_within c.args.nearest c.in-None.is
