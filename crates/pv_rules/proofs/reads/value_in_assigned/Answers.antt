use Rattle.pv_tree.specs.View.{call_tree, operand_tree}
use Rattle.pv_names.specs.InScope.{scope_of}
use Rattle.pv_tree.specs.Operands.{operands_within}
use Rattle.pv_rules.specs.Codes.{calls_of_code}
use Rattle.pv_rules.specs.Reads.{reads_of_call}
use Rattle.pv_rules.specs.Values.{value_at}
use Rattle.pv_rules.proofs.Walks.{near_two}
use Rattle.pv_rules.proofs.reads.value_in_assigned.Goals as goal

pub returns : goal.returns
returns c =
    let f = value_at (scope_of c.args.scope.now) (calls_of_code c.args.code) in
    near_two f (operands_within (operand_tree c.args.target.now)) (reads_of_call (call_tree c.args.call.now)) c.args.nearest
    c.value_in_operand-so_far.result c.value_in_call.result c.value_in_operand-so_far.ensures c.value_in_call.ensures
