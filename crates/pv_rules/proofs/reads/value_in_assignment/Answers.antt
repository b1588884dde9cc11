use Rattle.pv_tree.specs.View.{expr_tree, operand_tree}
use Rattle.pv_names.specs.InScope.{scope_of}
use Rattle.pv_rules.specs.Codes.{calls_of_code}
use Rattle.pv_tree.specs.Operands.{operands_in, operands_within}
use Rattle.pv_rules.specs.Values.{value_at}
use Rattle.pv_rules.proofs.Walks.{near_two}
use Rattle.pv_rules.proofs.reads.value_in_assignment.Goals as goal

pub returns : goal.returns
returns c =
    let f = value_at (scope_of c.args.scope.now) (calls_of_code c.args.code) in
    near_two f (operands_within (operand_tree c.args.target.now)) (operands_in (expr_tree c.args.value.now)) c.args.nearest c.value_in_operand-so_far.result c.value_in.result
    c.value_in_operand-so_far.ensures c.value_in.ensures
