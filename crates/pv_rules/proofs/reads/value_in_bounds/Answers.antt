use Rattle.pv_tree.specs.View.{expr_tree}
use Rattle.pv_names.specs.InScope.{scope_of}
use Rattle.pv_rules.specs.Codes.{calls_of_code}
use Rattle.pv_tree.specs.Operands.{operands_in}
use Rattle.pv_rules.specs.Values.{value_at}
use Rattle.pv_rules.proofs.Walks.{near_two}
use Rattle.pv_rules.proofs.reads.value_in_bounds.Goals as goal

pub returns : goal.returns
returns c =
    let f = value_at (scope_of c.args.scope.now) (calls_of_code c.args.code) in
    near_two f (operands_in (expr_tree c.args.first.now)) (operands_in (expr_tree c.args.last.now)) c.args.nearest c.value_in-so_far.result c.value_in.result
    c.value_in-so_far.ensures c.value_in.ensures
