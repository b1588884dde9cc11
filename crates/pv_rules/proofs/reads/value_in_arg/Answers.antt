use Rattle.std.proofs.Common.{ap, ◌∙◌, sym}
use Rattle.std.specs.Prelude.{option_map}
use Rattle.pv_tree.specs.View.{arg_tree, operand_tree}
use Rattle.pv_tree.specs.Rules.Callable.{is_output_where}
use Rattle.pv_names.specs.Callees.{callee_tree, how_tree}
use Rattle.pv_names.specs.InScope.{scope_of}
use Rattle.pv_rules.specs.Codes.{calls_of_code}
use Rattle.pv_rules.proofs.OutputLaws.{handed}
use Rattle.pv_rules.proofs.reads.value_in_arg.Goals as goal

pub returns-then-is_output : goal.returns-then-is_output
returns-then-is_output c =
    handed (scope_of c.args.scope.now) (calls_of_code c.args.code) (callee_tree c.args.callee) (how_tree c.args.how) (arg_tree c.args.arg.now) c.requires
    (operand_tree c.in-Some.operand.now) (sym c.operand_of.ensures ∙ ap (option_map (λ o. operand_tree o.now)) c.in-Some.is)
    (ap is_output_where (sym c.param_in.ensures) ∙ sym c.is_output.ensures ∙ c.if-is_output.true) c.args.nearest c.value_in_operand.result
    c.value_in_operand.ensures
