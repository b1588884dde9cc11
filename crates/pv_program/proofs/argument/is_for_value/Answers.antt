use Rattle.std.proofs.Common.{◌∙◌}
use Rattle.pv_tree.specs.View.{arg_tree}
use Rattle.pv_tree.specs.Scopes.{value_key}
use Rattle.pv_names.specs.Entries.{block_of}
use Rattle.pv_names.specs.Callees.{how_tree, param_tree}
use Rattle.pv_program.proofs.Arguments.{for-param, for-none}
use Rattle.pv_program.proofs.argument.is_for_value.Goals as goal

pub returns-in-Some : goal.returns-in-Some
returns-in-Some c =
    c.has_value_name.ensures
    ∙ for-param (how_tree c.args.how) (block_of c.args.callee.now) value_key (arg_tree c.args.arg.now) (param_tree c.in-Some.param)
    c.in-Some.ensures

pub returns-in-None : goal.returns-in-None
returns-in-None c =
    for-none (how_tree c.args.how) (block_of c.args.callee.now) value_key (arg_tree c.args.arg.now) c.in-None.ensures
