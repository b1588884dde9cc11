use Rattle.std.proofs.Common.{◌∙◌}
use Rattle.pv_tree.specs.View.{arg_tree}
use Rattle.pv_names.specs.Entries.{block_of}
use Rattle.pv_names.specs.Callees.{how_tree}
use Rattle.pv_names.proofs.Parameters.{for_none, for_some}
use Rattle.pv_names.proofs.param.param_for.Goals as goal

pub returns-in-None : goal.returns-in-None
returns-in-None c =
    c.only_input.ensures ∙ for_none (how_tree c.args.how) (block_of c.args.entry.now) (arg_tree c.args.arg.now) c.in-None.is

pub returns-in-Some : goal.returns-in-Some
returns-in-Some c =
    c.named_param.ensures
    ∙ for_some (how_tree c.args.how) (block_of c.args.entry.now) (arg_tree c.args.arg.now) (c.in-Some.name, c.in-Some.field-0-1) c.in-Some.is
