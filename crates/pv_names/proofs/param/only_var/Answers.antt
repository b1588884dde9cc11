use Rattle.std.proofs.Common.{sym, ap, ◌∙◌}
use Rattle.std.specs.Prelude.{option_map}
use Rattle.pv_types.specs.View.{var_tree, var_trees}
use Rattle.pv_names.specs.Entries.{block_of}
use Rattle.pv_names.specs.Params.{param_of}
use Rattle.pv_names.proofs.Parameters.{mapped, only_one, only_of}
use Rattle.pv_names.proofs.param.only_var.Goals as goal

pub returns-then-is_fc : goal.returns-then-is_fc
returns-then-is_fc c =
    mapped var_tree param_of c.sole_input.result
    ∙ ap (option_map param_of) c.sole_input.ensures
    ∙ only_one (var_trees c.args.entry.now.block.now.interface.vars.items)
    ∙ only_of (block_of c.args.entry.now) (sym c.is_fc.ensures ∙ c.if-is_fc.true)
