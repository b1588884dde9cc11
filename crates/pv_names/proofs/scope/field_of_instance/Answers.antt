use Rattle.std.proofs.Common.{◌∙◌}
use Rattle.pv_types.specs.View.{var_trees}
use Rattle.pv_names.proofs.Fields.{filtered}
use Rattle.pv_names.proofs.scope.field_of_instance.Goals as goal

pub returns : goal.returns
returns c =
    c.find_of.ensures ∙ filtered c.args.name.now.key (var_trees c.args.entry.now.block.now.interface.vars.items)
