use Rattle.std.proofs.Common.{◌∙◌}
use Rattle.pv_types.specs.View.{var_trees}
use Rattle.pv_mean.specs.Sized.{sized_project}
use Rattle.pv_mean.proofs.DataStarts.{instance_sized}
use Rattle.pv_mean.proofs.sizes.Sizes.of_instance.Goals as goal

pub returns : goal.returns
returns c = c.of_instance.ensures
    ∙ instance_sized c.args.self.now.known (sized_project c.args.self.now) c.args.self.now.of_types (var_trees c.args.vars.now)
