use Rattle.std.proofs.Common.{◌∙◌}
use Rattle.pv_types.specs.View.{type_tree}
use Rattle.pv_mean.specs.Sized.{sized_project}
use Rattle.pv_mean.proofs.DataStarts.{type_sized}
use Rattle.pv_mean.proofs.sizes.Sizes.of_type.Goals as goal

pub returns : goal.returns
returns c = c.of_type.ensures
    ∙ type_sized c.args.self.now.known (sized_project c.args.self.now) c.args.self.now.of_types (type_tree c.args.ty.now)
