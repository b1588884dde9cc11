use Rattle.std.proofs.Common.{true, ap, sym, ◌∙◌, option_map}
use Rattle.pv_types.specs.View.{var_trees}
use Rattle.pv_types.proofs.ForCallers.{structure_seen, fields-of-listed}
use Rattle.pv_mean.specs.Layout.{laid_among, field_from}
use Rattle.pv_mean.specs.Sized.{sized_project}
use Rattle.pv_mean.specs.LaidOut.{capped_laid}
use Rattle.pv_mean.proofs.sizes.Sizes.field.Goals as goal

pub returns-in-Struct : goal.returns-in-Struct
returns-in-Struct c =
    let project = sized_project c.args.self.now in
    let key = c.args.name.now.key in
    let first = c.args.laid.now.first in
    let vars = c.as_slice.result.now in
    c.variable.ensures
    ∙ ap (option_map capped_laid) (ap (λ vs. laid_among project (λ s. true) vs key first) (sym (fields-of-listed (var_trees vars)))
    ∙ ap (λ t. field_from project t first key)
    (sym (structure_seen c.args.laid.now.ty.now c.in-Struct.vars vars c.in-Struct.is c.as_slice.ensures.value)))
