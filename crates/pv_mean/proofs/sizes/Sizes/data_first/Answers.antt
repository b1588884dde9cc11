use Rattle.std.proofs.Common.{◌∙◌, refl, ap, sym}
use Rattle.pv_mean.specs.Counts.{capped}
use Rattle.pv_mean.specs.Sized.{sized_project}
use Rattle.pv_mean.proofs.Capping.{capped_sum, capped_twice}
use Rattle.pv_mean.proofs.DataStarts.{first_from}
use Rattle.pv_mean.proofs.sizes.Sizes.data_first.Goals as goal

pub returns : goal.returns
returns c =
    let project = sized_project c.args.self.now in
    let key = c.args.name.now.key in
    c.sum.ensures
    ∙ capped_sum c.args.first c.args.first c.find.result _ refl
    (ap capped (c.find.ensures ∙ c.args.self.now.begins key) ∙ capped_twice _)
    ∙ ap capped (sym (first_from project project.blocks key c.args.first))
