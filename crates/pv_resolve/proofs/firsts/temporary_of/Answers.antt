use Rattle.std.proofs.Common.{ap, ◌∙◌}
use Rattle.pv_types.specs.View.{var_trees}
use Rattle.pv_mean.specs.LaidOut.{test_of}
use Rattle.pv_mean.specs.Sized.{sized_project}
use Rattle.pv_resolve.specs.Firsts.{fronts}
use Rattle.pv_resolve.proofs.firsts.temporary_of.Goals as goal

pub returns-in_ok-firsts-in-Fb-clause-fronts : goal.returns-in_ok-firsts-in-Fb-clause-fronts
returns-in_ok-firsts-in-Fb-clause-fronts c =
    c.in_ok-firsts-in-Fb.ensures.fronts
    ∙ ap (λ vs. fronts (sized_project c.args.sizes.now) (test_of c.in_ok-firsts-in-Fb.firsts.part) (var_trees vs) 0) c.as_slice-vars.ensures.value
