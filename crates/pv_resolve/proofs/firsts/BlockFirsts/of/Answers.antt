use Rattle.std.proofs.Common.{ap, ◌∙◌}
use Rattle.pv_types.specs.View.{var_trees}
use Rattle.pv_mean.specs.LaidOut.{test_of}
use Rattle.pv_mean.specs.Sized.{sized_project}
use Rattle.pv_resolve.specs.Firsts.{fronts}
use Rattle.pv_resolve.proofs.firsts.BlockFirsts.of.Goals as goal

pub returns : goal.returns
returns c =
    record {
      firsts = record {
        main = c.in_ok-main.ensures.fronts
            ∙ ap (λ vs. fronts (sized_project c.args.sizes.now) (test_of c.in_ok-main.main.part) (var_trees vs) 0) c.as_slice-vars.ensures.value;
        temporary = c.in_ok-temporary.ensures.fronts;
      };
      part = c.in_ok-main.ensures.part ∙ c.main_part.ensures;
      two = c.in_ok-temporary.ensures.two;
      second = c.in_ok-temporary.ensures.second;
    }
