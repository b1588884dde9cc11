use Rattle.std.proofs.Common.{◌≡◌, ◌+◌, drop}
use Rattle.pv_types.specs.View.{var_trees}
use Rattle.pv_mean.specs.Layout.{size_among}
use Rattle.pv_mean.specs.Counts.{capped}
use Rattle.pv_mean.specs.Sized.{sized_project}
use Rattle.pv_mean.specs.LaidOut.{test_of}
use Rattle.pv_mean.proofs.sizes.Sizes.of_variables.Given as goal

abbrev pub invariant-loop-of : goal.invariant-loop-of
invariant-loop-of l = record {
  within : capped l.total ≡ l.total;
  total : capped (l.total + size_among (sized_project l.self) (test_of l.part) (var_trees (drop l.of-index l.vars)))
      ≡ capped (size_among (sized_project l.self) (test_of l.part) (var_trees l.vars));
}
