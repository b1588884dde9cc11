use Rattle.std.proofs.Common.{◌≡◌, drop}
use Rattle.pv_types.specs.View.{var_trees}
use Rattle.pv_mean.specs.Counts.{capped}
use Rattle.pv_mean.specs.Sized.{sized_project}
use Rattle.pv_mean.specs.LaidOut.{laid_counted, test_of}
use Rattle.pv_mean.proofs.sizes.Sizes.variable.Given as goal

abbrev pub invariant-loop-of : goal.invariant-loop-of
invariant-loop-of l =
    laid_counted (sized_project l.self) (test_of l.part) (var_trees (drop l.of-index l.vars)) l.name.key l.at
    ≡ laid_counted (sized_project l.self) (test_of l.part) (var_trees l.vars) l.name.key (capped l.first)
