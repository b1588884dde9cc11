use Rattle.std.proofs.Common.{◌≡◌, ◌++◌, drop}
use Rattle.pv_types.specs.View.{var_trees}
use Rattle.pv_mean.specs.LaidOut.{test_of}
use Rattle.pv_mean.specs.Sized.{sized_project}
use Rattle.pv_resolve.specs.Firsts.{fronts}
use Rattle.pv_resolve.proofs.firsts.PartFirsts.of.Given as goal

abbrev pub invariant-loop-of : goal.invariant-loop-of
invariant-loop-of l = record {
  part : l.so_far.part ≡ l.fn.part;
  numbers : l.so_far.numbers.items ++ fronts (sized_project l.sizes) (test_of l.so_far.part) (var_trees (drop l.of-index l.vars)) l.so_far.total
      ≡ fronts (sized_project l.sizes) (test_of l.fn.part) (var_trees l.vars) 0;
}
