use Rattle.std.proofs.Common.{◌≡◌, ◌+◌, drop}
use Rattle.pv_types.specs.View.{var_trees, listed}
use Rattle.pv_types.specs.Sizes.{size_of_fields}
use Rattle.pv_mean.specs.Counts.{capped, size_known}
use Rattle.pv_mean.proofs.known.Known.of_fields.Given as goal

abbrev pub invariant-loop-of : goal.invariant-loop-of
invariant-loop-of l = record {
  within : capped l.total ≡ l.total;
  total : capped (l.total + size_of_fields (size_known l.self) (listed (var_trees (drop l.of-index l.vars))))
      ≡ capped (size_of_fields (size_known l.self) (listed (var_trees l.vars)));
}
