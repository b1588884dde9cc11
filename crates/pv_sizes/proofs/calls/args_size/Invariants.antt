use Rattle.std.proofs.Common.{◌≡◌, ◌+◌, map, drop}
use Rattle.pv_tree.specs.View.{arg_tree}
use Rattle.pv_names.specs.Entries.{block_of}
use Rattle.pv_names.specs.InScope.{scope_of}
use Rattle.pv_names.specs.Callees.{how_tree}
use Rattle.pv_sizes.specs.Counts.{capped}
use Rattle.pv_sizes.specs.Sizes.{size_of_args}
use Rattle.pv_sizes.proofs.calls.args_size.Given as goal

abbrev pub invariant-loop-arg : goal.invariant-loop-arg
invariant-loop-arg l = record {
  within : capped l.total ≡ l.total;
  total : capped (l.total + size_of_args (scope_of l.scope) (how_tree l.how) (block_of l.callee) (map arg_tree (drop l.arg-index l.args)))
      ≡ capped (size_of_args (scope_of l.scope) (how_tree l.how) (block_of l.callee) (map arg_tree l.args));
}
