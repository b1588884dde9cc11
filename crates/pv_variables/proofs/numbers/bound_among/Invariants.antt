use Rattle.std.proofs.Common.{map, ◌≡◌, ◌+◌, drop}
use Rattle.pv_types.specs.View.{var_tree}
use Rattle.pv_tree.specs.View.{block_tree}
use Rattle.pv_mean.specs.Layout.{size_among}
use Rattle.pv_mean.specs.Sources.{Source}
use Rattle.pv_resolve.specs.Contexts.{IsContext}
use Rattle.pv_variables.specs.Variables.{is_bound_in}
use Rattle.pv_variables.proofs.numbers.bound_among.Given as goal

abbrev pub invariant-loop-var : goal.invariant-loop-var
invariant-loop-var l =
    (source : Source) → IsContext l.context source
    → l.cells + size_among source.project (is_bound_in (block_tree l.block)) (map var_tree (drop l.var-index l.vars))
    ≡ size_among source.project (is_bound_in (block_tree l.block)) (map var_tree l.vars)
