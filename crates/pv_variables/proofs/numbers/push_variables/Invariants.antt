use Rattle.std.proofs.Common.{map, ◌≡◌, drop}
use Rattle.pv_types.specs.View.{var_tree}
use Rattle.pv_tree.specs.View.{block_tree}
use Rattle.pv_mean.specs.Sources.{Source}
use Rattle.pv_resolve.specs.Contexts.{IsContext}
use Rattle.pv_variables.specs.Numbered.{found_so_far, with_variables}
use Rattle.pv_variables.proofs.numbers.push_variables.Given as goal

abbrev pub invariant-loop-var : goal.invariant-loop-var
invariant-loop-var l =
    (source : Source) → IsContext l.context source
    → with_variables source.project (block_tree l.block) (map var_tree (drop l.var-index l.vars)) (found_so_far l.briefs.items l.so_far)
    ≡ with_variables source.project (block_tree l.block) (map var_tree l.vars) (found_so_far l.fn.briefs.items l.fn.next)
