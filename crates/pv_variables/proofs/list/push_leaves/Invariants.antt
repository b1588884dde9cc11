use Rattle.std.proofs.Common.{◌≡◌, ◌++◌, map, drop}
use Rattle.std.specs.Prelude.{flat_map}
use Rattle.pv_tree.specs.View.{block_tree}
use Rattle.pv_flow.specs.View.{variable_of}
use Rattle.pv_variables.specs.Listed.{leaf_variables}
use Rattle.pv_variables.proofs.list.push_leaves.Given as goal

abbrev pub invariant-loop-leaf : goal.invariant-loop-leaf
invariant-loop-leaf l =
    map variable_of l.vars.items ++ flat_map (leaf_variables l.group (block_tree l.block)) (drop l.leaf-index l.leaves)
    ≡ map variable_of l.fn.vars.items ++ flat_map (leaf_variables l.group (block_tree l.block)) l.leaves
