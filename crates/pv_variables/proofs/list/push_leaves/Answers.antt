use Rattle.std.proofs.Common.{refl}
use Rattle.std.proofs.lemmas.List.{drop_all}
use Rattle.pv_tree.specs.View.{block_tree}
use Rattle.pv_variables.specs.Listed.{leaf_variables}
use Rattle.pv_variables.proofs.Listing.{leaves_left, leaves_done}
use Rattle.pv_variables.proofs.list.push_leaves.Goals as goal

pub loop-leaf-init : goal.loop-leaf-init
loop-leaf-init c = refl

pub loop-leaf-preserved : goal.loop-leaf-preserved
loop-leaf-preserved c =
    leaves_left (leaf_variables c.args.group (block_tree c.args.block.now)) c.args.leaves.now c.loop-leaf.leaf-index c.leaf-item.result
    c.loop-leaf.vars.items c.push_leaf.new.vars.items _ c.loop-leaf-test.true c.leaf-item.is c.in_ok-push_leaf.ensures c.loop-leaf.invariant

pub returns : goal.returns
returns c =
    leaves_done (leaf_variables c.args.group (block_tree c.args.block.now)) c.args.leaves.now c.loop-leaf.leaf-index c.loop-leaf.vars.items _
    (drop_all c.loop-leaf.leaf-index c.args.leaves.now c.loop-leaf-test.false) c.loop-leaf.invariant
