use Rattle.std.proofs.Common.{map, length, arith, refl, ◌≤◌}
use Rattle.pv_tree.specs.View.{block_tree}
use Rattle.pv_rules_decl.specs.BlockLists.{DoublesNameIn}
use Rattle.pv_rules_expr.proofs.ForCallers.{near_more, near_all}
use Rattle.pv_rules_decl.proofs.Projecting.{doubled_name_is}
use Rattle.pv_rules_decl.proofs.on_declarations.doubled_name.Goals as goal

pub loop-block-preserved : goal.loop-block-preserved
loop-block-preserved c =
    near_more (λ at b. DoublesNameIn at b) block_tree c.args.blocks.now c.loop-block.block-index c.block-item.result c.in_ok-nearest.nearest c.loop-block.nearest
    c.in_ok-nearest-2.nearest c.loop-block-test.true c.block-item.is c.loop-block.invariant c.in_ok-nearest-2.ensures

pub returns : goal.returns
returns c = λ project same.
    let le : length c.args.blocks.now ≤ c.loop-block.block-index = omega arith in
    doubled_name_is project c.args.blocks.now (map block_tree c.args.blocks.now) c.in_ok-nearest.nearest c.loop-block.nearest refl same c.in_ok-nearest.ensures
    (near_all (λ at b. DoublesNameIn at b) block_tree c.args.blocks.now c.loop-block.block-index c.in_ok-nearest.nearest c.loop-block.nearest le c.loop-block.invariant)
