use Rattle.std.proofs.Common.{map, length, arith, ◌≤◌}
use Rattle.std.specs.Prelude.{None}
use Rattle.pv_tree.specs.View.{block_tree}
use Rattle.pv_rules_decl.specs.TypeNumbers.{HasWrongType}
use Rattle.pv_rules_expr.proofs.ForCallers.{near_more, near_all}
use Rattle.pv_rules_decl.proofs.TypeCycles.{missing_type_is}
use Rattle.pv_rules_decl.proofs.types.missing_type.Goals as goal

pub loop-block-preserved : goal.loop-block-preserved
loop-block-preserved c =
    near_more (λ at b. HasWrongType (map block_tree c.args.blocks.now) at b) block_tree c.args.blocks.now c.loop-block.block-index c.block-item.result None
    c.loop-block.nearest c.in_ok-nearest.nearest c.loop-block-test.true c.block-item.is c.loop-block.invariant
    (c.in_ok-nearest.ensures (map block_tree c.args.blocks.now) c.in_ok-types.ensures)

pub returns : goal.returns
returns c = λ project same.
    let le : length c.args.blocks.now ≤ c.loop-block.block-index = omega arith in
    missing_type_is project (map block_tree c.args.blocks.now) same c.loop-block.nearest
    (near_all (λ at b. HasWrongType (map block_tree c.args.blocks.now) at b) block_tree c.args.blocks.now c.loop-block.block-index None c.loop-block.nearest le
    c.loop-block.invariant)
