use Rattle.std.proofs.Common.{◌≡◌, [], map, drop}
use Rattle.pv_types.specs.Named.{types_of}
use Rattle.pv_tree.specs.View.{block_tree}
use Rattle.pv_mean.specs.ProjectSizes.{with_blocks}
use Rattle.pv_variables.proofs.types.types_among.Given as goal

abbrev pub invariant-loop-block : goal.invariant-loop-block
invariant-loop-block l = with_blocks (types_of l.types) (map block_tree (drop l.block-index l.blocks)) ≡ with_blocks [] (map block_tree l.blocks)
