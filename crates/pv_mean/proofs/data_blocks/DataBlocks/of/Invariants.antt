use Rattle.std.proofs.Common.{◌≡◌, ◌+◌, ℕ, List, map, drop}
use Rattle.std.specs.Prelude.{unwrap_or}
use Rattle.pv_tree.specs.View.{block_tree}
use Rattle.pv_tree.specs.Scopes.{ProjectTree}
use Rattle.pv_mean.specs.Layout.{data_first, data_size}
use Rattle.pv_mean.specs.Counts.{capped}
use Rattle.pv_mean.specs.ProjectSizes.{begin_in, AreSizesOf}
use Rattle.pv_mean.proofs.data_blocks.DataBlocks.of.Given as goal

abbrev pub invariant-loop-block : goal.invariant-loop-block
invariant-loop-block l = record {
  within : capped l.blocks_so_far.total ≡ l.blocks_so_far.total;
  begins : (project : ProjectTree) → AreSizesOf l.known project → (key : List ℕ)
      → unwrap_or (begin_in l.blocks_so_far key)
      (capped (data_first project (map block_tree (drop l.block-index l.blocks)) key l.blocks_so_far.total))
      ≡ capped (data_first project (map block_tree l.blocks) key 0);
  total : (project : ProjectTree) → AreSizesOf l.known project
      → capped (l.blocks_so_far.total + data_size project (map block_tree (drop l.block-index l.blocks)))
      ≡ capped (data_size project (map block_tree l.blocks));
}
