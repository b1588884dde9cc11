use Rattle.std.proofs.Common.{◌≡◌, map, take}
use Rattle.pv_tree.specs.View.{block_tree}
use Rattle.pv_names.specs.Entries.{block_of}
use Rattle.pv_names.proofs.blocks.entries.Given as goal

abbrev pub invariant-loop-block : goal.invariant-loop-block
invariant-loop-block l = map block_of l.entries.items ≡ map block_tree (take l.block-index l.blocks)
