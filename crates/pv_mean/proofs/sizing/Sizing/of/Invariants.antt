use Rattle.std.proofs.Common.{◌≡◌, ◌++◌, map, drop}
use Rattle.pv_tree.specs.View.{block_tree}
use Rattle.pv_mean.specs.Visits.{visits_of, seeds_of}
use Rattle.pv_mean.proofs.sizing.Sizing.of.Given as goal

abbrev pub invariant-loop-block : goal.invariant-loop-block
invariant-loop-block l =
    visits_of l.tasks.items ++ seeds_of (map block_tree (drop l.block-index l.blocks)) ≡ seeds_of (map block_tree l.blocks)
