use Rattle.std.proofs.Common.{map, take}
use Rattle.pv_tree.specs.View.{block_tree}
use Rattle.pv_mean.specs.BlockNames.{HasNumbers}
use Rattle.pv_mean.proofs.names.BlockNames.of.Given as goal

abbrev pub invariant-loop-i : goal.invariant-loop-i
invariant-loop-i l = HasNumbers l.names (map block_tree (take l.i l.blocks))
