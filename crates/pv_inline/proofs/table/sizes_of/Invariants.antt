use Rattle.std.proofs.Common.{◌≡◌, take}
use Rattle.pv_inline.specs.Blocks.{blocks_in, codes_in}
use Rattle.pv_inline.specs.Tables.{sizes_of}
use Rattle.pv_inline.proofs.table.sizes_of.Given as goal

abbrev pub invariant-loop-call : goal.invariant-loop-call
invariant-loop-call l = l.made.items ≡ sizes_of (blocks_in (codes_in l.blocks)) (take l.call-index l.calls)
