use Rattle.std.proofs.Common.{◌≡◌, ◌+◌, ◌++◌, drop, map}
use Rattle.pv_flow.specs.Calls.{needed, needed_by_calls}
use Rattle.pv_flow.specs.View.{call_edge_of}
use Rattle.pv_inline.specs.Blocks.{blocks_in, codes_in}
use Rattle.pv_inline.specs.Tables.{bases_of}
use Rattle.pv_inline.proofs.table.bases_of.Given as goal

abbrev pub invariant-loop-call : goal.invariant-loop-call
invariant-loop-call l = record {
  made : l.made.items ++ bases_of (blocks_in (codes_in l.blocks)) l.total (drop l.call-index l.calls) ≡ bases_of (blocks_in (codes_in l.blocks)) 0 l.calls;
  total : l.total + needed_by_calls (needed (blocks_in (codes_in l.blocks))) (map call_edge_of (drop l.call-index l.calls))
      ≡ 0 + needed_by_calls (needed (blocks_in (codes_in l.blocks))) (map call_edge_of l.calls);
}
