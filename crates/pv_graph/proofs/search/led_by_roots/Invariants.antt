use Rattle.std.proofs.Common.{length, ◌+◌}
use Rattle.pv_graph.specs.Graphs.{lists_of}
use Rattle.pv_graph.specs.Searches.{marks_of}
use Rattle.pv_graph.specs.Arounds.{IsSpread}
use Rattle.pv_graph.proofs.Marking.{unseen}
use Rattle.pv_graph.proofs.search.led_by_roots.Given as goal

abbrev pub invariant-loop-node : goal.invariant-loop-node
invariant-loop-node l = IsSpread (lists_of l.next) l.roots (marks_of l.search)

abbrev pub decreases-loop-node : goal.decreases-loop-node
decreases-loop-node l = unseen l.search.seen.items + length l.search.work.items
