use Rattle.std.proofs.Common.{◌≡◌, take}
use Rattle.pv_graph.specs.Graphs.{lists_of}
use Rattle.pv_rules_call.specs.ByNumber.{links_graph}
use Rattle.pv_rules_call.proofs.by_number.targets_of_all.Given as goal

abbrev pub invariant-loop-links : goal.invariant-loop-links
invariant-loop-links l = lists_of l.next.items ≡ links_graph (take l.links-index l.all)
