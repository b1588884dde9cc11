use Rattle.std.proofs.Common.{◌≡◌, ◌++◌, map, take}
use Rattle.pv_call_terms.specs.Places.{place_of}
use Rattle.pv_call_terms.specs.Terms.{node_at}
use Rattle.pv_call_terms.proofs.terms.add_terms.Given as goal

abbrev pub invariant-loop-node : goal.invariant-loop-node
invariant-loop-node l = l.all.items ≡ l.fn.all.items ++ map (node_at (place_of l.places) l.after) (take l.node-index l.nodes)
