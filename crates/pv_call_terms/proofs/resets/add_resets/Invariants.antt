use Rattle.std.proofs.Common.{◌≡◌, ◌++◌, drop, length}
use Rattle.pv_call_terms.specs.Places.{place_of}
use Rattle.pv_call_terms.specs.Resets.{reset_nodes, reset_sets}
use Rattle.pv_call_terms.proofs.resets.add_resets.Given as goal

abbrev pub invariant-loop-x : goal.invariant-loop-x
invariant-loop-x l = record {
  nodes : l.nodes.items ++ reset_nodes l.callee.bound l.callee.shared l.x (drop l.x l.vars)
      ≡ l.fn.nodes.items ++ reset_nodes l.callee.bound l.callee.shared 0 l.vars;
  sets : l.sets.items ++ reset_sets (place_of l.places) l.callee.bound l.callee.shared (length l.nodes.items) l.x (drop l.x l.vars)
      ≡ reset_sets (place_of l.places) l.callee.bound l.callee.shared (length l.fn.nodes.items) 0 l.vars;
}
