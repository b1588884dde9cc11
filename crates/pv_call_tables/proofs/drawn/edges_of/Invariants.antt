use Rattle.std.proofs.Common.{◌≡◌, ◌++◌, drop}
use Rattle.pv_call_tables.specs.Drawing.{edges_by, next_after}
use Rattle.pv_call_tables.proofs.drawn.edges_of.Given as goal

abbrev pub invariant-loop-d : goal.invariant-loop-d
invariant-loop-d l = record {
  made : l.made.items ++ edges_by l.next (drop l.d-index l.drawn) ≡ edges_by l.first l.drawn;
  next : next_after l.next (drop l.d-index l.drawn) ≡ next_after l.first l.drawn;
}
