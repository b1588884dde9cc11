use Rattle.std.proofs.Common.{◌≡◌, ◌++◌, drop}
use Rattle.pv_call_tables.specs.Drawing.{overs_by, next_after}
use Rattle.pv_call_tables.proofs.drawn.overs_of.Given as goal

abbrev pub invariant-loop-d : goal.invariant-loop-d
invariant-loop-d l = record {
  made : l.made.items ++ overs_by l.next (drop l.d-index l.drawn) ≡ overs_by l.first l.drawn;
  next : next_after l.next (drop l.d-index l.drawn) ≡ next_after l.first l.drawn;
}
