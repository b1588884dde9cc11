use Rattle.std.proofs.Common.{◌≡◌, drop}
use Rattle.pv_call_tables.specs.Drawing.{next_after}
use Rattle.pv_call_tables.proofs.drawn.behind.Given as goal

abbrev pub invariant-loop-d : goal.invariant-loop-d
invariant-loop-d l = next_after l.next (drop l.d-index l.drawn) ≡ next_after l.first l.drawn
