use Rattle.std.proofs.Common.{◌≡◌, ◌≤◌, vec_len, vec_capacity}
use Rattle.pv_log.specs.Assignment.{Agree}
use Rattle.pv_log.proofs.assignment.Assignment.clear.Given as goal

abbrev pub invariant-loop-lit : goal.invariant-loop-lit
invariant-loop-lit l = record {
  agree : Agree l.self-inside.variables l.self-inside.marks.items l.self-inside.trail.items;
  room : l.self-inside.variables ≤ vec_capacity l.self-inside.trail;
  same : l.self-inside.variables ≡ l.fn.self.variables;
}

abbrev pub decreases-loop-lit : goal.decreases-loop-lit
decreases-loop-lit l = vec_len l.self-inside.trail
