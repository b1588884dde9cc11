use Rattle.std.proofs.Common.{◌≡◌, ◌≤◌, length, take, vec_len, vec_capacity}
use Rattle.pv_watch.specs.Trail.{Agree, Rise}
use Rattle.pv_watch.proofs.trail.Trail.undo.Given as goal

abbrev pub invariant-back : goal.invariant-back
invariant-back l = record {
  agree : Agree l.self-inside.variables l.self-inside.places.items l.self-inside.falses.items
      l.self-inside.reasons.items l.self-inside.starts.items;
  room : l.self-inside.variables ≤ vec_capacity l.self-inside.falses;
  more_room : l.self-inside.variables ≤ vec_capacity l.self-inside.starts;
  variables : l.self-inside.variables ≡ l.initial.self-inside.variables;
  reasons : l.self-inside.reasons.items ≡ l.initial.self-inside.reasons.items;
  starts : l.self-inside.starts.items ≡ l.initial.self-inside.starts.items;
  shorter : length l.self-inside.falses.items ≤ length l.initial.self-inside.falses.items;
  falses : l.self-inside.falses.items ≡ take (length l.self-inside.falses.items) l.initial.self-inside.falses.items;
  enough : l.start ≤ length l.self-inside.falses.items;
  rise : Rise l.self-inside.starts.items l.start;
}

abbrev pub decreases-back : goal.decreases-back
decreases-back l = vec_len l.self-inside.falses
