use Rattle.std.proofs.Common.{◌≡◌, ◌+◌, ◌*◌}
use Rattle.pv_inline.specs.Blocks.{codes_in}
use Rattle.pv_inline.specs.Seen.{copy_seen, making_seen}
use Rattle.pv_inline.specs.Walking.{below, locations_made}
use Rattle.pv_inline.proofs.walking.+copying.Given as goal

abbrev pub decreases-add_copy : goal.decreases-add_copy
decreases-add_copy l = 5 * l.levels + 4

abbrev pub decreases-add_locations : goal.decreases-add_locations
decreases-add_locations l = 5 * l.levels + 3

abbrev pub decreases-add_location : goal.decreases-add_location
decreases-add_location l = 5 * l.levels + 2

abbrev pub decreases-add_call : goal.decreases-add_call
decreases-add_call l = 5 * l.levels + 1

abbrev pub decreases-add_called : goal.decreases-add_called
decreases-add_called l = 5 * l.levels

abbrev pub invariant-add_locations-loop-l : goal.invariant-add_locations-loop-l
invariant-add_locations-loop-l l = making_seen l.making
    ≡ locations_made (codes_in l.blocks) (below (codes_in l.blocks) l.levels) (copy_seen l.copy) l.l (making_seen l.fn.making)
