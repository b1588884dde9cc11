use Rattle.std.proofs.Common.{◌≡◌, length}
use Rattle.pv_unroll.specs.Walking.{ended_walk}
use Rattle.pv_unroll.specs.Seen.{table_seen, state_seen}
use Rattle.pv_unroll.proofs.walk.Walk.go_on.Given as goal

abbrev pub invariant-loop-last : goal.invariant-loop-last
invariant-loop-last l = ended_walk (table_seen l.table) (length l.self.nest.items) (state_seen l.self l.laid)
    ≡ ended_walk (table_seen l.table) (length l.fn.self.nest.items) (state_seen l.fn.self l.fn.laid)

abbrev pub decreases-loop-last : goal.decreases-loop-last
decreases-loop-last l = length l.self.nest.items
