use Rattle.std.proofs.Common.{◌≡◌, ◌-◌}
use Rattle.pv_unroll.specs.Walking.{walked_from, walked}
use Rattle.pv_unroll.specs.Seen.{table_seen, laid_seen, state_seen}
use Rattle.pv_unroll.proofs.walk.walk_text.Given as goal

-- the steps that are left lay what all of them do
abbrev pub invariant-loop : goal.invariant-loop
invariant-loop l = (walked_from (table_seen l.table) (l.steps - l.counter) (state_seen l.walk l.laid)).laid
    ≡ walked (table_seen l.table) l.steps (laid_seen l.fn.laid)
