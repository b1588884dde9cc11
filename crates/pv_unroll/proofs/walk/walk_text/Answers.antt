use Rattle.std.proofs.Common.{rules, ◌-◌, ◌<◌, ◌≤◌}
use Rattle.pv_unroll.specs.Seen.{table_seen, state_seen}
use Rattle.pv_unroll.proofs.Stepping.{walk_stops, walk_steps}
use Rattle.pv_unroll.proofs.walk.walk_text.Goals as goal

pub returns-then-walk-table : goal.returns-then-walk-table
returns-then-walk-table c =
    let le : c.args.table.now.locations ≤ c.loop.walk.at = search rules in
    walk_stops (table_seen c.args.table.now) (c.args.steps - c.loop.counter) (state_seen c.loop.walk c.loop.laid) _ le c.loop.invariant

pub loop-preserved : goal.loop-preserved
loop-preserved c =
    let lt : c.loop.counter < c.args.steps = search rules in
    let low : c.loop.walk.at < c.args.table.now.locations = search rules in
    walk_steps (table_seen c.args.table.now) c.args.steps c.loop.counter (state_seen c.loop.walk c.loop.laid)
    (state_seen c.step.new.self c.step.new.laid) _ lt low c.in_ok-step.ensures c.loop.invariant
