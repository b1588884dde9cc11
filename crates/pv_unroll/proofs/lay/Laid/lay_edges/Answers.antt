use Rattle.std.proofs.Common.{rules, ◌-◌, ◌<◌, length, refl}
use Rattle.pv_unroll.specs.Seen.{laid_seen, table_seen}
use Rattle.pv_unroll.proofs.Stepping.{edges_step}
use Rattle.pv_unroll.proofs.lay.Laid.lay_edges.Goals as goal

pub loop-preserved : goal.loop-preserved
loop-preserved c =
    let lt : c.loop.counter < length c.args.table.now.edges.now = search rules in
    edges_step (table_seen c.args.table.now) c.args.nest.now (length c.args.table.now.edges.now) c.loop.counter c.loop.left c.number_at-left.result
    (c.loop.left - 1) (laid_seen c.loop.self) (laid_seen c.lay_one.new.self) _ lt c.if-left-eq0.false refl c.in_ok-lay_one.ensures c.number_at-left.ensures
    c.loop.invariant
