use Rattle.std.proofs.Common.{rules, ◌<◌, ◌≤◌, length, arith}
use Rattle.pv_unroll.specs.Seen.{chains_seen}
use Rattle.pv_unroll.proofs.Stepping.{chain_step}
use Rattle.pv_unroll.proofs.chains.chains_of.Goals as goal

pub loop-number-preserved : goal.loop-number-preserved
loop-number-preserved c =
    let some : 0 < c.loop-number.number = search rules in
    let within : c.loop-number.number ≤ length c.args.edges.now = c.loop-number.invariant.within in record {
      within = omega (arith, within);
      chained = chain_step c.loop-number.number c.args.edges.now (chains_seen c.loop-number.found) (chains_seen c.put_one.new.self) _ some within
          c.put_one.ensures c.loop-number.invariant.chained;
    }
