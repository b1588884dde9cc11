use Rattle.std.proofs.Common.{rules, ◌<◌, ◌≤◌, length, arith}
use Rattle.pv_call_tables.specs.Seen.{chains_seen}
use Rattle.pv_call_tables.proofs.ChainLaws.{chain_step}
use Rattle.pv_call_tables.proofs.chains.chains_of.Goals as goal

pub loop-number-preserved : goal.loop-number-preserved
loop-number-preserved c =
    let some : 0 < c.loop-number.number = search rules in
    let within : c.loop-number.number ≤ length c.args.froms.now = c.loop-number.invariant.within in record {
      within = omega (arith, within);
      chained = chain_step c.loop-number.number c.args.froms.now c.number_at.result (chains_seen c.loop-number.found) (chains_seen c.put.new.self) _
          some within c.number_at.ensures c.put.ensures c.loop-number.invariant.chained;
    }
