use Rattle.std.proofs.Common.{◌≡◌, ◌++◌, drop, replicate}
use Rattle.pv_call_tables.specs.Ranks.{ranks_by}
use Rattle.pv_call_tables.proofs.RankLaws.{AreAtMost}
use Rattle.pv_call_tables.proofs.ranking.ranks.Given as goal

abbrev pub invariant-loop-edge : goal.invariant-loop-edge
invariant-loop-edge l = record {
  left : l.found.items ++ ranks_by l.counts.items (drop l.edge-index l.edges) ≡ ranks_by (replicate l.locations 0) l.edges;
  within : AreAtMost l.edge-index l.counts.items;
}
