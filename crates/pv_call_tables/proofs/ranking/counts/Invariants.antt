use Rattle.std.proofs.Common.{◌≡◌, drop, replicate}
use Rattle.pv_call_tables.specs.Ranks.{counted}
use Rattle.pv_call_tables.proofs.RankLaws.{AreAtMost}
use Rattle.pv_call_tables.proofs.ranking.counts.Given as goal

abbrev pub invariant-loop-edge : goal.invariant-loop-edge
invariant-loop-edge l = record {
  left : counted l.found.items (drop l.edge-index l.edges) ≡ counted (replicate l.locations 0) l.edges;
  within : AreAtMost l.edge-index l.found.items;
}
