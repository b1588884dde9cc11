use Rattle.std.proofs.Common.{◌≡◌, ◌≤◌, length, drop, replicate}
use Rattle.pv_call_tables.specs.Chains.{all_chained}
use Rattle.pv_call_tables.specs.Seen.{chains_seen}
use Rattle.pv_call_tables.proofs.chains.chains_of.Given as goal

-- those from `number` on are chained
abbrev pub invariant-loop-number : goal.invariant-loop-number
invariant-loop-number l = record {
  within : l.number ≤ length l.froms;
  chained : chains_seen l.found
      ≡ all_chained l.number (drop l.number l.froms) (record { heads = replicate l.locations 0; nexts = replicate (length l.froms) 0 });
}

abbrev pub decreases-loop-number : goal.decreases-loop-number
decreases-loop-number l = l.number
