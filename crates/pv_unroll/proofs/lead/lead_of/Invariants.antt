use Rattle.std.proofs.Common.{◌≡◌, drop}
use Rattle.pv_unroll.specs.Leading.{lead_from}
use Rattle.pv_unroll.specs.Seen.{table_seen}
use Rattle.pv_unroll.proofs.lead.lead_of.Given as goal

abbrev pub invariant-loop-around : goal.invariant-loop-around
invariant-loop-around l = lead_from (table_seen l.table) (drop l.around-index l.nest) l.way l.sum ≡ lead_from (table_seen l.table) l.nest l.way 0
