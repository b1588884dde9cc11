use Rattle.std.proofs.Common.{◌≡◌}
use Rattle.pv_call_tables.specs.Widths.{text_at, summed, sums_below}
use Rattle.pv_call_tables.proofs.widths.starts.Given as goal

abbrev pub invariant-loop-l : goal.invariant-loop-l
invariant-loop-l l = record {
  total : l.total ≡ summed (text_at l.outline.ends.now l.outline.calls.now l.texts) l.l;
  made : l.made.items ≡ sums_below (text_at l.outline.ends.now l.outline.calls.now l.texts) l.l;
}
