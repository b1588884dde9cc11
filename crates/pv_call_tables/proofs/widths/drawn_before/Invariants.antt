use Rattle.std.proofs.Common.{◌≡◌}
use Rattle.pv_call_tables.specs.Widths.{drawn_at, summed, sums_below}
use Rattle.pv_call_tables.proofs.widths.drawn_before.Given as goal

abbrev pub invariant-loop-l : goal.invariant-loop-l
invariant-loop-l l = record {
  total : l.total ≡ summed (drawn_at l.outline.ends.now l.outline.calls.now l.called.sizes.now l.called.counts.now l.called.outs) l.l;
  made : l.made.items
      ≡ sums_below (drawn_at l.outline.ends.now l.outline.calls.now l.called.sizes.now l.called.counts.now l.called.outs) l.l;
}
