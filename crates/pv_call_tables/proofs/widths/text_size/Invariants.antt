use Rattle.std.proofs.Common.{◌≡◌}
use Rattle.pv_call_tables.specs.Widths.{text_at, summed}
use Rattle.pv_call_tables.proofs.widths.text_size.Given as goal

abbrev pub invariant-loop-l : goal.invariant-loop-l
invariant-loop-l l = l.total ≡ summed (text_at l.outline.ends.now l.outline.calls.now l.texts) l.l
