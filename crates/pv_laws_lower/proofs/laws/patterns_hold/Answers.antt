use Rattle.pv_laws_lower.proofs.Patterns.{patterns_hold}
use Rattle.pv_laws_lower.proofs.laws.patterns_hold.Goals as goal

pub returns : goal.returns
returns c = patterns_hold c.laws_below_hold.ensures (λ source laid. c.entered_blocks_are_at_work.ensures source laid.table laid.there)
    c.entry_lies.ensures c.checks_are_counted.ensures
