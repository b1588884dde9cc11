use Rattle.pv_laws_lower.proofs.Patterns.{scans_are_seen}
use Rattle.pv_laws_lower.proofs.laws.scans_are_seen.Goals as goal

pub returns : goal.returns
returns c = scans_are_seen c.scans_keep_the_ranges.ensures.end
