use Rattle.pv_call_terms.proofs.DeedLaws.{deeds_are_copied}
use Rattle.pv_call_terms.proofs.laws.deeds_are_copied.Goals as goal

pub returns : goal.returns
returns c = deeds_are_copied
