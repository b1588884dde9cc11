use Rattle.pv_call_terms.proofs.DeedLaws.{deeds_stay_tabled}
use Rattle.pv_call_terms.proofs.laws.deeds_stay_tabled.Goals as goal

pub returns : goal.returns
returns c = deeds_stay_tabled
