use Rattle.pv_call_terms.proofs.Copied.{terms_stay_ordered}
use Rattle.pv_call_terms.proofs.laws.terms_stay_ordered.Goals as goal

pub returns : goal.returns
returns c = terms_stay_ordered
