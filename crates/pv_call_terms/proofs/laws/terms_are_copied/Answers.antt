use Rattle.pv_call_terms.proofs.Copied.{terms_are_copied}
use Rattle.pv_call_terms.proofs.laws.terms_are_copied.Goals as goal

pub returns : goal.returns
returns c = terms_are_copied
