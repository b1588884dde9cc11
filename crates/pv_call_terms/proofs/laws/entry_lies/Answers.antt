use Rattle.pv_call_terms.proofs.Lying.{entry_lies}
use Rattle.pv_call_terms.proofs.laws.entry_lies.Goals as goal

pub returns : goal.returns
returns c = entry_lies
