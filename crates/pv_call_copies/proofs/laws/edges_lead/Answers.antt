use Rattle.pv_call_copies.proofs.Forward.{edges_lead}
use Rattle.pv_call_copies.proofs.laws.edges_lead.Goals as goal

pub returns : goal.returns
returns c = λ blocks b p fit sound at. edges_lead blocks fit sound b p at
