use Rattle.pv_parse.proofs.Witnesses.{witness-of}
use Rattle.pv_parse.proofs.laws.kinds_have_witnesses.Goals as goal

pub returns : goal.returns
returns c = λ kind h. witness-of kind h
