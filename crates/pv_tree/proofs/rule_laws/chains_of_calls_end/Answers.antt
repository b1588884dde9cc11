use Rattle.pv_tree.proofs.KeptRules.{bounded}
use Rattle.pv_tree.proofs.rule_laws.chains_of_calls_end.Goals as goal

pub returns : goal.returns
returns c = bounded
