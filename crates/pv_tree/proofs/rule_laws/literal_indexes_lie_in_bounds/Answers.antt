use Rattle.pv_tree.proofs.KeptRules.{indexes_lie}
use Rattle.pv_tree.proofs.rule_laws.literal_indexes_lie_in_bounds.Goals as goal

pub returns : goal.returns
returns c = indexes_lie
