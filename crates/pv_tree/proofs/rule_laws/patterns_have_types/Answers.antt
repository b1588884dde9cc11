use Rattle.pv_tree.proofs.TypedPatterns.{patterns_typed}
use Rattle.pv_tree.proofs.rule_laws.patterns_have_types.Goals as goal

pub returns : goal.returns
returns c = patterns_typed
