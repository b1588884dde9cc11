use Rattle.pv_tree.proofs.TypedProjects.{each_has_type}
use Rattle.pv_tree.proofs.rule_laws.expressions_have_types.Goals as goal

pub returns : goal.returns
returns c = each_has_type
