use Rattle.pv_tree.proofs.PartTypes.{parts_have_types}
use Rattle.pv_tree.proofs.rule_laws.parts_of_typed_expressions_have_types.Goals as goal

pub returns : goal.returns
returns c = parts_have_types
