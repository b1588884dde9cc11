use Rattle.pv_tree.proofs.KeptRules.{grounded}
use Rattle.pv_tree.proofs.NamedTypes.{types_nest}
use Rattle.pv_tree.proofs.rule_laws.named_types_are_grounded.Goals as goal

pub returns : goal.returns
returns c = record { grounded = grounded; nest = types_nest }
