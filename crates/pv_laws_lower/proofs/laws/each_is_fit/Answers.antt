use Rattle.pv_laws_lower.proofs.Each.{each_is_fit}
use Rattle.pv_laws_lower.proofs.laws.each_is_fit.Goals as goal

pub returns : goal.returns
returns c = each_is_fit c.expressions_have_types.ensures
