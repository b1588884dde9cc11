use Rattle.pv_laws_lower.proofs.Counted.{checks_are_counted}
use Rattle.pv_laws_lower.proofs.laws.checks_are_counted.Goals as goal

pub returns : goal.returns
returns c = checks_are_counted c.parts_of_typed_expressions_have_types.ensures c.tables_are_laid_out.ensures.visible
