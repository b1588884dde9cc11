use Rattle.pv_variables.proofs.Bounds.{bound-counted, cells-counted}
use Rattle.pv_variables.proofs.laws.bound_are_counted.Goals as goal

pub returns : goal.returns
returns c = record {
  bound = bound-counted c.tables_are_laid_out.ensures.entry c.tables_are_laid_out.ensures.visible;
  cells = cells-counted c.tables_are_laid_out.ensures.entry c.tables_are_laid_out.ensures.visible;
}
