use Rattle.pv_variables.proofs.Bounds.{bound-counted}
use Rattle.pv_variables.proofs.Apart.{apart, within}
use Rattle.pv_variables.proofs.laws.brief_cells_are_apart.Goals as goal

pub returns : goal.returns
returns c = record {
  apart = apart;
  within = λ source block j table entered lt.
      within source block j (bound-counted c.tables_are_laid_out.ensures.entry c.tables_are_laid_out.ensures.visible source block table entered) lt;
}
