use Rattle.pv_laws_types.proofs.Called.{called_at_work}
use Rattle.pv_laws_types.proofs.laws.called_blocks_are_at_work.Goals as goal

pub returns : goal.returns
returns c = λ source act site b keeps symbols functions table work e.
    called_at_work c.tables_are_laid_out.ensures.visible source table keeps symbols functions act work site b e
