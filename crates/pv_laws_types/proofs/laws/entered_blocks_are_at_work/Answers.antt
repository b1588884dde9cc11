use Rattle.pv_laws_types.proofs.Entered.{entered}
use Rattle.pv_laws_types.proofs.laws.entered_blocks_are_at_work.Goals as goal

pub returns : goal.returns
returns c = entered c.tables_are_laid_out.ensures.visible
