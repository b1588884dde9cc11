use Rattle.pv_mean.proofs.Tables.{entry-counted, data-counted_all, areas-counted}
use Rattle.pv_mean.proofs.VisibleParts.{visible-first}
use Rattle.pv_mean.proofs.laws.tables_are_laid_out.Goals as goal

pub returns-clause-entry : goal.returns-clause-entry
returns-clause-entry c = entry-counted

pub returns-clause-data_blocks : goal.returns-clause-data_blocks
returns-clause-data_blocks c = data-counted_all

pub returns-clause-areas : goal.returns-clause-areas
returns-clause-areas c = areas-counted

pub returns-clause-visible : goal.returns-clause-visible
returns-clause-visible c = visible-first
