use Rattle.pv_mean.specs.AreaBytes.{bytes_of}
use Rattle.pv_laws_scans.proofs.Bytes.{byte-in}
use Rattle.pv_laws_scans.proofs.Naming.{instance-cells, entered-cells, brief-cells, data-cells}
use Rattle.pv_laws_scans.proofs.Tables.{table-holds}
use Rattle.pv_laws_scans.proofs.name_laws.declared_names_have_cells.Goals as goal

pub returns-clause-instance : goal.returns-clause-instance
returns-clause-instance c = instance-cells

pub returns-clause-entered : goal.returns-clause-entered
returns-clause-entered c = entered-cells

pub returns-clause-brief : goal.returns-clause-brief
returns-clause-brief c = brief-cells

pub returns-clause-data : goal.returns-clause-data
returns-clause-data c = data-cells

pub returns-clause-table : goal.returns-clause-table
returns-clause-table c = λ project entry patterns view bound. table-holds project entry (bytes_of project patterns) view
    (c.tables_are_laid_out.ensures.entry project entry) (c.tables_are_laid_out.ensures.data_blocks project)
    (c.tables_are_laid_out.ensures.areas (bytes_of project patterns))
    (c.tables_are_laid_out.ensures.visible project entry (bytes_of project patterns))

pub returns-clause-byte : goal.returns-clause-byte
returns-clause-byte c = byte-in
