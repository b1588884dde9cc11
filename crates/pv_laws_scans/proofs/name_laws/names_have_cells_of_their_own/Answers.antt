use Rattle.pv_laws_scans.proofs.Bytes.{byte-apart}
use Rattle.pv_laws_scans.proofs.Naming.{instance-apart, brief-apart, data-apart_of}
use Rattle.pv_laws_scans.proofs.name_laws.names_have_cells_of_their_own.Goals as goal

pub returns-clause-instance : goal.returns-clause-instance
returns-clause-instance c = instance-apart

pub returns-clause-brief : goal.returns-clause-brief
returns-clause-brief c = brief-apart

pub returns-clause-data : goal.returns-clause-data
returns-clause-data c = data-apart_of

pub returns-clause-byte : goal.returns-clause-byte
returns-clause-byte c = byte-apart
