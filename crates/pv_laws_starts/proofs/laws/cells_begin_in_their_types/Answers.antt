use Rattle.pv_laws_starts.proofs.Tables.{table_starts}
use Rattle.pv_laws_starts.proofs.laws.cells_begin_in_their_types.Goals as goal

pub returns : goal.returns
returns c = table_starts
