use Rattle.pv_laws_starts.proofs.Tables.{source_has_starts, fitting_has_starts}
use Rattle.pv_laws_starts.proofs.laws.sources_begin_in_their_types.Goals as goal

pub returns-clause-bound : goal.returns-clause-bound
returns-clause-bound c = source_has_starts

pub returns-clause-fitting : goal.returns-clause-fitting
returns-clause-fitting c = fitting_has_starts
