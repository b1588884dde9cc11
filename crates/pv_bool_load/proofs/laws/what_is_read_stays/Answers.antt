use Rattle.pv_bool_load.proofs.Staying.{stays, stays_behind}
use Rattle.pv_bool_load.proofs.laws.what_is_read_stays.Goals as goal

pub returns-clause-alike : goal.returns-clause-alike
returns-clause-alike c = stays

pub returns-clause-written : goal.returns-clause-written
returns-clause-written c = stays_behind
