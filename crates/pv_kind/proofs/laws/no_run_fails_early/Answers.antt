use Rattle.pv_kind.proofs.Early.{none_early}
use Rattle.pv_kind.proofs.laws.no_run_fails_early.Goals as goal

pub returns : goal.returns
returns c = none_early
