use Rattle.pv_top.proofs.Kept.{rechecks_as}
use Rattle.pv_top.proofs.laws.what_is_kept_is_rechecked.Goals as goal

pub returns : goal.returns
returns c = rechecks_as
