use Rattle.pv_laws_sizes.proofs.Asked.{kept_down, kept_up}
use Rattle.pv_laws_sizes.proofs.laws.limit_is_kept_on_walks.Goals as goal

pub returns : goal.returns
returns c project all entry from are at = (kept_down project all entry from are at, kept_up project all entry from are at)
