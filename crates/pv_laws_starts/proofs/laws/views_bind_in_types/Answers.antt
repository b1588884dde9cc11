use Rattle.pv_laws_starts.proofs.Bindings.{view_binds}
use Rattle.pv_laws_starts.proofs.laws.views_bind_in_types.Goals as goal

pub returns : goal.returns
returns c = view_binds
