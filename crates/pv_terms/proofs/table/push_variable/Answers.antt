use Rattle.std.proofs.Common.{refl}
use Rattle.pv_terms.proofs.table.push_variable.Goals as goal

pub returns : goal.returns
returns c = λ table. c.push.ensures table refl
