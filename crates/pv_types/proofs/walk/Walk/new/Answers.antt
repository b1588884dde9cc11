use Rattle.std.proofs.Common.{[]}
use Rattle.pv_types.proofs.walk.Walk.new.Goals as goal

pub returns-clause-sound : goal.returns-clause-sound
returns-clause-sound c = (c.in_ok-add_vars.ensures.adds []).sound
