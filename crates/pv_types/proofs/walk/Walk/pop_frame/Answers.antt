use Rattle.std.proofs.Common.{refl}
use Rattle.pv_types.proofs.Walking.{popped}
use Rattle.pv_types.proofs.walk.Walk.pop_frame.Goals as goal

pub returns-clause-pops : goal.returns-clause-pops
returns-clause-pops c = λ types. popped types _ _ c.pop.new.self.items c.in_ok-frame.frame c.requires c.in_ok-frame.ensures.items refl
    c.truncate.ensures.items refl
