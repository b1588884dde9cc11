use Rattle.std.proofs.Common.{refl}
use Rattle.pv_access.proofs.Pushing.{one_set}
use Rattle.pv_access.proofs.setting.push_set.Goals as goal

pub returns : goal.returns
returns c = λ t table at.
    one_set c.args.nodes.now.items c.args.sets.now.items c.push.new.self.items _ c.args.variable t c.in_ok-push.ensures.items refl table at
