use Rattle.std.proofs.Common.{refl}
use Rattle.pv_access.specs.Accesses.{unset_check}
use Rattle.pv_access.proofs.Pushing.{one_check}
use Rattle.pv_access.proofs.reading.check_brief.Goals as goal

pub returns : goal.returns
returns c = λ ms table are.
    one_check _ _ c.args.checks.now.items c.push.new.self.items _ (unset_check ms c.args.n c.args.place) c.in_ok-push.ensures.items refl refl
    (c.in_ok-term.ensures ms table are)
