use Rattle.std.proofs.Common.{Some, sym, subst}
use Rattle.pv_stretch.specs.declared.ends.StretchEnd.{StretchEnd}
use Rattle.pv_valid.specs.Claims.{ends_as}
use Rattle.pv_judge.specs.Steps.{FindsEnd, scans_found}
use Rattle.pv_judge.proofs.trace.ended.Goals as goal

pub returns-in-Fails : goal.returns-in-Fails
returns-in-Fails c = λ ranged.
    subst (λ (e : StretchEnd). FindsEnd (scans_found (ends_as c.args.claim) c.args.first c.args.count ranged c.args.good (Some e)) (Some e) c.failed.result)
    (sym c.in-Fails.is) (c.failed.ensures ranged)
