use Rattle.std.proofs.Common.{Option, sym, ap, subst, ◌∙◌}
use Rattle.pv_stretch.specs.declared.ends.StretchEnd.{StretchEnd}
use Rattle.pv_valid.specs.Claims.{ends_as}
use Rattle.pv_judge.specs.Steps.{FindsEnd, scans_found}
use Rattle.pv_judge.proofs.trace.shown.Goals as goal

pub returns-in-Some : goal.returns-in-Some
returns-in-Some c =
    let s = c.args.stretch in
    subst (λ (e : Option StretchEnd). FindsEnd (scans_found (ends_as c.args.claim) c.args.first c.args.count c.args.ranged s.good e) e c.ended.result)
    (sym c.in-Some.is) (c.ended.ensures c.args.ranged)

pub returns-in-None : goal.returns-in-None
returns-in-None c =
    let s = c.args.stretch in
    ap (λ (e : Option StretchEnd). scans_found (ends_as c.args.claim) c.args.first c.args.count c.args.ranged s.good e) c.in-None.is
    ∙ c.unfailed.ensures (ends_as c.args.claim) s.good
