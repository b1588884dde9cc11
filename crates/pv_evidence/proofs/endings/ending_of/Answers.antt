use Rattle.std.proofs.Common.{◌≡◌, true, List, sym, subst, ◌∙◌}
use Rattle.pv_machine.specs.Machines.{Values}
use Rattle.pv_claims.specs.declared.claim.Claim.TheVariants as claim
use Rattle.pv_valid.specs.Shown.{IsStretch}
use Rattle.pv_valid.specs.Claims.{ends_as}
use Rattle.pv_valid.specs.Starts.{state_from}
use Rattle.pv_valid.specs.Validity.{AreInputs, first_state}
use Rattle.pv_evidence.proofs.Tellings.{stretch-tells, start-is, state-is}
use Rattle.pv_evidence.proofs.endings.ending_of.Goals as goal

pub returns-clause-told : goal.returns-clause-told
returns-clause-told g c =
    let case = g.J.Judged.case c.args.case.now in
    let t = c.args.trace.now in
    let r = c.requires.replays in
    let at = c.start_of.ensures in
    let good = c.stretch.result.good in
    let end = c.stretch.result.ending in
    let start = start-is case t t.image c.start_of.result at r.begins in
    let are = subst (λ (xs : List Values). AreInputs case xs) (sym c.as_slice.ensures) r.inputs in
    let is = c.stretch.ensures.stretch start are in
    let here = subst (λ (xs : List Values). IsStretch case.machine (state_from case c.start_of.result) xs good end) c.as_slice.ensures is in
    let from = subst (λ (s : Values). IsStretch case.machine s t.inputs good end) (state-is case t t.image c.start_of.result at) here in
    c.told_by.ensures
    ∙ stretch-tells case.machine (λ told. ends_as (claim.Depth 0) told ≡ true) t.inputs (first_state case t.image t) good end r.fails from
