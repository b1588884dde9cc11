use Rattle.std.proofs.Common.{◌≡◌, List, None, refl, ap, sym, subst, ◌∙◌}
use Rattle.pv_cert.specs.declared.proof.Proof.{Proof}
use Rattle.pv_valid.specs.declared.facts.Facts.{Facts}
use Rattle.pv_valid.specs.Cases.{Case}
use Rattle.pv_valid.specs.Claims.{belongs}
use Rattle.pv_valid.specs.Walk.{all_proofs_fault}
use Rattle.pv_judge.proofs.Whole.{all-right}
use Rattle.pv_judge.proofs.certificate.judge.Goals as goal

pub returns-clause-judges : goal.returns-clause-judges
returns-clause-judges g c =
    let case = g.J.Judged.case c.args.case.now in
    let cert = c.args.certificate.now in
    let first = c.behind_trace-first.result in
    let belong = ap (λ (f : Facts). belongs f cert.claim) (sym c.facts.ensures) ∙ (sym c.belongs.ensures ∙ c.if-not-belongs.false) in
    let clear = subst (λ (ps : List Proof). all_proofs_fault case cert.claim cert.next first ps ≡ None) c.as_slice.ensures
    (subst (λ (k : Case). all_proofs_fault k cert.claim cert.next first c.as_slice.result.now ≡ None) c.judge_trace.ensures.kept
    c.in_ok-judge_all.ensures.finds) in
    all-right case cert (record { claim = cert.claim; ending = c.in_ok-ending.ending }) first c.in_ok-ending.ending belong
    c.in_ok-ending.ensures.finds.0 c.behind_trace-first.ensures.line clear c.in_ok-ending.ensures.finds.1 refl
