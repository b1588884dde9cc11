use Rattle.std.proofs.Common.{List, Option, ℤ, ap, sym, subst, ◌∙◌}
use Rattle.pv_valid.specs.declared.facts.Facts.{Facts}
use Rattle.pv_valid.specs.Cases.{AreBetween}
use Rattle.pv_judge.specs.Steps.{begin_fault}
use Rattle.pv_judge.proofs.Whole.{params-start, image-start}
use Rattle.pv_judge.proofs.trace.judge_scans.Goals as goal

pub replay-requires-clause-start : goal.replay-requires-clause-start
replay-requires-clause-start g c =
    let case = g.J.Judged.case c.args.case.now in
    let t = c.args.trace.now in
    let clear = ap (λ (o : Option (List ℤ)). begin_fault case.facts o t) (sym c.in-None.is)
    ∙ (ap (λ (f : Facts). begin_fault f t.image t) (sym c.facts.ensures) ∙ (sym c.begin_fault.ensures ∙ c.in_default.is)) in
    subst (λ (v : List ℤ). AreBetween case.facts.params v) (sym c.as_slice.ensures) (params-start case.facts t clear)

pub replay-requires-in-Some-image-clause-start : goal.replay-requires-in-Some-image-clause-start
replay-requires-in-Some-image-clause-start g c =
    let case = g.J.Judged.case c.args.case.now in
    let t = c.args.trace.now in
    let clear = ap (λ (o : Option (List ℤ)). begin_fault case.facts o t) (sym c.in-Some-image.is)
    ∙ (ap (λ (f : Facts). begin_fault f t.image t) (sym c.facts.ensures) ∙ (sym c.begin_fault.ensures ∙ c.in_default.is)) in
    let start = image-start case.facts c.in-Some-image.image t clear in
    (subst (λ (v : List ℤ). AreBetween case.facts.image v) (sym c.as_slice-in-Some-image.ensures) start.0, start.1)
