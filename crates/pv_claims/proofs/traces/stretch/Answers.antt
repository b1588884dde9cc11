use Rattle.pv_claims.proofs.PartLaws.{passed, at-none, at-some}
use Rattle.pv_claims.proofs.TraceLaws.{has-stretch, stretch-stuck-first, stretch-stuck-second, stretch-within, stretch-read}
use Rattle.pv_claims.proofs.traces.stretch.Goals as goal

pub returns-in_default-clause-stuck : goal.returns-in_default-clause-stuck
returns-in_default-clause-stuck c = stretch-stuck-first c.args.count c.args.text.now (at-none _ _ c.in_ok-image.field-0 c.in_default.is c.in_ok-image.ensures)

pub returns-in_default-prev-clause-stuck : goal.returns-in_default-prev-clause-stuck
returns-in_default-prev-clause-stuck c =
    let found = at-some _ _ c.in_ok-image.field-0 (c.in-Some.image, c.in-Some.rest) c.in-Some.is c.in_ok-image.ensures in
    stretch-stuck-second c.args.count c.args.text.now c.in-Some.rest.now c.in-Some.image found.0 found.1 c.in_default-prev.ensures.none

pub returns-in_err-inputs-clause-stuck : goal.returns-in_err-inputs-clause-stuck
returns-in_err-inputs-clause-stuck c =
    let found = at-some _ _ c.in_ok-image.field-0 (c.in-Some.image, c.in-Some.rest) c.in-Some.is c.in_ok-image.ensures in
    passed _ c.from_residual-in_err-inputs.result c.in_err-inputs.field-0.0 c.from_residual-in_err-inputs.ensures.1
    (stretch-within c.args.count c.args.text.now c.in-Some.rest.now c.in-Some-prev.behind.now c.in-Some.image c.in-Some-prev.prev c.in_err-inputs.field-0.0 found.0 found.1 c.in-Some-prev.ensures.found c.in_err-inputs.ensures.stuck)

pub returns-clause-ok : goal.returns-clause-ok
returns-clause-ok c =
    let found = at-some _ _ c.in_ok-image.field-0 (c.in-Some.image, c.in-Some.rest) c.in-Some.is c.in_ok-image.ensures in
    rw c.new.ensures (
      has-stretch c.args.count c.in-Some.image c.in-Some-prev.prev c.in_ok-inputs.inputs found.0 c.in_ok-inputs.ensures.ok.0,
      stretch-read c.args.text.now c.in-Some.rest.now c.in-Some-prev.behind.now c.in_ok-inputs.after.now c.in-Some.image c.in-Some-prev.prev c.in_ok-inputs.inputs found.1 c.in-Some-prev.ensures.found c.in_ok-inputs.ensures.ok.1,
    )
