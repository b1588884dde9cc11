use Rattle.pv_claims.proofs.ForCallers.{passed}
use Rattle.pv_cert.proofs.BodyLaws.{next-stuck, none-end-stops, none-tail-read}
use Rattle.pv_cert.proofs.parts.region_tail.Goals as goal

pub returns-in_err-after-clause-stuck : goal.returns-in_err-after-clause-stuck
returns-in_err-after-clause-stuck c =
    passed _ c.from_residual.result c.in_err-after.field-0.0 c.from_residual.ensures.1
    (none-end-stops c.args.text.now c.in-Some.rest.now c.in_err-after.field-0.0 c.in-Some.ensures.found c.in_err-after.ensures.stuck)

pub returns-in-Some-clause-ok : goal.returns-in-Some-clause-ok
returns-in-Some-clause-ok c = none-tail-read c.args.text.now c.in-Some.rest.now c.in_ok-after.after.now c.in-Some.ensures.found c.in_ok-after.ensures.ok

pub returns-in-Some-strip-clause-ok : goal.returns-in-Some-strip-clause-ok
returns-in-Some-strip-clause-ok c = c.lemma_tail.ensures.ok c.args.text.now c.in-Some-strip.ensures.found

pub returns-in-Some-strip-clause-stuck : goal.returns-in-Some-strip-clause-stuck
returns-in-Some-strip-clause-stuck c = c.lemma_tail.ensures.stuck c.args.text.now c.in-Some-strip.ensures.found

pub returns-in-None-clause-stuck : goal.returns-in-None-clause-stuck
returns-in-None-clause-stuck c = next-stuck c.args.text.now c.in_default.ensures.none c.in-None.ensures.none
