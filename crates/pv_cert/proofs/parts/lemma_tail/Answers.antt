use Rattle.pv_claims.proofs.ForCallers.{passed, at-none, at-some}
use Rattle.pv_cert.proofs.BodyLaws.{lemma-stuck, lemma-end-stops, lemma-tail-read}
use Rattle.pv_cert.proofs.parts.lemma_tail.Goals as goal

pub returns-in_default-clause-stuck : goal.returns-in_default-clause-stuck
returns-in_default-clause-stuck c = λ whole e. lemma-stuck whole c.args.text.now e (at-none _ _ c.in_ok-line.field-0 c.in_default.is c.in_ok-line.ensures)

pub returns-in_err-after-clause-stuck : goal.returns-in_err-after-clause-stuck
returns-in_err-after-clause-stuck c = λ whole e.
    (let found = at-some _ _ c.in_ok-line.field-0 (c.in-Some.line, c.in-Some.rest) c.in-Some.is c.in_ok-line.ensures in
    passed _ c.from_residual-in_err-after.result c.in_err-after.field-0.0 c.from_residual-in_err-after.ensures.1
    (lemma-end-stops whole c.args.text.now c.in-Some.rest.now c.in-Some.line c.in_err-after.field-0.0 e found.0 found.1 c.in_err-after.ensures.stuck))

pub returns-clause-ok : goal.returns-clause-ok
returns-clause-ok c = λ whole e.
    (let found = at-some _ _ c.in_ok-line.field-0 (c.in-Some.line, c.in-Some.rest) c.in-Some.is c.in_ok-line.ensures in
    (found.0, lemma-tail-read whole c.args.text.now c.in-Some.rest.now c.in_ok-after.after.now c.in-Some.line e found.1 c.in_ok-after.ensures.ok))
