use Rattle.pv_claims.proofs.PartLaws.{passed, at-none, at-some}
use Rattle.pv_claims.proofs.TraceLaws.{has-run, run-stuck, run-within, run-read}
use Rattle.pv_claims.proofs.traces.run.Goals as goal

pub returns-in_default-clause-stuck : goal.returns-in_default-clause-stuck
returns-in_default-clause-stuck c = run-stuck c.args.count c.args.text.now (at-none _ _ c.in_ok-params.field-0 c.in_default.is c.in_ok-params.ensures)

pub returns-in_err-inputs-clause-stuck : goal.returns-in_err-inputs-clause-stuck
returns-in_err-inputs-clause-stuck c =
    let found = at-some _ _ c.in_ok-params.field-0 (c.in-Some.params, c.in-Some.rest) c.in-Some.is c.in_ok-params.ensures in
    passed _ c.from_residual-in_err-inputs.result c.in_err-inputs.field-0.0 c.from_residual-in_err-inputs.ensures.1
    (run-within c.args.count c.args.text.now c.in-Some.rest.now c.in-Some.params c.in_err-inputs.field-0.0 found.0 found.1 c.in_err-inputs.ensures.stuck)

pub returns-clause-ok : goal.returns-clause-ok
returns-clause-ok c =
    let found = at-some _ _ c.in_ok-params.field-0 (c.in-Some.params, c.in-Some.rest) c.in-Some.is c.in_ok-params.ensures in
    (has-run c.args.count c.in-Some.params c.in_ok-inputs.inputs found.0 c.in_ok-inputs.ensures.ok.0, run-read c.args.text.now c.in-Some.rest.now c.in_ok-inputs.after.now c.in-Some.params c.in_ok-inputs.inputs found.1 c.in_ok-inputs.ensures.ok.1)
