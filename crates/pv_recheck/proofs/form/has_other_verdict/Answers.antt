use Rattle.pv_recheck.proofs.Lines.{other_verdict, no_other_verdict}
use Rattle.pv_recheck.proofs.form.has_other_verdict.Goals as goal

pub returns-in-Some : goal.returns-in-Some
returns-in-Some c = other_verdict c.args.bytes.now c.in-Some.line.now c.is_other_verdict.result c.in-Some.ensures.found
    c.is_other_verdict.ensures

pub returns-in-None : goal.returns-in-None
returns-in-None c = no_other_verdict c.args.bytes.now c.in-None.ensures.none
