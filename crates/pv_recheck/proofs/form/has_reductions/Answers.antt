use Rattle.pv_recheck.proofs.Lines.{reductions, no_reductions}
use Rattle.pv_recheck.proofs.form.has_reductions.Goals as goal

pub returns-in-Some : goal.returns-in-Some
returns-in-Some c = reductions c.args.bytes.now c.in-Some.line.now c.begins_with.result c.in-Some.ensures.found c.begins_with.ensures

pub returns-in-None : goal.returns-in-None
returns-in-None c = no_reductions c.args.bytes.now c.in-None.ensures.none
