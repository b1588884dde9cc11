use Rattle.pv_claims.proofs.PartLaws.{at-none, at-some}
use Rattle.pv_claims.proofs.ValueLaws.{no-line, other-line, that-line}
use Rattle.pv_claims.proofs.values.values_line.Goals as goal

pub returns-in_default : goal.returns-in_default
returns-in_default c = no-line c.args.text.now c.args.word.now c.in_default.ensures.none

pub returns-in-None : goal.returns-in-None
returns-in-None c =
    other-line c.args.text.now c.args.word.now c.in-Some.line.now c.in-Some.after.now c.requires c.in-Some.ensures.found.0 c.in-Some.ensures.found.1
    (at-none _ _ c.in_ok-values.field-0 c.in-None.is c.in_ok-values.ensures)

pub returns-in-Some-2 : goal.returns-in-Some-2
returns-in-Some-2 c =
    that-line c.args.text.now c.args.word.now c.in-Some.line.now c.in-Some.after.now c.in-Some-2.values c.in-Some.ensures.found.1
    (at-some _ _ c.in_ok-values.field-0 c.in-Some-2.values c.in-Some-2.is c.in_ok-values.ensures)
