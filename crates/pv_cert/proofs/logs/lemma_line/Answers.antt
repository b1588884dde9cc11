use Rattle.pv_log.specs.LineText.{line_text, HasText}
use Rattle.pv_claims.proofs.ForCallers.{at-none, at-some}
use Rattle.pv_cert.proofs.Texts.{feedless-line}
use Rattle.pv_cert.proofs.Parsing.{no-line, other-line, that-line, lemma-never, spelled}
use Rattle.pv_cert.proofs.logs.lemma_line.Goals as goal

pub returns-in_default : goal.returns-in_default
returns-in_default c = no-line HasText line_text c.args.text.now c.in_default.ensures.none

pub returns-in-None : goal.returns-in-None
returns-in-None c =
    other-line HasText line_text feedless-line c.args.text.now c.in-Some.line.now c.in-Some.after.now c.in-Some.ensures.found.0 c.in-Some.ensures.found.1
    (lemma-never c.in-Some.line.now (at-none _ _ c.in_ok-lemma.field-0 c.in-None.is c.in_ok-lemma.ensures))

pub returns-in-Some-2 : goal.returns-in-Some-2
returns-in-Some-2 c =
    that-line HasText line_text c.args.text.now c.in-Some.line.now c.in-Some.after.now c.in-Some-2.lemma c.in-Some.ensures.found.1
    (spelled c.in-Some.line.now c.in-Some-2.lemma (at-some _ _ c.in_ok-lemma.field-0 c.in-Some-2.lemma c.in-Some-2.is c.in_ok-lemma.ensures))
