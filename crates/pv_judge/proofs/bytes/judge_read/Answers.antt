use Rattle.pv_judge.proofs.Answering.{bytes-answered}
use Rattle.pv_judge.proofs.bytes.judge_read.Goals as goal

pub returns-in-Ok-clause-answer : goal.returns-in-Ok-clause-answer
returns-in-Ok-clause-answer g c =
    let case = g.J.Judged.case c.args.case.now in
    let bytes = c.args.bytes.now in
    let made = c.in-Ok.certificate in
    bytes-answered case bytes made c.in-Ok.ensures.found c.judge.result
    (c.certificates_have_one_answer.ensures.some case bytes made c.in-Ok.ensures.found) c.judge.ensures.judges
