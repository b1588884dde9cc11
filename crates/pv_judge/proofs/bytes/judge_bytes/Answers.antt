use Rattle.pv_judge.proofs.Answering.{only-answer}
use Rattle.pv_judge.proofs.bytes.judge_bytes.Goals as goal

pub returns-clause-only : goal.returns-clause-only
returns-clause-only g c = λ other full a.
    only-answer c.judge_read.result other full
    (c.certificates_have_one_answer.ensures.one (g.J.Judged.case c.args.case.now) c.args.bytes.now c.judge_read.result other c.judge_read.ensures.answer a)
