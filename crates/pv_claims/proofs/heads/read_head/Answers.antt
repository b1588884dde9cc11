use Rattle.pv_claims.proofs.HeadLaws.{head-stuck-first, head-stuck-second, head-read}
use Rattle.pv_claims.proofs.heads.read_head.Goals as goal

pub returns-in_default-clause-stuck : goal.returns-in_default-clause-stuck
returns-in_default-clause-stuck c = head-stuck-first c.args.text.now c.in_default.ensures.none

pub returns-in-None-clause-stuck : goal.returns-in-None-clause-stuck
returns-in-None-clause-stuck c = head-stuck-second c.args.text.now c.in-Some.rest.now c.in-Some.ensures.found c.in-None.ensures.none

pub returns-in-Some-verdict-clause-ok : goal.returns-in-Some-verdict-clause-ok
returns-in-Some-verdict-clause-ok c =
    (c.in-Some-verdict.ensures.found.0, head-read c.args.text.now c.in-Some.rest.now c.in-Some-verdict.head.1.now c.in-Some-verdict.head.0 c.in-Some.ensures.found c.in-Some-verdict.ensures.found.1)
