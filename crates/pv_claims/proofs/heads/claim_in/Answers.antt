use Rattle.pv_claims.proofs.HeadLaws.{verdict-none}
use Rattle.pv_claims.proofs.heads.claim_in.Goals as goal

pub returns-clause-none : goal.returns-clause-none
returns-clause-none c = verdict-none c.args.line.now c.in_ok-words.words.now c.claim_of.result c.in_ok-words.ensures.found c.claim_of.ensures.none
