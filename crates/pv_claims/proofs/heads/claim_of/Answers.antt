use Rattle.pv_claims.proofs.HeadLaws.{no-claim}
use Rattle.pv_claims.proofs.heads.claim_of.Goals as goal

pub returns-in_err-x-clause-none : goal.returns-in_err-x-clause-none
returns-in_err-x-clause-none c =
    rw c.from_residual.ensures
    (no-claim c.args.words.now c.in_default.ensures.none c.in_default-number_behind.ensures.none c.in_default-number_behind-2.ensures.none c.in_default-number_behind-3.ensures.none c.in_default-number_behind-4.ensures.none
    c.in_default-number_behind-5.ensures.none c.in_default-number_behind-6.ensures.none c.in_default-number_behind-7.ensures.none c.in_err-x.ensures.none)
