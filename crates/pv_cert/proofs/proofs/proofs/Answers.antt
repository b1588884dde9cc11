use Rattle.pv_claims.proofs.ForCallers.{passed}
use Rattle.pv_cert.proofs.BodyLaws.{proof-within, body-under, proofs-fit, proofs-more, proof-shorter}
use Rattle.pv_cert.proofs.proofs.proofs.Goals as goal

pub returns-in_err-proof-clause-stuck : goal.returns-in_err-proof-clause-stuck
returns-in_err-proof-clause-stuck c = λ asked.
    passed _ c.from_residual.result c.in_err-proof.field-0.0 c.from_residual.ensures.1
    (body-under asked c.loop-query.proofs c.args.text.now c.loop-query.rest.now c.in_err-proof.field-0.0 c.loop-query.invariant.fit c.loop-query.invariant.split
    (proof-within asked c.in-Some.query c.loop-query.rest.now c.in-Some.behind.now c.in_err-proof.field-0.0 c.in-Some.ensures.found.0 c.in-Some.ensures.found.1
    (c.in_err-proof.ensures.stuck c.in-Some.ensures.found.0)))

pub loop-query-preserved : goal.loop-query-preserved
loop-query-preserved c =
    let read = c.in_ok-proof.ensures.ok c.in-Some.ensures.found.0 in
    rw c.in_ok-push.ensures.ok record {
      split = proofs-more c.in-Some.query c.args.text.now c.loop-query.rest.now c.in-Some.behind.now c.in_ok-proof.after.now c.loop-query.proofs c.in_ok-proof.proof c.loop-query.invariant.split
          c.in-Some.ensures.found.1 read.0.is read.1;
      fit = proofs-fit c.loop-query.proofs c.in_ok-proof.proof c.loop-query.invariant.fit read.0.has;
    }

pub loop-query-smaller : goal.loop-query-smaller
loop-query-smaller c =
    let read = c.in_ok-proof.ensures.ok c.in-Some.ensures.found.0 in
    proof-shorter c.in-Some.query c.loop-query.rest.now c.in-Some.behind.now c.in_ok-proof.after.now c.in_ok-proof.proof c.in-Some.ensures.found.1 read.1
