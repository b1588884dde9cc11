use Rattle.std.proofs.Common.{◌<◌, ◌^◌, rules}
use Rattle.pv_claims.proofs.ForCallers.{passed, at-none, at-some}
use Rattle.pv_cert.proofs.ProofLaws.{is-proof, chain-stuck, count-stuck, log-within, proof-read}
use Rattle.pv_cert.proofs.proofs.proof_of.Goals as goal

pub returns-in_default-clause-stuck : goal.returns-in_default-clause-stuck
returns-in_default-clause-stuck c = λ fits. chain-stuck c.args.query c.args.text.now fits (at-none _ _ c.in_ok-chain.field-0 c.in_default.is c.in_ok-chain.ensures)

pub returns-in_default-count_line-clause-stuck : goal.returns-in_default-count_line-clause-stuck
returns-in_default-count_line-clause-stuck c = λ fits.
    (let found = at-some _ _ c.in_ok-chain.field-0 (c.in-Some.chain, c.in-Some.rest) c.in-Some.is c.in_ok-chain.ensures in
    count-stuck c.args.query c.args.text.now c.in-Some.rest.now c.in-Some.chain fits found.0 found.1 c.in_default-count_line.ensures.none)

pub returns-in_err-log-clause-stuck : goal.returns-in_err-log-clause-stuck
returns-in_err-log-clause-stuck c = λ fits.
    (let found = at-some _ _ c.in_ok-chain.field-0 (c.in-Some.chain, c.in-Some.rest) c.in-Some.is c.in_ok-chain.ensures in
    let few : c.in-Some-count_line.count < 2 ^ 32 = search rules in
    passed _ c.from_residual-in_err-log.result c.in_err-log.field-0.0 c.from_residual-in_err-log.ensures.1
    (log-within c.args.query c.args.text.now c.in-Some.rest.now c.in-Some-count_line.behind.now c.in-Some.chain c.in-Some-count_line.count c.in_err-log.field-0.0 fits found.0 few found.1
    c.in-Some-count_line.ensures.found c.in_err-log.ensures.stuck))

pub returns-clause-ok : goal.returns-clause-ok
returns-clause-ok c = λ fits.
    (let found = at-some _ _ c.in_ok-chain.field-0 (c.in-Some.chain, c.in-Some.rest) c.in-Some.is c.in_ok-chain.ensures in
    let few : c.in-Some-count_line.count < 2 ^ 32 = search rules in
    let log = c.in_ok-log.ensures.ok in (
      is-proof c.args.query c.in-Some.chain c.in-Some-count_line.count c.in_ok-log.log fits found.0 few log.0,
      proof-read c.args.query c.args.text.now c.in-Some.rest.now c.in-Some-count_line.behind.now c.in_ok-log.after.now c.in-Some.chain c.in-Some-count_line.count c.in_ok-log.log found.1
          c.in-Some-count_line.ensures.found log.0 log.1,
    ))
