use Rattle.pv_claims.proofs.ForCallers.{at-none, at-some}
use Rattle.pv_cert.specs.ChainText.{chain_line, HasChainText}
use Rattle.pv_cert.proofs.Texts.{feedless-chain}
use Rattle.pv_cert.proofs.Parsing.{no-line, other-line, that-line}
use Rattle.pv_cert.proofs.chain.chain_line.Goals as goal

pub returns-in_default : goal.returns-in_default
returns-in_default c = no-line HasChainText chain_line c.args.text.now c.in_default.ensures.none

pub returns-in-None : goal.returns-in-None
returns-in-None c =
    other-line HasChainText chain_line feedless-chain c.args.text.now c.in-Some.line.now c.in-Some.after.now c.in-Some.ensures.found.0 c.in-Some.ensures.found.1
    (at-none _ _ c.in_ok-chain.field-0 c.in-None.is c.in_ok-chain.ensures)

pub returns-in-Some-2 : goal.returns-in-Some-2
returns-in-Some-2 c =
    that-line HasChainText chain_line c.args.text.now c.in-Some.line.now c.in-Some.after.now c.in-Some-2.chain c.in-Some.ensures.found.1
    (at-some _ _ c.in_ok-chain.field-0 c.in-Some-2.chain c.in-Some-2.is c.in_ok-chain.ensures)
