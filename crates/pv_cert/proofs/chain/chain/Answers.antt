use Rattle.pv_cert.specs.ChainText.{havoc_text}
use Rattle.pv_cert.proofs.Chains.{chain-cut, constants-cut}
use Rattle.pv_claims.proofs.ForCallers.{at-none}
use Rattle.pv_cert.proofs.chain.chain.Goals as goal

pub returns-in_default : goal.returns-in_default
returns-in_default c = λ other h e.
    (let cut = chain-cut c.args.text.now c.cut_cone-cone.result.0.now c.cut_cone-cone.result.1 other h c.cut_cone-cone.ensures.cut c.cut_cone-cone.ensures.none e in
    c.in_default.ensures.none other.constants (havoc_text other.havoc) cut.1)

pub returns-in_default-2 : goal.returns-in_default-2
returns-in_default-2 c = λ other h e.
    (let cut = chain-cut c.args.text.now c.cut_cone-cone.result.0.now c.cut_cone-cone.result.1 other h c.cut_cone-cone.ensures.cut c.cut_cone-cone.ensures.none e in
    let behind = constants-cut c.cut_cone-cone.result.0.now c.in-Some.rest.now c.in-Some.constants other.constants other.havoc c.in-Some.ensures.found c.in-Some.ensures.longest cut.1 in
    at-none _ _ c.in_ok-havoc.field-0 c.in_default-2.is c.in_ok-havoc.ensures other.havoc h behind.1)
