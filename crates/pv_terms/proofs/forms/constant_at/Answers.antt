use Rattle.pv_terms.proofs.Constants.{looked_up, constant_is, no_node}
use Rattle.pv_terms.proofs.forms.constant_at.Goals as goal

pub returns-in-Some : goal.returns-in-Some
returns-in-Some c = λ t at.
    let l = c.in-Some.ensures.lookup in
    constant_is c.args.nodes.now c.args.n c.in-Some.node.now c.constant_in.result t
    (looked_up c.args.nodes.now c.args.n c.in-Some.node.now l.0 l.1) c.constant_in.ensures at

pub returns-in-None : goal.returns-in-None
returns-in-None c = λ t at. no_node c.args.nodes.now c.args.n t c.in-None.ensures.lookup.0 at
