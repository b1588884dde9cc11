use Rattle.pv_types.specs.View.{var_tree}
use Rattle.pv_resolve.proofs.Tabling.{got_at}
use Rattle.pv_resolve.proofs.firsts.PartFirsts.nth.Goals as goal

pub returns-in-Some : goal.returns-in-Some
returns-in-Some c = λ project has.
    c.laid.ensures project _ has
    (got_at var_tree c.args.vars.now c.args.number c.in-Some.var.now c.in-Some.ensures.lookup.0 c.in-Some.ensures.lookup.1)
