use Rattle.pv_rules_decl.proofs.Projecting.{near_vars, if_ok}
use Rattle.pv_rules_decl.proofs.on_declarations.later_vars.Goals as goal

pub returns : goal.returns
returns c = if_ok c.doubled_vars.result (λ r n. near_vars c.args.vars.now c.args.nearest r n) c.doubled_vars.ensures
