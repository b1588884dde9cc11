use Rattle.std.proofs.Common.{ap, ◌∙◌, ◌++◌}
use Rattle.pv_types.specs.View.{var_trees}
use Rattle.pv_types.proofs.ForCallers.{pushed, vars_seen}
use Rattle.pv_parse_source.proofs.declarations.add_vars.Goals as goal

pub returns : goal.returns
returns c =
    ap var_trees c.in_ok-push.ensures.items ∙ pushed c.args.vars.now.items _
    ∙ ap (λ l. var_trees c.args.vars.now.items ++ l) (vars_seen _)
