use Rattle.pv_types.specs.View.{vars_tree}
use Rattle.pv_tree.specs.Rules.Misfits.{start_misfits_type}
use Rattle.pv_names.specs.InScope.{scope_of}
use Rattle.pv_rules_decl.specs.Starts.{start_at}
use Rattle.pv_rules_decl.proofs.NearShared.{next_list}
use Rattle.pv_rules_decl.proofs.starts.misfit_starts.Goals as goal

pub loop-of-preserved : goal.loop-of-preserved
loop-of-preserved c =
    next_list (start_at (start_misfits_type (scope_of c.args.scope.now))) (λ v. vars_tree v.now) c.args.vars.now c.loop-of.of-index c.of-item.result c.loop-of.best
    c.nearer_of-best.result c.misfit_start.result _ c.loop-of-test.true c.of-item.is c.nearer_of-best.ensures c.misfit_start.ensures
    c.loop-of.invariant
