use Rattle.std.proofs.Common.{◌≡◌, drop}
use Rattle.std.specs.Prelude.{flat_map}
use Rattle.pv_types.specs.View.{vars_tree}
use Rattle.pv_tree.specs.Rules.Misfits.{start_misfits_type}
use Rattle.pv_names.specs.InScope.{scope_of}
use Rattle.pv_rules_decl.specs.Starts.{near_vars}
use Rattle.pv_rules_decl.proofs.starts.misfit_starts.Given as goal

abbrev pub invariant-loop-of : goal.invariant-loop-of
invariant-loop-of l =
    near_vars (start_misfits_type (scope_of l.scope)) (flat_map (λ v. vars_tree v.now) (drop l.of-index l.vars)) l.best
    ≡ near_vars (start_misfits_type (scope_of l.scope)) (flat_map (λ v. vars_tree v.now) l.vars) l.fn.nearest
