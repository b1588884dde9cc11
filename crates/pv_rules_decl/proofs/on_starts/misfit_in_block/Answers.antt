use Rattle.std.proofs.Common.{ap, subst}
use Rattle.std.specs.Prelude.{flat_map}
use Rattle.pv_types.specs.View.{vars_tree, var_trees}
use Rattle.pv_tree.specs.Interfaces.{all_vars}
use Rattle.pv_tree.specs.Rules.Misfits.{start_misfits_type}
use Rattle.pv_names.specs.InScope.{scope_of}
use Rattle.pv_rules_decl.specs.Starts.{start_at}
use Rattle.pv_rules_decl.specs.Declarations.{vars_of, HaveTheSame}
use Rattle.pv_rules_decl.proofs.LeastOne.{near_gathered}
use Rattle.pv_rules_decl.proofs.on_starts.misfit_in_block.Goals as goal

pub returns : goal.returns
returns c =
    near_gathered (start_at (start_misfits_type (scope_of c.args.scope.now))) (flat_map (λ v. vars_tree v.now) c.as_slice-2.result.now)
    (vars_of c.in_ok-gathered.gathered) (all_vars (scope_of c.args.scope.now).block.vars) c.misfit_starts.result c.misfit_starts.ensures
    (ap (flat_map (λ v. vars_tree v.now)) c.as_slice-2.ensures.value)
    (subst (λ l. HaveTheSame (vars_of c.in_ok-gathered.gathered) (all_vars (var_trees l))) c.as_slice.ensures.value c.in_ok-gathered.ensures.vars)
