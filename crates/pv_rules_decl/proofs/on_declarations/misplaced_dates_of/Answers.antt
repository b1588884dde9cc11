use Rattle.std.proofs.Common.{ap, sym, subst}
use Rattle.std.specs.Prelude.{flat_map}
use Rattle.pv_types.specs.View.{vars_tree, var_trees}
use Rattle.pv_tree.specs.View.{block_tree}
use Rattle.pv_tree.specs.Interfaces.{all_vars}
use Rattle.pv_rules_decl.specs.Declarations.{vars_of, HaveTheSame}
use Rattle.pv_rules_decl.specs.OnDeclarations.{IsMisplacedDate}
use Rattle.pv_rules_decl.proofs.Sharing.{near_gathered_in}
use Rattle.pv_rules_decl.proofs.on_declarations.misplaced_dates_of.Goals as goal

pub returns : goal.returns
returns c =
    near_gathered_in (λ at v. IsMisplacedDate c.args.block.now.kind at v) (flat_map (λ v. vars_tree v.now) c.as_slice-2.result.now)
    (all_vars (block_tree c.args.block.now).vars) c.args.nearest c.misplaced_dates.result
    (subst (λ l. HaveTheSame l (all_vars (block_tree c.args.block.now).vars)) (sym (ap (flat_map (λ v. vars_tree v.now)) c.as_slice-2.ensures.value))
    (subst (λ l. HaveTheSame (vars_of c.in_ok-gathered.gathered) (all_vars (var_trees l))) c.as_slice.ensures.value c.in_ok-gathered.ensures.vars))
    c.misplaced_dates.ensures
