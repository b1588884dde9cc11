use Rattle.std.proofs.Common.{◌++◌, map, subst}
use Rattle.std.specs.Prelude.{flat_map}
use Rattle.pv_types.specs.View.{type_tree, vars_tree, var_trees}
use Rattle.pv_tree.specs.Interfaces.{all_types, all_vars}
use Rattle.pv_rules_decl.specs.Declarations.{types_of, vars_of, HaveTheSame}
use Rattle.pv_rules_decl.proofs.gathered.Gathered.of.Goals as goal

pub returns : goal.returns
returns c = record {
  types = subst (λ l. HaveTheSame (types_of c.add_vars.new.self) (map (λ t. type_tree t.now) l ++ all_types (var_trees c.args.vars.now)))
      c.new.ensures.items c.in_ok-add_vars.ensures.types;
  vars = subst (λ l. HaveTheSame (vars_of c.add_vars.new.self) (flat_map (λ v. vars_tree v.now) l ++ all_vars (var_trees c.args.vars.now)))
      c.new-2.ensures.items c.in_ok-add_vars.ensures.vars;
}
