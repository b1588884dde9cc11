use Rattle.std.proofs.Common.{ap, ◌∙◌, Some, None}
use Rattle.pv_types.specs.View.{var_tree, var_trees}
use Rattle.pv_tree.specs.Things.{part}
use Rattle.pv_names.specs.InScope.{scope_of}
use Rattle.pv_names.specs.Views.{held_tree}
use Rattle.pv_names.proofs.Fields.{struct_field, field_type}
use Rattle.pv_names.proofs.scope.Scope.field_of_type.Goals as goal

pub returns-in-Some : goal.returns-in-Some
returns-in-Some c =
    ap part (c.level_of.ensures ∙ field_type c.in-Some.var)
    ∙ struct_field (scope_of c.args.self.now) (held_tree c.args.ty) (var_trees c.in-Struct.vars.now) c.args.name.now.key c.args.place
    (Some (var_tree c.in-Some.var)) (ap held_tree c.in-Struct.is) c.in-Some.ensures

pub returns-in-None : goal.returns-in-None
returns-in-None c =
    struct_field (scope_of c.args.self.now) (held_tree c.args.ty) (var_trees c.in-Struct.vars.now) c.args.name.now.key c.args.place
    None (ap held_tree c.in-Struct.is) c.in-None.ensures
