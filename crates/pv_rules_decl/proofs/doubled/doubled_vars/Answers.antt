use Rattle.std.proofs.Common.{[], List, map, subst, ap, ◌∙◌, IfOk}
use Rattle.pv_tree.specs.Tree.{PlacedName}
use Rattle.pv_tree.specs.Interfaces.{names_of_vars}
use Rattle.pv_rules_expr.specs.Nearest.{Nears}
use Rattle.pv_rules_expr.specs.Members.{IsLaterBehind}
use Rattle.pv_rules_decl.specs.Doubles.{name_of_var}
use Rattle.pv_rules_decl.proofs.Projecting.{names_same}
use Rattle.pv_rules_decl.proofs.doubled.doubled_vars.Goals as goal

pub returns : goal.returns
returns c =
    subst (λ (l : List PlacedName). IfOk c.doubled_in.result (λ r. Nears (IsLaterBehind [] l) c.args.nearest r))
    (ap (map name_of_var) c.as_slice.ensures.value ∙ names_same c.in_ok-each.each.items ∙ ap names_of_vars c.in_ok-each.ensures)
    c.doubled_in.ensures
