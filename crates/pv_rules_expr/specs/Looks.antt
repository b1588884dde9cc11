-- The nearest place that breaks a rule, over a list of expressions with what is wanted of each.
use Rattle.std.specs.Prelude.{List, [], ◌∷◌, ◌++◌, map, Option, option_and_then}
use Rattle.pv_place.specs.declared.place.Place.{Place}
use Rattle.pv_tree.specs.Tree.{ExprTree}
use Rattle.pv_tree.specs.LiteralTypes.{Want}
use Rattle.pv_tree.specs.Sorts.{Sort}
use Rattle.pv_tree.specs.Scopes.{Scope}
use Rattle.pv_tree.specs.Things.{thing_of}
use Rattle.pv_tree.specs.Parts.{Part, parts_of, operand_of, path_of}
pub use Rattle.pv_rules_expr.specs.Nearest.{nearer_of}
use Rattle.pv_rules_expr.specs.Operands.{name_at, void_at, address_at}
use Rattle.pv_rules_expr.specs.Indexes.{index_at, misused_at, divides_at}
use Rattle.pv_rules_expr.specs.declared.indexes.IndexFault.TheVariants as index
use Rattle.pv_rules_expr.specs.Places.{misapplied, outside}
use Rattle.pv_rules_expr.specs.declared.search.Look.{Look}
use Rattle.pv_rules_expr.specs.declared.search.Look.TheVariants.{Misapplied, Outside, Missing, Void, Address, Misused, Beyond, Moving, Divides}

abbrev pub part_place : Look → Scope → Want → ExprTree → Option Place
part_place Misapplied scope want e = misapplied scope e
part_place Outside scope want e = outside want e
part_place Missing scope want e = option_and_then (λ o. name_at (thing_of scope o)) (operand_of e)
part_place Void scope want e = option_and_then (void_at scope) (operand_of e)
part_place Address scope want e = option_and_then address_at (operand_of e)
part_place Misused scope want e = option_and_then (λ o. misused_at scope (path_of scope o)) (operand_of e)
part_place Beyond scope want e = option_and_then (λ o. index_at index.Beyond scope (path_of scope o)) (operand_of e)
part_place Moving scope want e = option_and_then (λ o. index_at index.Moving scope (path_of scope o)) (operand_of e)
part_place Divides scope want e = divides_at e

abbrev pub near_parts : Look → Scope → List Part → Option Place → Option Place
near_parts what scope [] nearest = nearest
near_parts what scope (p ∷ more) nearest =
    near_parts what scope more (nearer_of nearest (part_place what scope p.want p.expr))

-- what is wanted of the first, and of each other
abbrev pub first_then : Want → Want → List Sort → List Want
first_then first others [] = []
first_then first others (s ∷ more) = first ∷ map (λ s. others) more

-- the parts of arguments, of which the first is wanted so and each other so
abbrev pub args_parts : Scope → Want → Want → List ExprTree → List Part
args_parts scope first others [] = []
args_parts scope first others (e ∷ more) =
    parts_of scope first e ++ args_parts scope others others more
