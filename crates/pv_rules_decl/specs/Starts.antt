-- Where start values of declarations, and the values that a data block gives to its parts, break a rule.
use Rattle.std.specs.Prelude.{List, Bool as Truth, Option, Some, None}
use Rattle.pv_place.specs.declared.place.Place.{Place}
use Rattle.pv_types.specs.declared.declaration.Literal.{Literal}
use Rattle.pv_types.specs.Tree.{TypeTree, VarTree, var}
use Rattle.pv_tree.specs.Tree.{StartTree}
use Rattle.pv_tree.specs.LiteralTypes.{unsure}
use Rattle.pv_tree.specs.Scopes.{Scope}
use Rattle.pv_tree.specs.Things.{Thing, part, constant, a_block, no_name, no_array, a_date, untold}
use Rattle.pv_tree.specs.Parts.{path_of_start, thing_of_path}
use Rattle.pv_tree.specs.Rules.Misfits.{start_misfits_type}
use Rattle.pv_tree.specs.Rules.OutOfRange.{is_outside, start_is_outside}
use Rattle.pv_rules_expr.specs.NearestIn.{nearest_in}
use Rattle.pv_rules_expr.specs.Places.{place_where}
use Rattle.pv_rules_expr.specs.Operands.{name_at}
use Rattle.pv_rules_expr.specs.Indexes.{index_at, misused_at}
use Rattle.pv_rules_expr.specs.declared.indexes.IndexFault.TheVariants as index
use Rattle.pv_rules_decl.specs.StartLook.{StartLook, Missing, Misused, Misfit, Outside, Beyond}

-- the start value of a declaration, where the test passes
abbrev pub start_at : (TypeTree → Literal → Truth) → VarTree → Option Place
start_at test (var name section ty None place) = None
start_at test (var name section ty (Some literal) place) =
    place_where (test ty literal) literal.place

abbrev pub near_vars : (TypeTree → Literal → Truth) → List VarTree → Option Place → Option Place
near_vars test = nearest_in (start_at test)

-- a value for a part of a data block
abbrev pub misfit_at : Scope → Literal → Thing → Option Place
misfit_at scope literal (part ty) = place_where (start_misfits_type scope ty literal) literal.place
misfit_at scope literal (constant ty) = None
misfit_at scope literal (a_block b) = None
misfit_at scope literal (no_name at) = None
misfit_at scope literal (no_array at) = None
misfit_at scope literal (a_date at) = None
misfit_at scope literal untold = None

abbrev pub is_thing_outside : Literal → Thing → Truth
is_thing_outside literal (part ty) = start_is_outside ty literal
is_thing_outside literal (constant ty) = is_outside unsure literal.ty literal.value
is_thing_outside literal (a_block b) = is_outside unsure literal.ty literal.value
is_thing_outside literal (no_name at) = is_outside unsure literal.ty literal.value
is_thing_outside literal (no_array at) = is_outside unsure literal.ty literal.value
is_thing_outside literal (a_date at) = is_outside unsure literal.ty literal.value
is_thing_outside literal untold = is_outside unsure literal.ty literal.value

abbrev pub start_place : StartLook → Scope → StartTree → Option Place
start_place Missing scope v = name_at (thing_of_path scope (path_of_start scope v.0))
start_place Misused scope v = misused_at scope (path_of_start scope v.0)
start_place Misfit scope v = misfit_at scope v.1 (thing_of_path scope (path_of_start scope v.0))
start_place Outside scope v = place_where (is_thing_outside v.1 (thing_of_path scope
    (path_of_start scope v.0))) v.1.place
start_place Beyond scope v = index_at index.Beyond scope (path_of_start scope v.0)

abbrev pub near_starts : StartLook → Scope → List StartTree → Option Place → Option Place
near_starts what scope = nearest_in (start_place what scope)
