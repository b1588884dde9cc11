-- Where a value doesn't fit the target that an assignment, or a FOR, gives it to.
use Rattle.std.specs.Prelude.{Option, None, Bool as Truth}
use Rattle.pv_place.specs.declared.place.Place.{Place}
use Rattle.pv_tree.specs.Tree.{ExprTree, OperandTree, CallPlain, StmtTree, assign, assign_call, for_}
use Rattle.pv_tree.specs.LiteralTypes.{Want, nothing, this, unsure}
use Rattle.pv_tree.specs.Sorts.{Sort, one, taken, is_whole}
use Rattle.pv_tree.specs.Scopes.{Scope}
use Rattle.pv_tree.specs.Things.{first_place}
use Rattle.pv_tree.specs.Types.{sort_of}
use Rattle.pv_tree.specs.Callees.{as_value, callee_of}
use Rattle.pv_tree.specs.Parts.{site, want_of_target, want_of_counter}
use Rattle.pv_tree.specs.Fits.{doesnt_fit, sort_of_target}
use Rattle.pv_tree.specs.Rules.Misfits.{sort_of_callee}
use Rattle.pv_rules_expr.specs.Places.{place_where}
use Rattle.pv_rules_expr.specs.Looks.{nearer_of}

abbrev pub assigned_misfits : Scope → OperandTree → ExprTree → Truth
assigned_misfits scope target value =
    doesnt_fit (sort_of_target scope target) (taken (want_of_target scope target) (sort_of scope value))

abbrev pub called_misfits : Scope → OperandTree → CallPlain → Truth
called_misfits scope target call = doesnt_fit (sort_of_target scope target) (sort_of_callee (callee_of scope (site as_value call)))

-- the start or the end of a FOR, by its sort
abbrev pub bound_misfits : Want → Sort → Truth
bound_misfits (this ty) sort = doesnt_fit (one ty) (taken (this ty) sort)
bound_misfits nothing sort = is_whole sort
bound_misfits unsure sort = is_whole sort

abbrev pub bound_at : Scope → Want → ExprTree → Option Place
bound_at scope want e = place_where (bound_misfits want (sort_of scope e)) (first_place e)

abbrev pub misfit_place : Scope → StmtTree → Option Place
misfit_place scope (assign target place value) = place_where (assigned_misfits scope target value) place
misfit_place scope (assign_call target place call) = place_where (called_misfits scope target call) place
misfit_place scope (for_ name name_place first last by body place) =
    nearer_of (bound_at scope (want_of_counter scope name name_place) first) (bound_at scope (want_of_counter scope name name_place) last)
misfit_place scope s = None
