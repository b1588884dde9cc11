-- Where a single expression breaks a rule.
use Rattle.std.specs.Prelude.{◌∷◌, [], Bool as Truth, false, if◌then◌else◌, Option, Some, None, option_and_then}
use Rattle.pv_place.specs.declared.place.Place.{Place}
use Rattle.pv_tree.specs.Tree.{ExprTree, lit, read, unary, binary, std, paren}
use Rattle.pv_tree.specs.LiteralTypes.{Want, nothing}
use Rattle.pv_tree.specs.Sorts.{taken, beside, common_type, result_of_unary, result_of_binary, arguments_of, result_of_function, misfits}
use Rattle.pv_tree.specs.Scopes.{Scope}
use Rattle.pv_tree.specs.Things.{first_place}
use Rattle.pv_tree.specs.Types.{Written, literal_of, sort_of, sorts_of}
use Rattle.pv_tree.specs.Rules.Misfits.{unary_misfits}
use Rattle.pv_tree.specs.Rules.OutOfRange.{is_outside}

abbrev pub place_where : Truth → Place → Option Place
place_where test place = if test then Some place else None

-- a literal outside its type
abbrev pub is_written_outside : Want → Option Written → Truth
is_written_outside want None = false
is_written_outside want (Some w) = is_outside want w.ty w.value

abbrev pub outside : Want → ExprTree → Option Place
outside want e = place_where (is_written_outside want (literal_of e)) (first_place e)

-- an operator or a function whose operands don't fit
abbrev pub misapplied : Scope → ExprTree → Option Place
misapplied scope (lit ty value place) = None
misapplied scope (read o) = None
misapplied scope (unary op place arg) = place_where (unary_misfits (unary op place arg) (taken nothing
    (sort_of scope arg) ∷ []) (option_and_then (result_of_unary op) (common_type (taken nothing
    (sort_of scope arg) ∷ [])))) place
misapplied scope (binary op place left right) = place_where (misfits (option_and_then
    (result_of_binary op) (common_type (beside (sort_of scope left ∷ sort_of scope right ∷ []))))
    (beside (sort_of scope left ∷ sort_of scope right ∷ []))) place
misapplied scope (std function place args) = place_where (misfits (result_of_function function
    (arguments_of function (sorts_of scope args))) (arguments_of function (sorts_of scope args))) place
misapplied scope (paren place inner) = None
