-- Where a single operand breaks a rule.
use Rattle.std.specs.Prelude.{Option, Some, None}
use Rattle.pv_place.specs.declared.place.Place.{Place}
use Rattle.pv_tree.specs.Tree.{OperandTree, operand}
use Rattle.pv_tree.specs.Scopes.{Scope}
use Rattle.pv_tree.specs.Things.{Thing, part, constant, a_block, no_name, no_array, a_date, untold, thing_of, root_place, place_of_operand}
use Rattle.pv_tree.specs.Rules.Callable.{is_void_thing}
use Rattle.pv_tree.specs.Rules.Addresses.{is_wrong_operand}
use Rattle.pv_rules_expr.specs.Places.{place_where}

-- the name that isn't there
abbrev pub name_at : Thing → Option Place
name_at (part ty) = None
name_at (constant ty) = None
name_at (a_block b) = None
name_at (no_name at) = Some at
name_at (no_array at) = None
name_at (a_date at) = None
name_at untold = None

-- the name of a function without a value
abbrev pub void_where : Thing → OperandTree → Option Place
void_where thing (operand root more place) = place_where (is_void_thing thing) (root_place root place)

abbrev pub void_at : Scope → OperandTree → Option Place
void_at scope (operand root more place) = place_where (is_void_thing (thing_of scope
    (operand root more place))) (root_place root place)

-- an address that there isn't
abbrev pub address_at : OperandTree → Option Place
address_at o = place_where (is_wrong_operand o) (place_of_operand o)
