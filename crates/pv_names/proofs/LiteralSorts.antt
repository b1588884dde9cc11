-- A literal is told by its sort.
use Rattle.std.proofs.Common.{◌≡◌, refl, sym, ap, ◌∙◌, [], ◌∷◌, Option, Some, None, Bool, true, false, if◌then◌else◌, is_some}
use Rattle.std.specs.Prelude.{option_and_then}
use Rattle.pv_place.specs.declared.place.Place.{Place}
use Rattle.pv_tree.specs.LiteralTypes.{nothing}
use Rattle.pv_tree.specs.declared.expr.UnaryOp.{UnaryOp}
use Rattle.pv_word.specs.declared.types.Ty.{Ty}
use Rattle.pv_types.specs.Tree.{TypeTree, plain, array, structure, named, unread}
use Rattle.pv_tree.specs.Tree.{ExprTree, lit, read, unary, binary, std, paren, operand}
use Rattle.pv_tree.specs.Sorts.{Sort, whole, broken, one_of, taken, common_type, result_of_unary}
use Rattle.pv_tree.specs.Scopes.{Scope, type_named}
use Rattle.pv_tree.specs.Things.{Thing, part, constant, a_block, no_name, no_array, a_date, untold, thing_of, thing_of_root, root_place}
use Rattle.pv_tree.specs.Types.{Written, literal_of, signed, sort_of, sort_of_written, sort_where, sort_of_type, sort_of_thing, are_indexed, is_void}
use Rattle.pv_names.specs.Literals.{written_of}

back : (ty : Option Ty) (v : _) → written_of (sort_of_written ty v) ≡ Some (record { ty = ty; value = v })
back None v = refl
back (Some ty) v = refl

no_value : (o : Option Ty) → written_of (one_of o) ≡ None
no_value None = refl
no_value (Some ty) = refl

type_unwritten : (scope : Scope) (t : TypeTree) → written_of (sort_of_type scope t) ≡ None
type_unwritten scope (plain ty) = refl
type_unwritten scope (array low high of at) = refl
type_unwritten scope (structure vars) = refl
type_unwritten scope (named name at) = by (is_some (type_named scope.project name.key))
  where
    by : (b : Bool) → written_of (if b then whole else broken) ≡ None
    by true = refl
    by false = refl
type_unwritten scope unread = refl

thing_unwritten : (scope : Scope) (t : Thing) → written_of (sort_of_thing scope t) ≡ None
thing_unwritten scope (part ty) = type_unwritten scope ty
thing_unwritten scope (constant ty) = type_unwritten scope ty
thing_unwritten scope (a_block b) = by (is_void b)
  where
    by : (t : Bool) → written_of (if t then broken else whole) ≡ None
    by true = refl
    by false = refl
thing_unwritten scope (no_name at) = refl
thing_unwritten scope (no_array at) = refl
thing_unwritten scope (a_date at) = refl
thing_unwritten scope untold = refl

pub literal_told : (scope : Scope) (e : ExprTree) → literal_of e ≡ written_of (sort_of scope e)
literal_told scope (lit ty value place) = sym (back ty value)
literal_told scope (read (operand root more place)) = sym (by (are_indexed scope (root_place root place) (thing_of_root scope root place) more))
  where
    by : (b : Bool) → written_of (if b then sort_of_thing scope (thing_of scope (operand root more place)) else broken) ≡ None
    by true = thing_unwritten scope (thing_of scope (operand root more place))
    by false = refl
literal_told scope (unary op place arg) = by (signed op (literal_of arg)) _
  where
    by : (o : Option Written) (t : Option Ty) → o ≡ written_of (sort_where o (one_of t))
    by None t = sym (no_value t)
    by (Some w) t = sym (back w.ty w.value)
literal_told scope (binary op place left right) = sym (no_value _)
literal_told scope (std function place args) = sym (no_value _)
literal_told scope (paren place inner) = literal_told scope inner

-- what an operator before its operand makes of it
pub unary_made : (scope : Scope) (e : ExprTree) (op : UnaryOp) (place : Place) (arg : ExprTree) (s : Sort) → e ≡ unary op place arg
    → s ≡ sort_of scope arg
    → sort_where (signed op (written_of s)) (one_of (option_and_then (result_of_unary op) (common_type (taken nothing s ∷ []))))
    ≡ sort_of scope e
unary_made scope e op place arg s is same =
    ap (λ s. sort_where (signed op (written_of s)) (one_of (option_and_then (result_of_unary op) (common_type (taken nothing s ∷ []))))) same
    ∙ ap (λ w. sort_where (signed op w) (one_of (option_and_then (result_of_unary op) (common_type (taken nothing (sort_of scope arg) ∷ [])))))
    (sym (literal_told scope arg))
    ∙ ap (sort_of scope) (sym is)
