-- The types of expressions. But for literals a part that breaks a rule has no type, and nothing around it breaks one for want of its type.
use Rattle.std.specs.Prelude.{ℤ, neg_ℤ, List, [], ◌∷◌, Bool as Truth, true, false, ◌&&◌, not, if◌then◌else◌, is_some, Option, Some, None, option_and_then, int_le}
use Rattle.pv_word.specs.declared.types.Ty.{Ty}
use Rattle.pv_place.specs.declared.place.Place.{Place}
use Rattle.pv_types.specs.Tree.{TypeTree, plain, array, structure, named, unread}
use Rattle.pv_tree.specs.declared.expr.UnaryOp.{UnaryOp}
use Rattle.pv_tree.specs.declared.expr.UnaryOp.TheVariants.{Plus, Minus, Not}
use Rattle.pv_tree.specs.Tree.{ExprTree, lit, read, unary, binary, std, paren, ExprTrees, no_exprs, exprs, OperandTree, operand, StepTree, field, index, StepTrees, no_steps, steps, BlockTree}
use Rattle.pv_tree.specs.LiteralTypes.{is_whole_number, Want, nothing}
use Rattle.pv_tree.specs.Sorts.{Sort, untyped, typed, one, whole, broken, own_type, one_of, taken, beside, common_type, is_bool, result_of_unary, result_of_binary, arguments_of, result_of_function}
use Rattle.pv_tree.specs.Scopes.{Scope, is_fc, type_named}
use Rattle.pv_tree.specs.Things.{Thing, part, constant, a_block, no_name, no_array, a_date, untold, thing_at, last_behind, dated, thing_of, thing_of_root, root_place}

-- a literal as it is written: its type, if it has one, and its value
pub record Written : Type 0 where
  pub ty : Option Ty
  pub value : ℤ

abbrev pub is_truth : Option Ty → Truth
is_truth None = false
is_truth (Some ty) = is_bool ty

-- a sign before a literal that isn't TRUE or FALSE makes a literal; NOT makes none
abbrev pub signed : UnaryOp → Option Written → Option Written
signed op None = None
signed Plus (Some w) = if is_truth w.ty then None else Some w
signed Minus (Some w) =
    if is_truth w.ty then None else Some (record { ty = w.ty; value = neg_ℤ w.value })
signed Not (Some w) = None

-- the literal that an expression is: a literal, one behind a sign, or one in parentheses
abbrev pub literal_of : ExprTree → Option Written
literal_of (lit ty value place) = Some (record { ty = ty; value = value })
literal_of (read o) = None
literal_of (unary op place arg) = signed op (literal_of arg)
literal_of (binary op place left right) = None
literal_of (std function place args) = None
literal_of (paren place inner) = literal_of inner

-- a literal keeps its type, also where that doesn't hold it
abbrev pub sort_of_written : Option Ty → ℤ → Sort
sort_of_written None value = untyped value
sort_of_written (Some ty) value = typed ty value

-- a literal, and else what an expression is
abbrev pub sort_where : Option Written → Sort → Sort
sort_where None other = other
sort_where (Some w) other = sort_of_written w.ty w.value

-- what a name stands for as a value: the name of a function without a value has none
abbrev pub sort_of_type : Scope → TypeTree → Sort
sort_of_type scope (plain ty) = one ty
sort_of_type scope (array low high of at) = whole
sort_of_type scope (structure vars) = whole
sort_of_type scope (named name at) =
    if is_some (type_named scope.project name.key) then whole else broken
sort_of_type scope unread = broken

abbrev pub is_void : BlockTree → Truth
is_void b = is_fc b.kind && not (is_some b.value)

abbrev pub sort_of_thing : Scope → Thing → Sort
sort_of_thing scope (part ty) = sort_of_type scope ty
sort_of_thing scope (constant ty) = sort_of_type scope ty
sort_of_thing scope (a_block b) = if is_void b then broken else whole
sort_of_thing scope (no_name at) = broken
sort_of_thing scope (no_array at) = broken
sort_of_thing scope (a_date at) = broken
sort_of_thing scope untold = broken

-- an index is an INT or a DINT
abbrev pub is_index_type : Option Ty → Truth
is_index_type None = false
is_index_type (Some ty) = is_whole_number ty

-- a literal lies within the bounds, and what is none may lie anywhere
abbrev pub lies_between : ℤ → ℤ → Sort → Truth
lies_between low high (untyped v) = int_le low v && int_le v high
lies_between low high (typed ty v) = int_le low v && int_le v high
lies_between low high (one ty) = true
lies_between low high whole = true
lies_between low high broken = true

-- and within those of the array that it stands behind
abbrev pub lies_in_type : TypeTree → Sort → Truth
lies_in_type (array low high of at) sort = lies_between low high sort
lies_in_type (plain ty) sort = true
lies_in_type (structure vars) sort = true
lies_in_type (named name at) sort = true
lies_in_type unread sort = true

abbrev pub lies_in : Thing → Sort → Truth
lies_in (part ty) sort = lies_in_type ty sort
lies_in (constant ty) sort = true
lies_in (a_block b) sort = true
lies_in (no_name at) sort = true
lies_in (no_array at) sort = true
lies_in (a_date at) sort = true
lies_in untold sort = true

-- an index that breaks no rule behind this thing
abbrev pub is_index : Thing → Sort → Truth
is_index thing sort = is_index_type (own_type (taken nothing sort)) && lies_in thing sort

-- what an expression is to the operators around it, and whether each index of an operand breaks no rule
abbrev mutual
  pub sort_of : Scope → ExprTree → Sort
  sort_of scope (lit ty value place) = sort_of_written ty value
  sort_of scope (read o) = sort_of_operand scope o
  sort_of scope (unary op place arg) =
      sort_where (signed op (literal_of arg)) (one_of (option_and_then (result_of_unary op)
      (common_type (taken nothing (sort_of scope arg) ∷ []))))
  sort_of scope (binary op place left right) =
      one_of (option_and_then (result_of_binary op) (common_type (beside (sort_of scope left
      ∷ sort_of scope right ∷ []))))
  sort_of scope (std function place args) =
      one_of (result_of_function function (arguments_of function (sorts_of scope args)))
  sort_of scope (paren place inner) = sort_of scope inner

  pub sorts_of : Scope → ExprTrees → List Sort
  sorts_of scope no_exprs = []
  sorts_of scope (exprs e more) = sort_of scope e ∷ sorts_of scope more

  pub sort_of_operand : Scope → OperandTree → Sort
  sort_of_operand scope (operand root more place) =
      if are_indexed scope (root_place root place) (thing_of_root scope root place) more
      then sort_of_thing scope (thing_of scope (operand root more place))
      else broken

  pub are_indexed : Scope → Place → Thing → StepTrees → Truth
  are_indexed scope last thing no_steps = true
  are_indexed scope last thing (steps step more) =
      is_indexed scope (dated last thing) step && are_indexed scope (last_behind last step)
      (thing_at scope (dated last thing) step) more

  pub is_indexed : Scope → Thing → StepTree → Truth
  is_indexed scope thing (field name place) = true
  is_indexed scope thing (index e place) = is_index thing (sort_of scope e)

-- the type of an expression of which this is wanted, where it has one
abbrev pub type_of : Scope → Want → ExprTree → Option Ty
type_of scope want e = own_type (taken want (sort_of scope e))
