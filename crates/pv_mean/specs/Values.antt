-- The value of an expression in a frame: a number or a trap. Operands are taken from left to right, those of every operator and
-- function all, also where the first decides, and the first trap decides. After the manual S7-SCL for S7-300/S7-400,
-- "Expressions, Operations and Addresses" and "Standard Functions of S7-SCL"; that nothing is skipped, and the traps, are this
-- project's own.
use Rattle.std.specs.Prelude.{ℕ, ℤ, pos, neg_ℤ, ◌+ℤ◌, ◌-ℤ◌, ◌*ℤ◌, unsigned_abs, int_lt, int_le, List, [], ◌∷◌, Bool as Truth, true, false, not, if◌then◌else◌, Option, Some, None, unwrap_or}
use Rattle.std.specs.Ordering.{int_eq}
use Rattle.pv_word.specs.declared.types.Ty.{Ty}
use Rattle.pv_word.specs.declared.types.Ty.TheVariants.{Dint}
use Rattle.pv_word.specs.Types.{wrap_of, and_of, or_of, xor_of, not_of, shl_of, shr_of}
use Rattle.pv_word.specs.Division.{quotient, remainder}
use Rattle.pv_place.specs.declared.place.Place.{Place}
use Rattle.pv_place.specs.declared.trap.TrapKind.TheVariants.{DivideByZero, Index}
use Rattle.pv_tree.specs.declared.expr.UnaryOp.{UnaryOp}
use Rattle.pv_tree.specs.declared.expr.UnaryOp.TheVariants.{Plus, Minus, Not}
use Rattle.pv_tree.specs.declared.expr.BinaryOp.{BinaryOp}
use Rattle.pv_tree.specs.declared.expr.BinaryOp.TheVariants.{Mul, Div, Mod, Add, Sub, Less, Greater, LessEqual, GreaterEqual, Equal, NotEqual, And, Xor, Or}
use Rattle.pv_tree.specs.declared.expr.StdFunction.{StdFunction}
use Rattle.pv_tree.specs.declared.expr.StdFunction.TheVariants.{Convert, Abs, Min, Max, Limit, Sel, Shl, Shr}
use Rattle.pv_tree.specs.Tree.{ExprTree, lit, read, unary, binary, std, paren, ExprTrees, no_exprs, exprs, OperandTree, operand, StepTree, field, index, StepTrees, no_steps, steps}
use Rattle.pv_tree.specs.Sorts.{own_type}
use Rattle.pv_tree.specs.Scopes.{Scope}
use Rattle.pv_tree.specs.Things.{place_of_operand}
use Rattle.pv_tree.specs.Types.{Written, signed, literal_of, sort_of}
use Rattle.pv_mean.specs.Layout.{Laid, field_laid, element_laid}
use Rattle.pv_mean.specs.Sources.{Source}
use Rattle.pv_mean.specs.Frames.{Frame}
use Rattle.pv_mean.specs.Endings.{Tried, got, trap, Value, and_then}
use Rattle.pv_mean.specs.Spots.{Spot, nowhere, read_spot}
use Rattle.pv_mean.specs.Activations.{Activation, scope_in, Begins, in_visible, in_brief, at, visible_where, brief_where, root_begins, spot_of}

-- ---- operators on numbers of a type

-- true is 1, false is 0
abbrev pub number_of : Truth → ℤ
number_of false = pos 0
number_of true = pos 1

abbrev pub is_true : ℤ → Truth
is_true v = int_eq v (pos 1)

abbrev pub unary_result : UnaryOp → Ty → ℤ → ℤ
unary_result Plus ty a = a
unary_result Minus ty a = wrap_of ty (neg_ℤ a)
unary_result Not ty a = not_of ty a

-- a quotient truncates toward zero, and a remainder has the sign of the dividend; the place is the operator's
abbrev pub divided : Place → ℤ → ℤ → Value
divided place b result = if int_eq b (pos 0) then trap DivideByZero place else got result

abbrev pub binary_result : BinaryOp → Ty → Place → ℤ → ℤ → Value
binary_result Mul ty place a b = got (wrap_of ty (a *ℤ b))
binary_result Div ty place a b = divided place b (wrap_of ty (quotient a b))
binary_result Mod ty place a b = divided place b (wrap_of ty (remainder a b))
binary_result Add ty place a b = got (wrap_of ty (a +ℤ b))
binary_result Sub ty place a b = got (wrap_of ty (a -ℤ b))
binary_result Less ty place a b = got (number_of (int_lt a b))
binary_result Greater ty place a b = got (number_of (int_lt b a))
binary_result LessEqual ty place a b = got (number_of (int_le a b))
binary_result GreaterEqual ty place a b = got (number_of (int_le b a))
binary_result Equal ty place a b = got (number_of (int_eq a b))
binary_result NotEqual ty place a b = got (number_of (not (int_eq a b)))
binary_result And ty place a b = got (and_of ty a b)
binary_result Xor ty place a b = got (xor_of ty a b)
binary_result Or ty place a b = got (or_of ty a b)

-- ---- functions

abbrev pub lesser : ℤ → ℤ → ℤ
lesser a b = if int_le a b then a else b

abbrev pub greater : ℤ → ℤ → ℤ
greater a b = if int_le a b then b else a

abbrev pub argument : List ℤ → ℤ
argument [] = pos 0
argument (v ∷ vs) = v

abbrev pub arguments_behind : List ℤ → List ℤ
arguments_behind [] = []
arguments_behind (v ∷ vs) = vs

-- by the arguments in their order: LIMIT is the lesser of MX and the greater of MN and IN, and SEL is IN1 where G is true
abbrev pub function_result : StdFunction → Ty → List ℤ → ℤ
function_result (Convert from to) ty vs = wrap_of to (argument vs)
function_result Abs ty vs = wrap_of ty (pos (unsigned_abs (argument vs)))
function_result Min ty vs = lesser (argument vs) (argument (arguments_behind vs))
function_result Max ty vs = greater (argument vs) (argument (arguments_behind vs))
function_result Limit ty vs =
    lesser (argument (arguments_behind (arguments_behind vs)))
    (greater (argument vs) (argument (arguments_behind vs)))
function_result Sel ty vs =
    if is_true (argument vs) then argument (arguments_behind (arguments_behind vs))
    else argument (arguments_behind vs)
function_result Shl ty vs = shl_of ty (argument vs) (unsigned_abs (argument (arguments_behind vs)))
function_result Shr ty vs = shr_of ty (argument vs) (unsigned_abs (argument (arguments_behind vs)))

-- ---- steps

abbrev pub field_begins : Source → Begins → List ℕ → Begins
field_begins source (in_visible laid) key = visible_where (field_laid source.project laid key)
field_begins source (in_brief laid) key = brief_where (field_laid source.project laid key)
field_begins source (at spot) key = at nowhere

-- an index outside the bounds traps at its `[`
abbrev pub element_where : (Laid → Begins) → Option Laid → Place → Tried Begins
element_where make None place = trap Index place
element_where make (Some laid) place = got (make laid)

abbrev pub element_begins : Source → Begins → ℤ → Place → Tried Begins
element_begins source (in_visible laid) i place =
    element_where in_visible (element_laid source.project laid i) place
element_begins source (in_brief laid) i place =
    element_where in_brief (element_laid source.project laid i) place
element_begins source (at spot) i place = got (at nowhere)

-- ---- values

-- the type of an operator's or a function's result. What breaks a rule has none, and then it doesn't matter
abbrev pub result_type : Scope → ExprTree → Ty
result_type scope e = unwrap_or (own_type (sort_of scope e)) Dint

-- a literal with its signs, or another value
abbrev pub literal_or : Option Written → Value → Value
literal_or None other = other
literal_or (Some w) other = got w.value

abbrev mutual
  -- the value of an expression in an activation's frame
  pub value : Source → Activation → Frame → ExprTree → Value
  value source act frame (lit ty v place) = got v
  value source act frame (read o) =
      and_then (locate source act frame o) (λ spot. read_spot frame (place_of_operand o) spot)
  value source act frame (unary op place arg) =
      literal_or (signed op (literal_of arg)) (and_then (value source act frame arg)
      (λ a. got (unary_result op (result_type (scope_in source act) (unary op place arg)) a)))
  value source act frame (binary op place left right) =
      and_then (value source act frame left) (λ a. and_then (value source act frame right)
      (λ b. binary_result op (result_type (scope_in source act) (binary op place left right)) place
      a b))
  value source act frame (std function place args) =
      and_then (values source act frame args) (λ vs. got (function_result function
      (result_type (scope_in source act) (std function place args)) vs))
  value source act frame (paren place inner) = value source act frame inner

  -- the values of a function's arguments
  pub values : Source → Activation → Frame → ExprTrees → Tried (List ℤ)
  values source act frame no_exprs = got []
  values source act frame (exprs e more) =
      and_then (value source act frame e) (λ v. and_then (values source act frame more)
      (λ vs. got (v ∷ vs)))

  -- the spot that an operand names: each index is evaluated and checked in its turn
  pub locate : Source → Activation → Frame → OperandTree → Tried Spot
  locate source act frame (operand root more place) =
      and_then (behind source act frame (root_begins source act root) more)
      (λ b. got (spot_of b))

  pub behind : Source → Activation → Frame → Begins → StepTrees → Tried Begins
  behind source act frame begins no_steps = got begins
  behind source act frame begins (steps step more) =
      and_then (step_behind source act frame begins step)
      (λ b. behind source act frame b more)

  pub step_behind : Source → Activation → Frame → Begins → StepTree → Tried Begins
  step_behind source act frame begins (field name place) =
      got (field_begins source begins name.key)
  step_behind source act frame begins (index e place) =
      and_then (value source act frame e) (λ i. element_begins source begins i place)
