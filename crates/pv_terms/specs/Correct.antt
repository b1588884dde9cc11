-- What terms are worth in a valuation, by what the values of their parts are: the statements of the laws.
use Rattle.std.specs.Prelude.{◌≡◌, ℕ, ℤ, pos, int_le, List, [], ◌∷◌, Bool as Truth, true, false, ◌&&◌, not, if◌then◌else◌}
use Rattle.std.specs.Ordering.{int_eq}
use Rattle.pv_word.specs.declared.types.Ty.{Ty}
use Rattle.pv_word.specs.declared.types.Ty.TheVariants.{Bool}
use Rattle.pv_word.specs.Types.{InRange, wrap_of}
use Rattle.pv_place.specs.declared.place.Place.{Place}
use Rattle.pv_place.specs.declared.trap.TrapKind.TheVariants.{DivideByZero}
use Rattle.pv_tree.specs.declared.expr.UnaryOp.{UnaryOp}
use Rattle.pv_tree.specs.declared.expr.BinaryOp.{BinaryOp}
use Rattle.pv_tree.specs.declared.expr.BinaryOp.TheVariants as two
use Rattle.pv_tree.specs.declared.expr.StdFunction.{StdFunction}
use Rattle.pv_tree.specs.declared.expr.StdFunction.TheVariants as std
use Rattle.pv_mean.specs.Endings.{got, trap}
use Rattle.pv_mean.specs.Values.{unary_result, binary_result, function_result}
use Rattle.pv_flow.specs.Terms.{Term, constant, Valuation, value_of, holds_in}
use Rattle.pv_terms.specs.Forms.{Typed, converted, equal_term, unary_term, binary_term, function_term, argument_term, outside_term, is_index_term}

-- a term as one of another type has its value, as it lies in that type
abbrev pub ConversionsHold : Type 0
ConversionsHold = (w : Valuation) (from to : Ty) (t : Term) → InRange from (value_of w t)
    → value_of w (converted from to t) ≡ wrap_of to (value_of w t)

abbrev pub UnariesHold : Type 0
UnariesHold = (w : Valuation) (op : UnaryOp) (ty : Ty) (t : Term) → value_of w (unary_term op ty t) ≡ unary_result op ty (value_of w t)

-- the operator traps where its divisor is 0
abbrev pub divides : BinaryOp → Truth
divides two.Mul = false
divides two.Div = true
divides two.Mod = true
divides two.Add = false
divides two.Sub = false
divides two.Less = false
divides two.Greater = false
divides two.LessEqual = false
divides two.GreaterEqual = false
divides two.Equal = false
divides two.NotEqual = false
divides two.And = false
divides two.Xor = false
divides two.Or = false

abbrev pub BinariesHold : Type 0
BinariesHold = (w : Valuation) (op : BinaryOp) (ty : Ty) (place : Place) (s t : Term)
    → binary_result op ty place (value_of w s) (value_of w t)
    ≡ (if divides op && holds_in w (equal_term t (constant ty (pos 0))) then trap DivideByZero place
    else got (value_of w (binary_term op ty s t)))

-- the arguments of a function: of a conversion one of the type that it is from, of SEL a BOOL and two of the result's type, of a shift
-- a value and a number, else all of the result's type
abbrev pub argument_values : StdFunction → Valuation → Ty → ℕ → List Typed → List ℤ
argument_values (std.Convert from to) w ty count ts = value_of w (argument_term 0 from ts) ∷ []
argument_values std.Abs w ty count ts = value_of w (argument_term 0 ty ts) ∷ []
argument_values std.Min w ty count ts = value_of w (argument_term 0 ty ts) ∷ value_of w (argument_term 1 ty ts) ∷ []
argument_values std.Max w ty count ts = value_of w (argument_term 0 ty ts) ∷ value_of w (argument_term 1 ty ts) ∷ []
argument_values std.Limit w ty count ts =
    value_of w (argument_term 0 ty ts) ∷ value_of w (argument_term 1 ty ts) ∷ value_of w (argument_term 2 ty ts) ∷ []
argument_values std.Sel w ty count ts =
    value_of w (argument_term 0 Bool ts) ∷ value_of w (argument_term 1 ty ts) ∷ value_of w (argument_term 2 ty ts) ∷ []
argument_values std.Shl w ty count ts = value_of w (argument_term 0 ty ts) ∷ pos count ∷ []
argument_values std.Shr w ty count ts = value_of w (argument_term 0 ty ts) ∷ pos count ∷ []

-- what the first argument is of
abbrev pub first_type : StdFunction → Ty → Ty
first_type (std.Convert from to) ty = from
first_type std.Abs ty = ty
first_type std.Min ty = ty
first_type std.Max ty = ty
first_type std.Limit ty = ty
first_type std.Sel ty = Bool
first_type std.Shl ty = ty
first_type std.Shr ty = ty

abbrev pub FunctionsHold : Type 0
FunctionsHold = (w : Valuation) (function : StdFunction) (ty : Ty) (count : ℕ) (ts : List Typed)
    → InRange (first_type function ty) (value_of w (argument_term 0 (first_type function ty) ts))
    → value_of w (function_term function ty count ts) ≡ function_result function ty (argument_values function w ty count ts)

-- an index is outside the bounds, and it is one of them
pub record IndexesHold : Type 0 where
  pub outside : (w : Valuation) (i : Term) (low high : ℤ)
      → holds_in w (outside_term i low high) ≡ not (int_le low (value_of w i) && int_le (value_of w i) high)
  pub is_index : (w : Valuation) (i : Term) (v : ℤ) → holds_in w (is_index_term i v) ≡ int_eq (value_of w i) v
