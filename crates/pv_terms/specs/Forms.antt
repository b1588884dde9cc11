-- The terms that operators, functions and conversions become. There are no terms of their own for most comparisons, for MIN, MAX, LIMIT
-- and ABS: `a > b` is `Less(b, a)`, `a <= b` is `Not(Less(b, a))`, and so on. (This project's own.)
use Rattle.std.specs.Prelude.{ℕ, zero, suc, ℤ, pos, List, [], ◌∷◌, Bool as Truth, ◌&&◌, if◌then◌else◌}
use Rattle.pv_word.specs.declared.types.Ty.{Ty}
use Rattle.pv_word.specs.declared.types.Ty.TheVariants.{Bool, Dint}
use Rattle.pv_word.specs.Types.{wrap_of}
use Rattle.pv_tree.specs.declared.expr.UnaryOp as tree1
use Rattle.pv_tree.specs.declared.expr.UnaryOp.TheVariants as one
use Rattle.pv_tree.specs.declared.expr.BinaryOp as tree2
use Rattle.pv_tree.specs.declared.expr.BinaryOp.TheVariants as two
use Rattle.pv_tree.specs.declared.expr.StdFunction.{StdFunction}
use Rattle.pv_tree.specs.declared.expr.StdFunction.TheVariants as std
use Rattle.pv_tree.specs.Sorts.{widens}
use Rattle.pv_flow.specs.declared.op.UnaryOp.TheVariants.{Not, Negate, Left, Right, Convert}
use Rattle.pv_flow.specs.declared.op.BinaryOp.TheVariants.{And, Or, Xor, Add, Subtract, Multiply, Divide, Remainder, Less, Equal}
use Rattle.pv_flow.specs.Terms.{Term, constant, variable, unary, binary, select}

-- ---- conversions

-- types that widen to each other are one
abbrev pub is_same : Ty → Ty → Truth
is_same a b = widens a b && widens b a

-- a term of the first type as one of the second: a constant becomes another constant, and what has the type stays
abbrev pub made_of : Ty → Ty → Term → Term
made_of from to t = if is_same from to then t else unary Convert to t

abbrev pub converted : Ty → Ty → Term → Term
converted from to (constant ty v) = constant to (wrap_of to v)
converted from to (variable n) = made_of from to (variable n)
converted from to (unary op ty t) = made_of from to (unary op ty t)
converted from to (binary op ty s t) = made_of from to (binary op ty s t)
converted from to (select ty c s t) = made_of from to (select ty c s t)

-- a term with its type
pub record Typed : Type 0 where
  pub ty : Ty
  pub term : Term

abbrev pub at_type : Ty → Typed → Term
at_type ty t = converted t.ty ty t.term

-- ---- truth

abbrev pub truth : ℤ → Term
truth v = constant Bool v

abbrev pub yes_term : Term
yes_term = truth (pos 1)

abbrev pub not_term : Term → Term
not_term t = unary Not Bool t

abbrev pub or_term : Term → Term → Term
or_term a b = binary Or Bool a b

abbrev pub less_term : Term → Term → Term
less_term a b = binary Less Bool a b

abbrev pub equal_term : Term → Term → Term
equal_term a b = binary Equal Bool a b

-- ---- operators

-- by the type of the operand, which is the result's
abbrev pub unary_term : tree1.UnaryOp → Ty → Term → Term
unary_term one.Plus ty t = t
unary_term one.Minus ty t = unary Negate ty t
unary_term one.Not ty t = unary Not ty t

-- by the type at which the operands meet; a comparison's result is a BOOL, every other has that type
abbrev pub binary_term : tree2.BinaryOp → Ty → Term → Term → Term
binary_term two.Mul ty a b = binary Multiply ty a b
binary_term two.Div ty a b = binary Divide ty a b
binary_term two.Mod ty a b = binary Remainder ty a b
binary_term two.Add ty a b = binary Add ty a b
binary_term two.Sub ty a b = binary Subtract ty a b
binary_term two.Less ty a b = less_term a b
binary_term two.Greater ty a b = less_term b a
binary_term two.LessEqual ty a b = not_term (less_term b a)
binary_term two.GreaterEqual ty a b = not_term (less_term a b)
binary_term two.Equal ty a b = equal_term a b
binary_term two.NotEqual ty a b = not_term (equal_term a b)
binary_term two.And ty a b = binary And ty a b
binary_term two.Xor ty a b = binary Xor ty a b
binary_term two.Or ty a b = binary Or ty a b

-- ---- functions

abbrev pub lesser_term : Ty → Term → Term → Term
lesser_term ty a b = select ty (less_term a b) a b

abbrev pub greater_term : Ty → Term → Term → Term
greater_term ty a b = select ty (less_term a b) b a

abbrev pub magnitude_term : Ty → Term → Term
magnitude_term ty t = select ty (less_term t (constant ty (pos 0))) (unary Negate ty t) t

-- the k-th argument as one of a type; one that isn't there is 0
abbrev pub argument_term : ℕ → Ty → List Typed → Term
argument_term k ty [] = constant ty (pos 0)
argument_term zero ty (t ∷ ts) = at_type ty t
argument_term (suc k) ty (t ∷ ts) = argument_term k ty ts

-- by the result's type, at which the arguments meet; a conversion's is first made one of the parameter's type; what is shifted by is a
-- number and no term
abbrev pub function_term : StdFunction → Ty → ℕ → List Typed → Term
function_term (std.Convert from to) ty count ts = converted from to (argument_term 0 from ts)
function_term std.Abs ty count ts = magnitude_term ty (argument_term 0 ty ts)
function_term std.Min ty count ts = lesser_term ty (argument_term 0 ty ts) (argument_term 1 ty ts)
function_term std.Max ty count ts = greater_term ty (argument_term 0 ty ts) (argument_term 1 ty ts)
function_term std.Limit ty count ts =
    lesser_term ty (argument_term 2 ty ts) (greater_term ty (argument_term 0 ty ts) (argument_term 1 ty ts))
function_term std.Sel ty count ts =
    select ty (argument_term 0 Bool ts) (argument_term 2 ty ts) (argument_term 1 ty ts)
function_term std.Shl ty count ts = unary (Left count) ty (argument_term 0 ty ts)
function_term std.Shr ty count ts = unary (Right count) ty (argument_term 0 ty ts)

-- ---- indexes

-- an index as a DINT that is outside the bounds
abbrev pub outside_term : Term → ℤ → ℤ → Term
outside_term i low high = or_term (less_term i (constant Dint low)) (less_term (constant Dint high) i)

abbrev pub is_index_term : Term → ℤ → Term
is_index_term i v = equal_term i (constant Dint v)
