-- Terms: expressions over the variables of an automaton. A term has a value in every valuation, also by a divisor that is 0: what
-- traps there is an edge of its own, which is taken before the value is used.
use Rattle.std.specs.Prelude.{◌≡◌, ℕ, ◌<◌, ℤ, pos, neg_ℤ, ◌+ℤ◌, ◌-ℤ◌, ◌*ℤ◌, int_lt, Bool as Truth, true, false, not, ◌&&◌, ◌||◌, ◌==◌, nat_lt, if◌then◌else◌}
use Rattle.std.specs.Ordering.{int_eq}
use Rattle.std.proofs.Props.{props}
use Rattle.pv_word.specs.declared.types.Ty.{Ty}
use Rattle.pv_word.specs.declared.types.Ty.TheVariants.{Bool, Int}
use Rattle.pv_word.specs.Types.{InRange, is_signed_of, wrap_of, and_of, or_of, xor_of, not_of, shl_of, shr_of}
use Rattle.pv_word.specs.Quotients.{quotient_of, remainder_of}
use Rattle.pv_flow.specs.declared.op.UnaryOp.{UnaryOp}
use Rattle.pv_flow.specs.declared.op.UnaryOp.TheVariants.{Not, Negate, Left, Right, Convert}
use Rattle.pv_flow.specs.declared.op.BinaryOp.{BinaryOp}
use Rattle.pv_flow.specs.declared.op.BinaryOp.TheVariants.{And, Or, Xor, Add, Subtract, Multiply, Divide, Remainder, Less, Equal, SumOverflow, DifferenceOverflow, ProductOverflow}

-- each operator stands with the type of its result
pub data Term : Type 0 where
  constant : Ty → ℤ → Term
  variable : ℕ → Term
  unary : UnaryOp → Ty → Term → Term
  binary : BinaryOp → Ty → Term → Term → Term
  select : Ty → Term → Term → Term → Term

-- ---- values

-- a value for each variable, by its number: any whole number, so it may be none of the variable's type. What is said of automata is said
-- of valuations that give their variables values of their types (AreTyped).
abbrev pub Valuation : Type 0
Valuation = ℕ → ℤ

-- true is 1, false is 0
abbrev pub number_of : Truth → ℤ
number_of false = pos 0
number_of true = pos 1

abbrev pub is_true : ℤ → Truth
is_true v = int_eq v (pos 1)

-- the number is no value of the type
abbrev pub is_past : Ty → ℤ → Truth
is_past ty n = not (int_eq (wrap_of ty n) n)

abbrev pub unary_value : UnaryOp → Ty → ℤ → ℤ
unary_value Not ty a = not_of ty a
unary_value Negate ty a = wrap_of ty (neg_ℤ a)
unary_value (Left n) ty a = shl_of ty a n
unary_value (Right n) ty a = shr_of ty a n
unary_value Convert ty a = wrap_of ty a

abbrev pub binary_value : BinaryOp → Ty → ℤ → ℤ → ℤ
binary_value And ty a b = and_of ty a b
binary_value Or ty a b = or_of ty a b
binary_value Xor ty a b = xor_of ty a b
binary_value Add ty a b = wrap_of ty (a +ℤ b)
binary_value Subtract ty a b = wrap_of ty (a -ℤ b)
binary_value Multiply ty a b = wrap_of ty (a *ℤ b)
binary_value Divide ty a b = quotient_of ty a b
binary_value Remainder ty a b = remainder_of ty a b
binary_value Less ty a b = number_of (int_lt a b)
binary_value Equal ty a b = number_of (int_eq a b)
binary_value (SumOverflow of) ty a b = number_of (is_past of (a +ℤ b))
binary_value (DifferenceOverflow of) ty a b = number_of (is_past of (a -ℤ b))
binary_value ProductOverflow ty a b = number_of (is_past Int (a *ℤ b))

-- the first where the condition is true
abbrev pub select_value : ℤ → ℤ → ℤ → ℤ
select_value c a b = if is_true c then a else b

abbrev pub value_of : Valuation → Term → ℤ
value_of w (constant ty v) = v
value_of w (variable n) = w n
value_of w (unary op ty t) = unary_value op ty (value_of w t)
value_of w (binary op ty s t) = binary_value op ty (value_of w s) (value_of w t)
value_of w (select ty c s t) = select_value (value_of w c) (value_of w s) (value_of w t)

-- the term is true: the BOOL 1
abbrev pub holds_in : Valuation → Term → Truth
holds_in w t = is_true (value_of w t)

-- ---- types

-- a type for each variable, by its number
abbrev pub Types : Type 0
Types = ℕ → Ty

abbrev pub type_of : Types → Term → Ty
type_of types (constant ty v) = ty
type_of types (variable n) = types n
type_of types (unary op ty t) = ty
type_of types (binary op ty s t) = ty
type_of types (select ty c s t) = ty

-- by the result's type and the operand's: the circuits of patterns, negation and shifts are of one width, a conversion takes any
abbrev pub FitsUnary : UnaryOp → Ty → Ty → Type 0
FitsUnary Not ty a = a ≡ ty
FitsUnary Negate ty a = a ≡ ty
FitsUnary (Left n) ty a = a ≡ ty
FitsUnary (Right n) ty a = a ≡ ty
FitsUnary Convert ty a = Unit {0}

-- by the result's type and the operands': a comparison is of two values of one type; overflow is asked of operands of a signed type,
-- which has sums and differences, of products of INT
abbrev pub FitsBinary : BinaryOp → Ty → Ty → Ty → Type 0
FitsBinary And ty a b = (a ≡ ty) × (b ≡ ty)
FitsBinary Or ty a b = (a ≡ ty) × (b ≡ ty)
FitsBinary Xor ty a b = (a ≡ ty) × (b ≡ ty)
FitsBinary Add ty a b = (a ≡ ty) × (b ≡ ty)
FitsBinary Subtract ty a b = (a ≡ ty) × (b ≡ ty)
FitsBinary Multiply ty a b = (a ≡ ty) × (b ≡ ty)
FitsBinary Divide ty a b = (a ≡ ty) × (b ≡ ty)
FitsBinary Remainder ty a b = (a ≡ ty) × (b ≡ ty)
FitsBinary Less ty a b = (ty ≡ Bool) × (a ≡ b)
FitsBinary Equal ty a b = (ty ≡ Bool) × (a ≡ b)
FitsBinary (SumOverflow of) ty a b = (ty ≡ Bool) × (a ≡ of) × (b ≡ of) × (is_signed_of of ≡ true)
FitsBinary (DifferenceOverflow of) ty a b = (ty ≡ Bool) × (a ≡ of) × (b ≡ of) × (is_signed_of of ≡ true)
FitsBinary ProductOverflow ty a b = (ty ≡ Bool) × (a ≡ Int) × (b ≡ Int)

-- each operator has operands of the types that its circuit takes, and each constant lies in its type
abbrev pub IsTyped : Types → Term → Type 0
IsTyped types (constant ty v) = InRange ty v
IsTyped types (variable n) = Unit {0}
IsTyped types (unary op ty t) = IsTyped types t × FitsUnary op ty (type_of types t)
IsTyped types (binary op ty s t) = IsTyped types s × IsTyped types t × FitsBinary op ty (type_of types s) (type_of types t)
IsTyped types (select ty c s t) =
    IsTyped types c × IsTyped types s × IsTyped types t
    × (type_of types c ≡ Bool) × (type_of types s ≡ ty) × (type_of types t ≡ ty)

-- each of the first n variables has a value of its type. Of other numbers nothing is said: at a call other blocks' variables lie there.
abbrev pub AreTyped : ℕ → Types → Valuation → Type 0
AreTyped n types w = (x : ℕ) → x < n → InRange (types x) (w x)

-- ---- variables

-- the term names variables below n alone
abbrev pub names_below : ℕ → Term → Truth
names_below n (constant ty v) = true
names_below n (variable k) = nat_lt k n
names_below n (unary op ty t) = names_below n t
names_below n (binary op ty s t) = names_below n s && names_below n t
names_below n (select ty c s t) = names_below n c && names_below n s && names_below n t

-- the term reads variable n
abbrev pub reads : ℕ → Term → Truth
reads n (constant ty v) = false
reads n (variable k) = k == n
reads n (unary op ty t) = reads n t
reads n (binary op ty s t) = reads n s || reads n t
reads n (select ty c s t) = reads n c || reads n s || reads n t

-- ---- facts that a struct may keep have one proof at most

FitsUnary-prop : (op : UnaryOp) (ty a : Ty) → IsProp (FitsUnary op ty a)
FitsUnary-prop Not ty a = hlevel props
FitsUnary-prop Negate ty a = hlevel props
FitsUnary-prop (Left n) ty a = hlevel props
FitsUnary-prop (Right n) ty a = hlevel props
FitsUnary-prop Convert ty a = hlevel props

FitsBinary-prop : (op : BinaryOp) (ty a b : Ty) → IsProp (FitsBinary op ty a b)
FitsBinary-prop And ty a b = hlevel props
FitsBinary-prop Or ty a b = hlevel props
FitsBinary-prop Xor ty a b = hlevel props
FitsBinary-prop Add ty a b = hlevel props
FitsBinary-prop Subtract ty a b = hlevel props
FitsBinary-prop Multiply ty a b = hlevel props
FitsBinary-prop Divide ty a b = hlevel props
FitsBinary-prop Remainder ty a b = hlevel props
FitsBinary-prop Less ty a b = hlevel props
FitsBinary-prop Equal ty a b = hlevel props
FitsBinary-prop (SumOverflow of) ty a b = hlevel props
FitsBinary-prop (DifferenceOverflow of) ty a b = hlevel props
FitsBinary-prop ProductOverflow ty a b = hlevel props

pub IsTyped-prop : (types : Types) (t : Term) → IsProp (IsTyped types t)
IsTyped-prop types (constant ty v) = hlevel props
IsTyped-prop types (variable n) = hlevel props
IsTyped-prop types (unary op ty t) = hlevel (props, IsTyped-prop types t, FitsUnary-prop op ty (type_of types t))
IsTyped-prop types (binary op ty s t) =
    hlevel (props, IsTyped-prop types s, IsTyped-prop types t, FitsBinary-prop op ty (type_of types s) (type_of types t))
IsTyped-prop types (select ty c s t) = hlevel (props, IsTyped-prop types c, IsTyped-prop types s, IsTyped-prop types t)
