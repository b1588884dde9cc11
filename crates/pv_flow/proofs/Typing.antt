-- A typed term over variables that have values of their types has a value of its type.
use Rattle.std.proofs.Common.{◌≡◌, ℕ, zero, suc, ℤ, pos, negsuc, Bool as Truth, true, false, ◌&&◌, cond, sym, subst, arith}
use Rattle.std.proofs.lemmas.Bool.{ltb-true, and_parts}
use Rattle.std.proofs.lemmas.Int.{ints}
use Rattle.pv_word.specs.declared.types.Ty.{Ty}
use Rattle.pv_word.specs.declared.types.Ty.TheVariants.{Bool}
use Rattle.pv_word.specs.Types.{width_of, is_signed_of, InRange, wrap_of}
use Rattle.pv_word.specs.Quotients.{quotient_of, remainder_of}
use Rattle.pv_word.proofs.ForCallers.{wide, wrap-in_range, zero-in_range}
use Rattle.pv_flow.specs.declared.op.UnaryOp.{UnaryOp}
use Rattle.pv_flow.specs.declared.op.UnaryOp.TheVariants.{Not, Negate, Left, Right, Convert}
use Rattle.pv_flow.specs.declared.op.BinaryOp.{BinaryOp}
use Rattle.pv_flow.specs.declared.op.BinaryOp.TheVariants.{And, Or, Xor, Add, Subtract, Multiply, Divide, Remainder, Less, Equal, SumOverflow, DifferenceOverflow, ProductOverflow}
use Rattle.pv_flow.specs.Terms.{Term, constant, variable, unary, binary, select, Valuation, number_of, is_true, unary_value, binary_value, value_of, Types, type_of, FitsBinary, IsTyped, AreTyped, names_below}

pub wrapped : (ty : Ty) (n : ℤ) → InRange ty (wrap_of ty n)
wrapped ty n = wrap-in_range (width_of ty) (is_signed_of ty) n (wide ty)

pub zero_fits : (ty : Ty) → InRange ty (pos 0)
zero_fits ty = zero-in_range (width_of ty) (is_signed_of ty) (wide ty)

pub bit_fits : (b : Truth) → InRange Bool (number_of b)
bit_fits true = record { from = omega (arith, ints); to = omega (arith, ints) }
bit_fits false = record { from = omega (arith, ints); to = omega (arith, ints) }

-- of a type that is BOOL
bit_fits_in : (ty : Ty) (b : Truth) → ty ≡ Bool → InRange ty (number_of b)
bit_fits_in ty b e = subst (λ (t : Ty). InRange t (number_of b)) (sym e) (bit_fits b)

-- of another name of the type
pub fits_in : (a ty : Ty) (v : ℤ) → a ≡ ty → InRange a v → InRange ty v
fits_in a ty v e h = subst (λ (t : Ty). InRange t v) e h

quotient_fits : (ty : Ty) (a b : ℤ) → InRange ty (quotient_of ty a b)
quotient_fits ty a (pos zero) = wrapped ty _
quotient_fits ty a (pos (suc n)) = wrapped ty _
quotient_fits ty a (negsuc n) = wrapped ty _

remainder_fits : (ty : Ty) (a b : ℤ) → InRange ty a → InRange ty (remainder_of ty a b)
remainder_fits ty a (pos zero) h = h
remainder_fits ty a (pos (suc n)) h = wrapped ty _
remainder_fits ty a (negsuc n) h = wrapped ty _

unary_fits : (op : UnaryOp) (ty : Ty) (a : ℤ) → InRange ty (unary_value op ty a)
unary_fits Not ty a = wrapped ty _
unary_fits Negate ty a = wrapped ty _
unary_fits (Left n) ty a = wrapped ty _
unary_fits (Right n) ty a = wrapped ty _
unary_fits Convert ty a = wrapped ty _

binary_fits : (op : BinaryOp) (ty s t : Ty) (a b : ℤ) → FitsBinary op ty s t → InRange s a → InRange ty (binary_value op ty a b)
binary_fits And ty s t a b fits h = wrapped ty _
binary_fits Or ty s t a b fits h = wrapped ty _
binary_fits Xor ty s t a b fits h = wrapped ty _
binary_fits Add ty s t a b fits h = wrapped ty _
binary_fits Subtract ty s t a b fits h = wrapped ty _
binary_fits Multiply ty s t a b fits h = wrapped ty _
binary_fits Divide ty s t a b fits h = quotient_fits ty a b
binary_fits Remainder ty s t a b fits h = remainder_fits ty a b (fits_in s ty a fits.0 h)
binary_fits Less ty s t a b fits h = bit_fits_in ty _ fits.0
binary_fits Equal ty s t a b fits h = bit_fits_in ty _ fits.0
binary_fits (SumOverflow of) ty s t a b fits h = bit_fits_in ty _ fits.0
binary_fits (DifferenceOverflow of) ty s t a b fits h = bit_fits_in ty _ fits.0
binary_fits ProductOverflow ty s t a b fits h = bit_fits_in ty _ fits.0

chosen_fits : (ty : Ty) (c : Truth) (a b : ℤ) → InRange ty a → InRange ty b → InRange ty (cond c a b)
chosen_fits ty true a b h k = h
chosen_fits ty false a b h k = k

pub typed_value : (n : ℕ) (types : Types) (w : Valuation) → AreTyped n types w → (t : Term) → names_below n t ≡ true → IsTyped types t
    → InRange (type_of types t) (value_of w t)
typed_value n types w are (constant ty v) names h = h
typed_value n types w are (variable x) names h = are x (ltb-true x n names)
typed_value n types w are (unary op ty t) names h = unary_fits op ty (value_of w t)
typed_value n types w are (binary op ty s t) names h =
    binary_fits op ty (type_of types s) (type_of types t) (value_of w s) (value_of w t) h.2
    (typed_value n types w are s (and_parts (names_below n s) (names_below n t) names).0 h.0)
typed_value n types w are (select ty c s t) names h =
    let both = and_parts (names_below n c && names_below n s) (names_below n t) names in
    let first = (and_parts (names_below n c) (names_below n s) both.0).1 in
    chosen_fits ty (is_true (value_of w c)) (value_of w s) (value_of w t)
    (fits_in (type_of types s) ty (value_of w s) h.4 (typed_value n types w are s first h.1))
    (fits_in (type_of types t) ty (value_of w t) h.5 (typed_value n types w are t both.1 h.2))
