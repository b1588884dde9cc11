-- What operators around parts come to, by what the parts come to.
use Rattle.std.proofs.Common.{◌≡◌, List, [], ◌∷◌, ◌++◌, append_assoc, Bool as Truth, true, false, refl, sym, ap, ◌∙◌}
use Rattle.std.specs.Prelude.{◌&&◌, if◌then◌else◌, pos, ℤ}
use Rattle.pv_word.specs.declared.types.Ty.{Ty}
use Rattle.pv_place.specs.declared.place.Place.{Place}
use Rattle.pv_place.specs.declared.trap.TrapKind.TheVariants.{DivideByZero}
use Rattle.pv_tree.specs.declared.expr.UnaryOp.{UnaryOp}
use Rattle.pv_tree.specs.declared.expr.BinaryOp.{BinaryOp}
use Rattle.pv_tree.specs.declared.expr.BinaryOp.TheVariants as two
use Rattle.pv_mean.specs.Endings.{got, trap, and_then}
use Rattle.pv_mean.specs.Values.{unary_result, binary_result}
use Rattle.pv_sizes.specs.Checks.{divides}
use Rattle.pv_flow.specs.Terms.{Term, constant, Valuation, value_of, holds_in}
use Rattle.pv_terms.specs.Forms.{equal_term, binary_term}
use Rattle.pv_terms.specs.Correct as terms
use Rattle.pv_access.specs.Accesses.{Check}
use Rattle.pv_access.specs.Correct.{checked}
use Rattle.pv_lower.specs.Lowered.{Lowered, around, divisor_checks, joined}
use Rattle.pv_laws_lower.specs.Agrees.{outcome}
use Rattle.pv_laws_lower.proofs.Checked.{then_checked, same_then, checked_map}

pub unary_outcome : terms.UnariesHold → (w : Valuation) (op : UnaryOp) (ty : Ty) (l : Lowered)
    → outcome w (around op ty l) ≡ and_then (outcome w l) (λ v. got (unary_result op ty v))
unary_outcome hold w op ty l = ap (checked w l.checks) (hold w op ty l.term) ∙ checked_map w (unary_result op ty) l.checks (value_of w l.term)

-- the same operators have a divisor
same_divides : (op : BinaryOp) → divides op ≡ terms.divides op
same_divides two.Mul = refl
same_divides two.Div = refl
same_divides two.Mod = refl
same_divides two.Add = refl
same_divides two.Sub = refl
same_divides two.Less = refl
same_divides two.Greater = refl
same_divides two.LessEqual = refl
same_divides two.GreaterEqual = refl
same_divides two.Equal = refl
same_divides two.NotEqual = refl
same_divides two.And = refl
same_divides two.Xor = refl
same_divides two.Or = refl

divisor_outcome : terms.BinariesHold → (w : Valuation) (op : BinaryOp) (place : Place) (ty : Ty) (s t : Term)
    → checked w (divisor_checks op place ty t) (value_of w (binary_term op ty s t)) ≡ binary_result op ty place (value_of w s) (value_of w t)
divisor_outcome hold w op place ty s t =
    lead (divides op)
    ∙ ap (λ (d : Truth). if d && zero then trap DivideByZero place else got v) (same_divides op)
    ∙ sym (hold w op ty place s t)
  where
    v : ℤ
    v = value_of w (binary_term op ty s t)

    zero : Truth
    zero = holds_in w (equal_term t (constant ty (pos 0)))

    lead : (d : Truth)
        → checked w (if d then record { term = equal_term t (constant ty (pos 0)); kind = DivideByZero; place = place } ∷ [] else []) v
        ≡ (if d && zero then trap DivideByZero place else got v)
    lead true = refl
    lead false = refl

pub binary_outcome : terms.BinariesHold → (w : Valuation) (op : BinaryOp) (place : Place) (ty : Ty) (xs ys : List Check) (s t : Term)
    → outcome w (joined op place ty (xs ++ ys) s t)
    ≡ and_then (checked w xs (value_of w s)) (λ a. and_then (checked w ys (value_of w t)) (λ b. binary_result op ty place a b))
binary_outcome hold w op place ty xs ys s t =
    ap (λ (cs : List Check). checked w cs v) (append_assoc xs ys ds)
    ∙ then_checked w xs (ys ++ ds) (value_of w s) v
    ∙ same_then w xs (value_of w s) (λ a. checked w (ys ++ ds) v)
    (λ a. and_then (checked w ys (value_of w t)) (λ b. binary_result op ty place a b))
    (then_checked w ys ds (value_of w t) v
    ∙ same_then w ys (value_of w t) (λ b. checked w ds v) (λ b. binary_result op ty place (value_of w s) b)
    (divisor_outcome hold w op place ty s t))
  where
    v : ℤ
    v = value_of w (binary_term op ty s t)

    ds : List Check
    ds = divisor_checks op place ty t
