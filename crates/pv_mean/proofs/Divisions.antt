-- Quotients and remainders of DIV and MOD.
use Rattle.std.proofs.Common.{◌≡◌, ◌≢◌, ◌%◌, ℕ, suc, ℤ, pos, negsuc, Bool, true, false, refl, ap, ◌∙◌, arith}
use Rattle.std.specs.Prelude.{◌≤ℤ◌, unsigned_abs, if◌then◌else◌}
use Rattle.std.proofs.lemmas.Int.{ints, quot-rem, rem_below}
use Rattle.std.proofs.Math.Nat.{zero-mod}
use borrow.Author.Differences.{neg_is}
use Rattle.pv_word.specs.Range.{IsInRange}
use Rattle.std.specs.Ordering.{int_eq}
use Rattle.std.proofs.lemmas.Bool.Decides.{Decides-int_eq}
use Rattle.pv_word.specs.declared.types.Ty.{Ty}
use Rattle.pv_word.specs.Types.{width_of, is_signed_of, InRange, wrap_of}
use Rattle.pv_word.specs.Division.{quotient, remainder, IsDivision}
use Rattle.pv_word.proofs.ForCallers.{wide, wrap-own}
use Rattle.pv_place.specs.declared.place.Place.{Place}
use Rattle.pv_tree.specs.declared.expr.BinaryOp.TheVariants.{Div, Mod}
use Rattle.pv_mean.specs.Endings.{Value, got}
use Rattle.pv_mean.specs.Values.{divided, binary_result}

-- the sign of a remainder
not_below : (a b : ℤ) → pos 0 ≤ℤ a → pos 0 ≤ℤ remainder a b
not_below (pos a) b h = omega (arith, ints)
not_below (negsuc a) b h = absurd (omega (arith, ints))

not_above : (a b : ℤ) → a ≤ℤ pos 0 → remainder a b ≤ℤ pos 0
not_above (pos a) b h =
    let none : a ≡ 0 = omega (arith, ints) in
    let left : a % unsigned_abs b ≡ 0 = ap (λ n. n % unsigned_abs b) none ∙ zero-mod (unsigned_abs b) in
    omega (arith, ints)
not_above (negsuc a) b h = omega (arith, ints, neg_is (pos (suc a % unsigned_abs b)))

pub is-division : (a b : ℤ) → b ≢ pos 0 → IsDivision a b (quotient a b) (remainder a b)
is-division a b n = record {
  equation = quot-rem a b;
  smaller = rem_below a b (omega (arith, ints));
  not_below = not_below a b;
  not_above = not_above a b;
}

-- the remainder by a number in range is in range
rest-in_range : (w : ℕ) (s : Bool) (a b : ℤ) → IsInRange w s a → IsInRange w s b → b ≢ pos 0 → IsInRange w s (remainder a b)
rest-in_range w s a b f g n = by_sign s f g (is-division a b n)
  where
    by_sign : (t : Bool) → IsInRange w t a → IsInRange w t b → IsDivision a b (quotient a b) (remainder a b) → IsInRange w t (remainder a b)
    by_sign false f' g' d =
        let low = d.not_below f'.from in
        record { from = low; to = omega (arith, ints, d.smaller, g'.from, g'.to) }
    by_sign true f' g' d =
        record { from = omega (arith, ints, d.smaller, g'.from, g'.to); to = omega (arith, ints, d.smaller, g'.from, g'.to) }

not-zero : (b : ℤ) → b ≢ pos 0 → int_eq b (pos 0) ≡ false
not-zero b h = lead (int_eq b (pos 0)) refl
  where
    lead : (t : Bool) → int_eq b (pos 0) ≡ t → t ≡ false
    lead true is = absurd (h ((Decides-int_eq b (pos 0)).0 is))
    lead false is = refl

divided-got : (place : Place) (b result : ℤ) → b ≢ pos 0 → divided place b result ≡ got result
divided-got place b result h = ap (λ t. if t then trap_at place else got result) (not-zero b h)
  where
    trap_at : Place → Value
    trap_at at = divided at (pos 0) (pos 0)

pub quotient-got : (ty : Ty) (place : Place) (a b : ℤ) → b ≢ pos 0 → binary_result Div ty place a b ≡ got (wrap_of ty (quotient a b))
quotient-got ty place a b h = divided-got place b (wrap_of ty (quotient a b)) h

pub remainder-got : (ty : Ty) (place : Place) (a b : ℤ) → b ≢ pos 0 → InRange ty a → InRange ty b
    → binary_result Mod ty place a b ≡ got (remainder a b)
remainder-got ty place a b h f g =
    divided-got place b (wrap_of ty (remainder a b)) h
    ∙ ap got (wrap-own (wide ty) (rest-in_range (width_of ty) (is_signed_of ty) a b f g h))
