-- Results within 64 bits, and operators on values that were wrapped first.
use Rattle.std.proofs.Common.{◌≡◌, ℕ, zero, suc, ◌+◌, ◌*◌, ◌-◌, ◌/◌, ◌%◌, ◌<◌, ◌≤◌, ◌^◌, arith, ap, sym, refl, ◌∙◌, inl, inr}
use Rattle.std.specs.Prelude.{ℤ, pos, negsuc, neg_ℤ, ◌+ℤ◌, ◌<ℤ◌, ◌≤ℤ◌, unsigned_abs, FitsSigned}
use Rattle.std.specs.Int.{w128}
use Rattle.std.specs.Ordering.{int_eq}
use Rattle.std.proofs.lemmas.Int.{ints, fits_signed_from_abs}
use Rattle.std.proofs.lemmas.Bool.Decides.{Decides-int_eq}
use Rattle.std.proofs.lemmas.Nat.{pow-add, shl_whole, shl_below}
use Rattle.std.proofs.Math.Nat.{pow-le-pow_right, div-eq_of_lt, div-le_self}
use Rattle.std.proofs.lemmas.Bool.{cases_Bool, cond-false}
use Rattle.pv_word.specs.Division.{quotient}
use Rattle.pv_word.specs.declared.types.Ty.{Ty}
use Rattle.pv_word.specs.declared.types.Ty.TheVariants.{Bool, Byte, Word, Dword, Int, Dint, Time}
use Rattle.pv_word.specs.Types.{width_of, is_signed_of, InRange, wrap_of, pattern_of, shl_of, shr_of}
use Rattle.pv_word.proofs.ForCallers.{wide, zero-in_range, wrap-own, wrap-in_range, wrap-congruent_same, congruent-from_parts, pattern-lt, pattern-wrap, pattern-not_negative, pattern-negative}
use Rattle.pv_place.specs.declared.place.Place.{Place}
use Rattle.pv_mean.specs.Endings.{got}
use Rattle.pv_mean.specs.Values.{divided}

-- a value of a type is small
pub record IsSmall (v : ℤ) : Type 0 where
  pub low : neg_ℤ (pos (2 ^ 32)) ≤ℤ v
  pub high : v <ℤ pos (2 ^ 32)

pub small : (ty : Ty) (v : ℤ) → InRange ty v → IsSmall v
small Bool v h = record { low = omega (arith, ints, h.from); high = omega (arith, ints, h.to) }
small Byte v h = record { low = omega (arith, ints, h.from); high = omega (arith, ints, h.to) }
small Word v h = record { low = omega (arith, ints, h.from); high = omega (arith, ints, h.to) }
small Dword v h = record { low = omega (arith, ints, h.from); high = omega (arith, ints, h.to) }
small Int v h = record { low = omega (arith, ints, h.from, h.to); high = omega (arith, ints, h.from, h.to) }
small Dint v h = record { low = omega (arith, ints, h.from, h.to); high = omega (arith, ints, h.from, h.to) }
small Time v h = record { low = omega (arith, ints, h.from, h.to); high = omega (arith, ints, h.from, h.to) }

pub small_wrap : (ty : Ty) (n : ℤ) → IsSmall (wrap_of ty n)
small_wrap ty n = small ty (wrap_of ty n) (wrap-in_range (width_of ty) (is_signed_of ty) n (wide ty))

pub own : (ty : Ty) (n : ℤ) → InRange ty n → n ≡ wrap_of ty n
own ty n h = sym (wrap-own (wide ty) h)

pub wrap_in : (ty : Ty) (n : ℤ) → InRange ty (wrap_of ty n)
wrap_in ty n = wrap-in_range (width_of ty) (is_signed_of ty) n (wide ty)

-- ---- patterns

pub cut : (ty : Ty) (a : ℤ) → pattern_of ty (wrap_of ty a) ≡ pattern_of ty a
cut ty a = pattern-wrap (width_of ty) (is_signed_of ty) a (wide ty)

-- a number of the type that isn't negative is its own pattern
pub own_pattern : (ty : Ty) (a : ℤ) → pos 0 ≤ℤ a → InRange ty a → pattern_of ty a ≡ unsigned_abs a
own_pattern ty a low h =
    let e = pattern-not_negative (width_of ty) (is_signed_of ty) a (wide ty) h low in
    omega (arith, ints, e)

-- a negative one lies so many below its pattern
pub negative_pattern : (ty : Ty) (a : ℤ) → InRange ty a → a <ℤ pos 0 → pos (pattern_of ty a) ≡ a +ℤ pos (2 ^ width_of ty)
negative_pattern ty a h low = pattern-negative (width_of ty) (is_signed_of ty) a (wide ty) h low

pub pattern_short : (ty : Ty) (a : ℤ) → pattern_of ty a < 2 ^ 32
pattern_short Bool a = omega (arith, pattern-lt 1 a)
pattern_short Byte a = omega (arith, pattern-lt 8 a)
pattern_short Word a = omega (arith, pattern-lt 16 a)
pattern_short Dword a = pattern-lt 32 a
pattern_short Int a = omega (arith, pattern-lt 16 a)
pattern_short Dint a = pattern-lt 32 a
pattern_short Time a = pattern-lt 32 a

-- ---- shifts by the width or more

pub narrow : (ty : Ty) → width_of ty ≤ 32
narrow Bool = omega arith
narrow Byte = omega arith
narrow Word = omega arith
narrow Dword = omega arith
narrow Int = omega arith
narrow Dint = omega arith
narrow Time = omega arith

zero_kept : (ty : Ty) → wrap_of ty (pos 0) ≡ pos 0
zero_kept ty = wrap-own (wide ty) (zero-in_range (width_of ty) (is_signed_of ty) (wide ty))

pub shl_far : (ty : Ty) (a : ℤ) (n : ℕ) → 32 ≤ n → pos 0 ≡ shl_of ty a n
shl_far ty a n h =
    let w = width_of ty in
    let split : w + (n - w) ≡ n = omega (arith, narrow ty) in
    let power : 2 ^ n ≡ 2 ^ w * 2 ^ (n - w) = ap (λ m. 2 ^ m) (sym split) ∙ pow-add 2 w (n - w) in
    let p = pattern_of ty a in
    let times : p * 2 ^ n ≡ p * 2 ^ (n - w) * 2 ^ w = ap (λ m. p * m) power ∙ omega arith in
    sym (wrap-congruent_same (is_signed_of ty) (wide ty) (congruent-from_parts (2 ^ w) 0 (p * 2 ^ (n - w)) (pos (p * 2 ^ n)) (pos 0) (omega arith))
    ∙ zero_kept ty)

pub shr_far : (ty : Ty) (a : ℤ) (n : ℕ) → 32 ≤ n → pos 0 ≡ shr_of ty a n
shr_far ty a n h =
    let w = width_of ty in
    let p = pattern_of ty a in
    let more : 2 ^ w ≤ 2 ^ n = pow-le-pow_right (omega arith) (omega (arith, narrow ty)) in
    let none : p / 2 ^ n ≡ 0 = div-eq_of_lt (omega (arith, pattern-lt w a)) in
    sym (ap (λ m. wrap_of ty (pos m)) none ∙ zero_kept ty)

pub shl_small : (p n : ℕ) → p < 2 ^ 32 → n < 32 → p * 2 ^ n < 2 ^ 63
shl_small p n h few =
    let most : 2 ^ (32 + n) ≤ 2 ^ 63 = pow-le-pow_right (omega arith) {i = 32 + n} {j = 63} (omega arith) in
    omega (arith, shl_below p 32 n h)

pub shl_kept : (p n : ℕ) → p < 2 ^ 32 → n < 32 → (p * 2 ^ n) % 18446744073709551616 ≡ p * 2 ^ n
shl_kept p n h few = shl_whole p 32 n 64 h (omega arith)

-- ---- how many values a type has

pub weight : (ty : Ty) → 1 * 2 ^ width_of ty % 18446744073709551616 ≡ 2 ^ width_of ty
weight Bool = refl
weight Byte = refl
weight Word = refl
weight Dword = refl
weight Int = refl
weight Dint = refl
weight Time = refl

pub weight_most : (ty : Ty) → 2 ^ width_of ty ≤ 2 ^ 32
weight_most ty = pow-le-pow_right (omega arith) (narrow ty)

-- ---- division

pub divided_by : (place : Place) (b v : ℤ) → (b ≡ pos 0 → ⊥) → divided place b v ≡ got v
divided_by place b v h = elim (cases_Bool (int_eq b (pos 0))) [
  | inl e ↦ absurd (h ((Decides-int_eq b (pos 0)).0 e))
  | inr e ↦ cond-false _ _ _ e
]

negation_abs : (n : ℕ) → unsigned_abs (neg_ℤ (pos n)) ≡ n
negation_abs zero = refl
negation_abs (suc n) = refl

-- a quotient is no further from 0 than the dividend
quotient_within : (a b : ℤ) → unsigned_abs (quotient a b) ≤ unsigned_abs a
quotient_within (pos a) (pos b) = div-le_self a b
quotient_within (pos a) (negsuc b) = omega (arith, negation_abs (a / suc b), div-le_self a (suc b))
quotient_within (negsuc a) (pos b) = omega (arith, negation_abs (suc a / b), div-le_self (suc a) b)
quotient_within (negsuc a) (negsuc b) = div-le_self (suc a) (suc b)

pub quotient_fits : (a b : ℤ) → unsigned_abs a ≤ 2 ^ 63 → FitsSigned w128 (quotient a b)
quotient_fits a b h = fits_signed_from_abs w128 (quotient a b) (omega (arith, quotient_within a b))
