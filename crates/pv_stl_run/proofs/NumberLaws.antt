-- Numbers of accumulators: what they keep within.
use Rattle.std.proofs.Common.{◌≡◌, ℕ, ◌<◌, Bool, true, to_z, of_z, arith, ap, sym, subst, ◌∙◌}
use Rattle.std.specs.Prelude.{ℤ, pos, neg_ℤ, ◌*ℤ◌, ◌<ℤ◌, ◌≤ℤ◌}
use Rattle.std.specs.Int.{w64}
use Rattle.std.proofs.lemmas.Int.{ints, to_z-of_z, fits_signed_mul}
use Rattle.pv_word.specs.declared.types.Ty.TheVariants.{Word, Int, Dint}
use Rattle.pv_word.specs.Types.{InRange, wrap_of, pattern_of}
use Rattle.pv_word.proofs.ForCallers.{wide, wrap-in_range, pattern-lt}
use Rattle.pv_mean.specs.Registers.{Codes}
use Rattle.pv_mean.specs.Accumulators.{Part, low, whole, number, codes_by}

pub record IsShort (v : ℤ) : Type 0 where
  pub from : neg_ℤ (pos 2147483648) ≤ℤ v
  pub to : v <ℤ pos 2147483648

pub short_number : (part : Part) (v : ℤ) → IsShort (number part v)
short_number low v =
    let h : InRange Int (wrap_of Int v) = wrap-in_range 16 true v (wide Int) in
    record { from = omega (arith, ints, h.from, h.to); to = omega (arith, ints, h.from, h.to) }
short_number whole v =
    let h : InRange Dint (wrap_of Dint v) = wrap-in_range 32 true v (wide Dint) in
    record { from = omega (arith, ints, h.from, h.to); to = omega (arith, ints, h.from, h.to) }

pub short_is : (n : ℤ) (part : Part) (v : ℤ) → n ≡ number part v → IsShort n
short_is n part v e = subst IsShort (sym e) (short_number part v)

pub short_word : (n : ℕ) (v : ℤ) → n ≡ pattern_of Word v → n < 65536
short_word n v e = omega (arith, e, pattern-lt 16 v)

pub codes_by_is : (ov : Bool) (c : Codes) (x y : ℤ) → c ≡ codes_by ov x → x ≡ y → c ≡ codes_by ov y
codes_by_is ov c x y e h = e ∙ ap (codes_by ov) h

-- a product of two parts fits
pub times_is : (x y p q : ℤ) → p ≡ x → q ≡ y → IsShort x → IsShort y → to_z w64 (of_z w64 (p *ℤ q)) ≡ x *ℤ y
times_is x y p q e f s t =
    ap (λ z. to_z w64 (of_z w64 (z *ℤ q))) e ∙ ap (λ z. to_z w64 (of_z w64 (x *ℤ z))) f
    ∙ to_z-of_z w64 (x *ℤ y) (fits_signed_mul w64 x y 2147483648 2147483648
    (let a : neg_ℤ (pos 2147483648) ≤ℤ x = s.from in let b : x <ℤ pos 2147483648 = s.to in omega (arith, ints))
    (let a : neg_ℤ (pos 2147483648) ≤ℤ y = t.from in let b : y <ℤ pos 2147483648 = t.to in omega (arith, ints)) (omega arith))
