-- Bits as numbers: numbers within the range from 0 to 1 are those of bits.
use Rattle.std.proofs.Common.{◌≡◌, ℕ, zero, suc, List, [], ◌∷◌, length, replicate, ℤ, pos, negsuc, Bool, true, false, refl, ap, ◌∙◌, arith}
use Rattle.std.proofs.lemmas.Int.{ints}
use Rattle.pv_place.specs.Ranges.{IsWithin, AreWithin}
use Rattle.pv_bool.specs.Scans.{Bits, first as first_bit, others as other_bits}
use Rattle.pv_bool.specs.Machine.{bit_range, bit_of, number_of, bits_of, numbers_of}
use Rattle.pv_mean.specs.Frames.{first, others}

pub first-numbers_of : (bs : Bits) → first (numbers_of bs) ≡ number_of (first_bit bs)
first-numbers_of [] = refl
first-numbers_of (b ∷ bs) = refl

pub others-numbers_of : (bs : Bits) → others (numbers_of bs) ≡ numbers_of (other_bits bs)
others-numbers_of [] = refl
others-numbers_of (b ∷ bs) = refl

pub bit_of-number_of : (b : Bool) → bit_of (number_of b) ≡ b
bit_of-number_of true = refl
bit_of-number_of false = refl

pub bits_of-numbers_of : (bs : Bits) → bits_of (numbers_of bs) ≡ bs
bits_of-numbers_of [] = refl
bits_of-numbers_of (b ∷ bs) = ap2 (bit_of-number_of b) (bits_of-numbers_of bs)
  where
    ap2 : {x y : Bool} {xs ys : Bits} → x ≡ y → xs ≡ ys → x ∷ xs ≡ y ∷ ys
    ap2 {x} {y} {xs} {ys} e f = ap (λ z. z ∷ xs) e ∙ ap (λ zs. y ∷ zs) f

-- a number from 0 to 1 is a bit's
pub number_of-within : (v : ℤ) → IsWithin bit_range v → v ≡ number_of (bit_of v)
number_of-within (pos zero) is = refl
number_of-within (pos (suc zero)) is = refl
number_of-within (pos (suc (suc n))) is = let h = is.to in absurd (omega (arith, ints))
number_of-within (negsuc n) is = let h = is.from in absurd (omega (arith, ints))

within-number_of : (b : Bool) → IsWithin bit_range (number_of b)
within-number_of true = record { from = omega (arith, ints); to = omega (arith, ints) }
within-number_of false = record { from = omega (arith, ints); to = omega (arith, ints) }

pub numbers_of-within : (n : ℕ) (vs : List ℤ) → AreWithin (replicate n bit_range) vs → vs ≡ numbers_of (bits_of vs)
numbers_of-within zero [] are = refl
numbers_of-within zero (v ∷ vs) are = absurd are
numbers_of-within (suc n) [] are = absurd are
numbers_of-within (suc n) (v ∷ vs) are =
    ap (λ w. w ∷ vs) (number_of-within v are.0) ∙ ap (λ ws. number_of (bit_of v) ∷ ws) (numbers_of-within n vs are.1)

pub within-numbers_of : (n : ℕ) (bs : Bits) → length bs ≡ n → AreWithin (replicate n bit_range) (numbers_of bs)
within-numbers_of zero [] len = tt
within-numbers_of zero (b ∷ bs) len = absurd (omega arith)
within-numbers_of (suc n) [] len = absurd (omega arith)
within-numbers_of (suc n) (b ∷ bs) len = (within-number_of b, within-numbers_of n bs (omega arith))
