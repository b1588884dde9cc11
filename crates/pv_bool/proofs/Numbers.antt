-- Bits as the numbers 0 and 1, and the machine of a program over them.
use Rattle.std.proofs.Common.{◌≡◌, ℕ, zero, suc, ℤ, pos, negsuc, Bool, true, false, List, [], ◌∷◌, length, replicate, refl, ◌∙◌, ap, subst}
use Rattle.std.proofs.Common.{arith}
use Rattle.std.proofs.lemmas.Int.{ints}
use Rattle.pv_place.specs.Ranges.{IsWithin, AreWithin}
use Rattle.pv_machine.specs.Machines.{Values, done, IsLawful}
use Rattle.pv_bool.specs.Tree.{ProgramTree}
use Rattle.pv_bool.specs.Scans.{Bits, state_len, start, next_state}
use Rattle.pv_bool.specs.Machine.{bit_range, number_of, bit_of, numbers_of, bits_of, machine_of}
use Rattle.pv_bool.proofs.Lengths.{length-start, length-next_state}

pub length-within : (n : ℕ) (values : List ℤ) → AreWithin (replicate n bit_range) values → length values ≡ n
length-within zero [] h = refl
length-within zero (v ∷ vs) h = absurd h
length-within (suc n) [] h = absurd h
length-within (suc n) (v ∷ vs) h = ap suc (length-within n vs h.1)

number_within : (b : Bool) → IsWithin bit_range (number_of b)
number_within true = record { from = omega (arith, ints); to = omega (arith, ints) }
number_within false = record { from = omega (arith, ints); to = omega (arith, ints) }

pub numbers_within : (n : ℕ) (bits : Bits) → length bits ≡ n → AreWithin (replicate n bit_range) (numbers_of bits)
numbers_within zero [] len = tt
numbers_within zero (b ∷ bs) len = absurd (omega arith)
numbers_within (suc n) [] len = absurd (omega arith)
numbers_within (suc n) (b ∷ bs) len = (number_within b, numbers_within n bs (omega (arith, len)))

bit_back : (b : Bool) → bit_of (number_of b) ≡ b
bit_back true = refl
bit_back false = refl

pub bits_of-numbers_of : (bits : Bits) → bits_of (numbers_of bits) ≡ bits
bits_of-numbers_of [] = refl
bits_of-numbers_of (b ∷ bs) = ap (λ c. c ∷ bits_of (numbers_of bs)) (bit_back b) ∙ ap (λ cs. b ∷ cs) (bits_of-numbers_of bs)

number_back : (v : ℤ) → IsWithin bit_range v → number_of (bit_of v) ≡ v
number_back (pos zero) h = refl
number_back (pos (suc zero)) h = refl
number_back (pos (suc (suc n))) h = absurd (omega (arith, ints, h.to))
number_back (negsuc n) h = absurd (omega (arith, ints, h.from))

pub numbers_of-bits_of : (n : ℕ) (values : List ℤ) → AreWithin (replicate n bit_range) values → numbers_of (bits_of values) ≡ values
numbers_of-bits_of zero [] h = refl
numbers_of-bits_of zero (v ∷ vs) h = absurd h
numbers_of-bits_of (suc n) [] h = absurd h
numbers_of-bits_of (suc n) (v ∷ vs) h = ap (λ w. w ∷ numbers_of (bits_of vs)) (number_back v h.0)
    ∙ ap (λ ws. v ∷ ws) (numbers_of-bits_of n vs h.1)

pub lawful : (program : ProgramTree) → IsLawful (machine_of program)
lawful program = record {
  starts = λ p are. numbers_within (state_len program.bits) (start program.bits) (length-start program.bits);
  steps = λ s i t is input e. subst (λ (v : Values). AreWithin (replicate (state_len program.bits) bit_range) v)
      (left (numbers_of (next_state program (bits_of s) (bits_of i))) t e)
      (numbers_within (state_len program.bits) (next_state program (bits_of s) (bits_of i))
      (length-next_state program (bits_of s) (bits_of i)));
}
  where
    left : (x y : Values) → done x ≡ done y → x ≡ y
    left x y e = cc
