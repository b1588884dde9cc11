-- Values of BOOL and their bits.
use Rattle.std.proofs.Common.{◌≡◌, ℕ, zero, suc, Bool, true, false, ℤ, [], ◌∷◌, length, replicate, refl, sym, ◌∙◌, ap, arith, lit<}
use Rattle.std.proofs.lemmas.Int.{ints}
use Rattle.pv_word.specs.declared.types.Ty.TheVariants as types
use Rattle.pv_word.specs.Types.{InRange, pattern_of}
use Rattle.pv_word.proofs.ForCallers.{pattern-pos, in_range-pattern_same}
use Rattle.pv_bits.specs.Words as words
use Rattle.pv_machine.specs.Machines.{Values}
use Rattle.pv_circuit.specs.Steps.{widths, AreBitsOf, Denote}
use Rattle.pv_bool.specs.Scans.{Bits}
use Rattle.pv_bool.specs.Machine.{number_of, numbers_of}

pub widths-bools : (n : ℕ) → widths (replicate n types.Bool) ≡ n
widths-bools zero = refl
widths-bools (suc n) = let rest = widths-bools n in omega (arith, rest)

bool_in_range : (b : Bool) → InRange types.Bool (number_of b)
bool_in_range true = record { from = omega (arith, ints); to = omega (arith, ints) }
bool_in_range false = record { from = omega (arith, ints); to = omega (arith, ints) }

bool_pattern : (b : Bool) → words.number_of (b ∷ []) ≡ pattern_of types.Bool (number_of b)
bool_pattern true = sym (pattern-pos 1 1)
bool_pattern false = sym (pattern-pos 1 0)

bool_bits : (b : Bool) → AreBitsOf types.Bool (b ∷ []) (number_of b)
bool_bits b = record { width = refl; in_range = bool_in_range b; pattern = bool_pattern b }

-- bits denote their numbers
pub denote-numbers : (n : ℕ) (bits : Bits) → length bits ≡ n → Denote (replicate n types.Bool) bits (numbers_of bits)
denote-numbers zero [] long = refl
denote-numbers zero (b ∷ bits) long = absurd (omega (arith, long))
denote-numbers (suc n) [] long = absurd (omega (arith, long))
denote-numbers (suc n) (b ∷ bits) long = (bool_bits b, denote-numbers n bits (omega (arith, long)))

-- and nothing else
pub denote-back : (n : ℕ) (bits : Bits) (values : Values) → Denote (replicate n types.Bool) bits values → values ≡ numbers_of bits
denote-back zero bits [] den = sym (ap numbers_of den)
denote-back zero bits (v ∷ values) den = absurd den
denote-back (suc n) bits [] den = absurd den
denote-back (suc n) [] (v ∷ values) den = absurd (omega (arith, den.0.width))
denote-back (suc n) (b ∷ bits) (v ∷ values) den =
    let one : v ≡ number_of b = in_range-pattern_same false (lit< tt) den.0.in_range (bool_in_range b) (sym den.0.pattern ∙ bool_pattern b) in
    ap (λ (w : ℤ). w ∷ values) one ∙ ap (λ (ws : Values). number_of b ∷ ws) (denote-back n bits values den.1)

pub denote-count : (n : ℕ) (bits : Bits) (values : Values) → Denote (replicate n types.Bool) bits values → length bits ≡ n
denote-count zero bits [] den = ap (λ (bs : Bits). length bs) den
denote-count zero bits (v ∷ values) den = absurd den
denote-count (suc n) bits [] den = absurd den
denote-count (suc n) [] (v ∷ values) den = absurd (omega (arith, den.0.width))
denote-count (suc n) (b ∷ bits) (v ∷ values) den = let rest = denote-count n bits values den.1 in omega (arith, rest)
