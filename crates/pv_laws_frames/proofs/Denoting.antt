-- Bits and the values that they denote: each list of so many bits denotes values, and values have one list of bits.
use Rattle.std.proofs.Common.{◌≡◌, ℕ, ◌-◌, ◌*◌, ◌<◌, ◌≤◌, ◌^◌, zero, suc, Bool, true, false, ℤ, pos, List, [], ◌∷◌, ◌++◌, length, take, drop, refl, sym, ◌∙◌, ap, subst, arith, lit≤, take-append-drop, length-drop, length-take-le, mod-eq_of_lt}
use Rattle.pv_word.specs.declared.types.Ty.{Ty}
use Rattle.pv_word.specs.Types.{width_of, is_signed_of, wrap_of}
use Rattle.pv_word.proofs.ForCallers.{double, wide, wrap-in_range, pattern-pos, pattern-wrap}
use Rattle.pv_bits.specs.Words.{number_of_bit, number_of}
use Rattle.pv_machine.specs.Machines.{Values}
use Rattle.pv_circuit.specs.Steps.{widths, AreBitsOf, Denote}

-- ---- numbers of bits

bit-one : (b : Bool) → number_of_bit b ≤ 1
bit-one true = lit≤ tt
bit-one false = lit≤ tt

bit-same : (a b : Bool) → number_of_bit a ≡ number_of_bit b → a ≡ b
bit-same true true e = refl
bit-same true false e = absurd (omega (arith, e))
bit-same false true e = absurd (omega (arith, e))
bit-same false false e = refl

pub number-few : (bits : List Bool) → number_of bits < 2 ^ length bits
number-few [] = omega arith
number-few (b ∷ bits) =
    let rest = number-few bits in
    let one = bit-one b in
    let e : suc (length bits) - 1 ≡ length bits = omega arith in
    let twice : 2 ^ suc (length bits) ≡ 2 * 2 ^ length bits =
    subst (λ (n : ℕ). 2 ^ suc (length bits) ≡ 2 * 2 ^ n) e (double (suc (length bits)) (omega arith)) in
    omega (arith, rest, one, twice)

number-same : (xs ys : List Bool) → length xs ≡ length ys → number_of xs ≡ number_of ys → xs ≡ ys
number-same [] [] long e = refl
number-same [] (y ∷ ys) long e = absurd (omega (arith, long))
number-same (x ∷ xs) [] long e = absurd (omega (arith, long))
number-same (x ∷ xs) (y ∷ ys) long e =
    let one_x = bit-one x in
    let one_y = bit-one y in
    let first : number_of_bit x ≡ number_of_bit y = omega (arith, e, one_x, one_y) in
    let rest : number_of xs ≡ number_of ys = omega (arith, e, one_x, one_y) in
    ap (λ (b : Bool). b ∷ xs) (bit-same x y first) ∙ ap (λ (bs : List Bool). y ∷ bs) (number-same xs ys (omega (arith, long)) rest)

-- ---- one value

-- so many bits are those of a value
abbrev pub value_of_bits : Ty → List Bool → ℤ
value_of_bits ty bits = wrap_of ty (pos (number_of bits))

pub bits-denote : (ty : Ty) (bits : List Bool) → length bits ≡ width_of ty → AreBitsOf ty bits (value_of_bits ty bits)
bits-denote ty bits long = record {
  width = long;
  in_range = wrap-in_range (width_of ty) (is_signed_of ty) (pos (number_of bits)) (wide ty);
  pattern = sym (pattern-wrap (width_of ty) (is_signed_of ty) (pos (number_of bits)) (wide ty)
      ∙ (pattern-pos (width_of ty) (number_of bits) ∙ mod-eq_of_lt few));
}
  where
    few : number_of bits < 2 ^ width_of ty
    few = subst (λ (n : ℕ). number_of bits < 2 ^ n) long (number-few bits)

-- ---- values of some types

pub denoted : (tys : List Ty) (bits : List Bool) → length bits ≡ widths tys → (vs : Values) × Denote tys bits vs
denoted [] [] long = ([], refl)
denoted [] (b ∷ bits) long = absurd (omega (arith, long))
denoted (ty ∷ tys) bits long =
    let front : length (take (width_of ty) bits) ≡ width_of ty = length-take-le (width_of ty) bits (omega (arith, long)) in
    let behind : length (drop (width_of ty) bits) ≡ widths tys = omega (arith, long, length-drop (width_of ty) bits) in
    let rest = denoted tys (drop (width_of ty) bits) behind in
    (value_of_bits ty (take (width_of ty) bits) ∷ rest.0, (bits-denote ty (take (width_of ty) bits) front, rest.1))

pub denote-long : (tys : List Ty) (bits : List Bool) (vs : Values) → Denote tys bits vs → length bits ≡ widths tys
denote-long [] bits [] den = ap (λ (bs : List Bool). length bs) den
denote-long [] bits (v ∷ vs) den = absurd den
denote-long (ty ∷ tys) bits [] den = absurd den
denote-long (ty ∷ tys) bits (v ∷ vs) den =
    let front = den.0.width in
    let rest = denote-long tys (drop (width_of ty) bits) vs den.1 in
    omega (arith, rest, length-drop (width_of ty) bits, front, taken (width_of ty) bits)
  where
    taken : (n : ℕ) (bs : List Bool) → length (take n bs) ≤ length bs
    taken zero bs = omega arith
    taken (suc n) [] = lit≤ tt
    taken (suc n) (b ∷ bs) = let rest = taken n bs in omega (arith, rest)

-- values have one list of bits
pub denote-same : (tys : List Ty) (xs ys : List Bool) (vs : Values) → Denote tys xs vs → Denote tys ys vs → xs ≡ ys
denote-same [] xs ys [] p q = p ∙ sym q
denote-same [] xs ys (v ∷ vs) p q = absurd p
denote-same (ty ∷ tys) xs ys [] p q = absurd p
denote-same (ty ∷ tys) xs ys (v ∷ vs) p q =
    let first : take (width_of ty) xs ≡ take (width_of ty) ys =
    number-same (take (width_of ty) xs) (take (width_of ty) ys) (p.0.width ∙ sym q.0.width) (p.0.pattern ∙ sym q.0.pattern) in
    let rest = denote-same tys (drop (width_of ty) xs) (drop (width_of ty) ys) vs p.1 q.1 in
    sym (take-append-drop (width_of ty) xs)
    ∙ (ap (λ (zs : List Bool). zs ++ drop (width_of ty) xs) first
    ∙ (ap (λ (zs : List Bool). take (width_of ty) ys ++ zs) rest ∙ take-append-drop (width_of ty) ys))
