-- The laws of patterns and their bits.
-- A mask `n & (2 ^ w - 1)` on `cast_unsigned` is a pattern in one step (`pattern-lowest`, by `and_mask`), with no division in the
-- code.
use Rattle.std.proofs.Common.{◌≡◌, ℕ, zero, suc, ◌+◌, ◌-◌, ◌*◌, ◌/◌, ◌%◌, ◌^◌, ◌<◌, ◌≤◌, arith, refl, ap, sym, subst, ◌∙◌, Bool, nat_lt, ⊎_elim}
use Rattle.std.specs.Prelude.{ℤ, pos, negsuc, ◌≤ℤ◌, ◌<ℤ◌, FitsSigned, ◌+ℤ◌, ◌-ℤ◌, min, max, bit_and, if◌then◌else◌}
use Rattle.std.specs.Int.{bit_at, w128, cast_unsigned}
use Rattle.std.proofs.lemmas.Int.{ints}
use Rattle.std.proofs.lemmas.Nat.{and_mask, pow_pos, pow-add, shr_split, shr-shr, and-not, pow_below}
use Rattle.std.proofs.lemmas.Nat.Bits.{bit_at_and, bit_at_or, bit_at_xor, bit_at_cat_low, bit_at_cat_high, bit_at-zero, bit_at_above, and_pow, bit_at-lt, same_from_bits_below}
use Rattle.std.proofs.Math.Nat.{pow-le-pow_right, div-eq_of_lt, add_comm}
use Rattle.std.proofs.lemmas.Bool.{cases_lt, cond_below, cond_above}
use Rattle.pv_word.specs.declared.types.Ty.{Ty}
use Rattle.pv_word.specs.Range.{greatest_at, IsInRange}
use Rattle.pv_word.specs.Wrap.{IsCongruent, IsWrap, wrap_at}
use Rattle.pv_word.specs.Bits.{pattern_at, pattern_bit_at}
use Rattle.pv_word.specs.Types.{width_of, is_signed_of, wrap_of, pattern_of, bit_of, HasBits, and_of, or_of, xor_of, not_of, shl_of, shr_of}
use Rattle.pv_word.proofs.Congruence.{congruent-refl, congruent-trans, congruent-sum, congruent-difference, congruent-from_parts, residue-lt, residue-congruent, residue-congruent_same}
use Rattle.pv_word.proofs.TypeLaws.{wide}
use Rattle.pv_word.proofs.WrapLaws.{wrap-in_range, wrap-congruent, wrap-congruent_same, wrap-own, zero-in_range, span}

-- ---- the pattern

pub pattern-lt : (w : ℕ) (z : ℤ) → pattern_at w z < 2 ^ w
unfolding pattern_at
pattern-lt w z = residue-lt (2 ^ w) z (pow_pos w)

pub pattern-congruent : (w : ℕ) (z : ℤ) → IsCongruent (2 ^ w) (pos (pattern_at w z)) z
unfolding pattern_at
pattern-congruent w z = residue-congruent (2 ^ w) z (pow_pos w)

-- congruent numbers have one pattern
pub pattern-congruent_same : (w : ℕ) {a b : ℤ} → IsCongruent (2 ^ w) a b → pattern_at w a ≡ pattern_at w b
unfolding pattern_at
pattern-congruent_same w c = residue-congruent_same (pow_pos w) c

pub pattern-pos : (w n : ℕ) → pattern_at w (pos n) ≡ n % 2 ^ w
unfolding pattern_at
pattern-pos w n = refl

pub pattern-wrap : (w : ℕ) (s : Bool) (z : ℤ) → 0 < w → pattern_at w (wrap_at w s z) ≡ pattern_at w z
pattern-wrap w s z p = pattern-congruent_same w (wrap-congruent w s z p)

pub wrap-pattern : (w : ℕ) (s : Bool) (z : ℤ) → 0 < w → wrap_at w s (pos (pattern_at w z)) ≡ wrap_at w s z
wrap-pattern w s z p = wrap-congruent_same s p (pattern-congruent w z)

-- two numbers in range with one pattern are one
pub in_range-pattern_same : {w : ℕ} (s : Bool) {a b : ℤ} → 0 < w → IsInRange w s a → IsInRange w s b → pattern_at w a ≡ pattern_at w b → a ≡ b
in_range-pattern_same {w} s {a} {b} p f g e =
    sym (wrap-own p f) ∙ sym (wrap-pattern w s a p) ∙ ap (λ n. wrap_at w s (pos n)) e ∙ wrap-pattern w s b p ∙ wrap-own p g

-- ---- its bits

bit_at-mod : (w n i : ℕ) → i < w → bit_at (n % 2 ^ w) i ≡ bit_at n i
bit_at-mod w n i h = sym (bit_at_cat_low (n / 2 ^ w) w (n % 2 ^ w) i h) ∙ ap (λ m. bit_at m i) (shr_split n w)

pub bit-wrap_pos : (w : ℕ) (s : Bool) (n i : ℕ) → 0 < w → i < w → pattern_bit_at w (wrap_at w s (pos n)) i ≡ bit_at n i
bit-wrap_pos w s n i p h = ap (λ m. bit_at m i) (pattern-wrap w s (pos n) p ∙ pattern-pos w n) ∙ bit_at-mod w n i h

pub has_bits-wrap_pos : (ty : Ty) (n : ℕ) (f : ℕ → ℕ) → ((i : ℕ) → i < width_of ty → bit_at n i ≡ f i) → HasBits ty (wrap_of ty (pos n)) f
has_bits-wrap_pos ty n f h = record {
  in_range = wrap-in_range (width_of ty) (is_signed_of ty) (pos n) (wide ty);
  bits = λ i k. bit-wrap_pos (width_of ty) (is_signed_of ty) n i (wide ty) k ∙ h i k;
}

-- two values with the same bits are one
pub has_bits-unique : (ty : Ty) (f : ℕ → ℕ) (r s : ℤ) → HasBits ty r f → HasBits ty s f → r ≡ s
has_bits-unique ty f r s a b =
    in_range-pattern_same (is_signed_of ty) (wide ty) a.in_range b.in_range
    (same_from_bits_below (width_of ty) _ _ (pattern-lt (width_of ty) r) (pattern-lt (width_of ty) s) (λ i k. a.bits i k ∙ sym (b.bits i k)))

-- ---- the operations

pub has_bits-and_of : (ty : Ty) (a b : ℤ) → HasBits ty (and_of ty a b) (λ i. min (bit_of ty a i) (bit_of ty b i))
has_bits-and_of ty a b = has_bits-wrap_pos ty _ _ (λ i _. bit_at_and (pattern_of ty a) (pattern_of ty b) i)

pub has_bits-or_of : (ty : Ty) (a b : ℤ) → HasBits ty (or_of ty a b) (λ i. max (bit_of ty a i) (bit_of ty b i))
has_bits-or_of ty a b = has_bits-wrap_pos ty _ _ (λ i _. bit_at_or (pattern_of ty a) (pattern_of ty b) i)

pub has_bits-xor_of : (ty : Ty) (a b : ℤ) → HasBits ty (xor_of ty a b) (λ i. (bit_of ty a i + bit_of ty b i) % 2)
has_bits-xor_of ty a b = has_bits-wrap_pos ty _ _ (λ i _. bit_at_xor (pattern_of ty a) (pattern_of ty b) i)

-- two bits that make up a power of 2
complement-sum : (x y m : ℕ) → 0 < m → x < 2 → y < 2 → x * m + y * m ≡ m → x ≡ 1 - y
complement-sum zero zero m p h k e = absurd (omega arith)
complement-sum zero (suc y) m p h k e = omega arith
complement-sum (suc x) zero m p h k e = omega arith
complement-sum (suc x) (suc y) m p h k e =
    let first : x ≡ 0 = omega arith in
    let second : y ≡ 0 = omega arith in
    absurd (omega (arith, ap (λ n. n * m) first, ap (λ n. n * m) second))

bit_at-complement : (w n i : ℕ) → n < 2 ^ w → i < w → bit_at (2 ^ w - (n + 1)) i ≡ 1 - bit_at n i
bit_at-complement w n i h k =
    let same : 2 ^ w - (n + 1) ≡ 2 ^ w - 1 - n = omega arith in
    let whole : bit_and (2 ^ w - (n + 1)) (2 ^ i) + bit_and n (2 ^ i) ≡ 2 ^ i = ap (λ m. bit_and m (2 ^ i) + bit_and n (2 ^ i)) same ∙ and-not w n (2 ^ i) h (pow_below i w k) in
    complement-sum (bit_at (2 ^ w - (n + 1)) i) (bit_at n i) (2 ^ i) (pow_pos i) (bit_at-lt (2 ^ w - (n + 1)) i) (bit_at-lt n i)
    (omega (arith, and_pow (2 ^ w - (n + 1)) i, and_pow n i, whole))

pub has_bits-not_of : (ty : Ty) (a : ℤ) → HasBits ty (not_of ty a) (λ i. 1 - bit_of ty a i)
has_bits-not_of ty a = has_bits-wrap_pos ty _ _ (λ i k. bit_at-complement (width_of ty) (pattern_of ty a) i (pattern-lt (width_of ty) a) k)

bit_at-shl : (p n i : ℕ) → bit_at (p * 2 ^ n) i ≡ (if nat_lt i n then 0 else bit_at p (i - n))
bit_at-shl p n i =
    let plain : p * 2 ^ n ≡ p * 2 ^ n + 0 = omega arith in
    ap (λ m. bit_at m i) plain ∙ ⊎_elim
    (λ (l : i < n). bit_at_cat_low p n 0 i l ∙ bit_at-zero i ∙ cond_below i n 0 (bit_at p (i - n)) l)
    (λ (g : n ≤ i). cond_above i n 0 (bit_at p (i - n)) _ g (bit_at_cat_high p n 0 i (pow_pos n) g))
    (cases_lt i n)

bit_at-shr : (w p n i : ℕ) → p < 2 ^ w → bit_at (p / 2 ^ n) i ≡ (if nat_lt (i + n) w then bit_at p (i + n) else 0)
bit_at-shr w p n i h =
    let moved : bit_at (p / 2 ^ n) i ≡ bit_at p (i + n) = ap (λ m. m % 2) (shr-shr p n i ∙ ap (λ m. p / 2 ^ m) (add_comm n i)) in
    moved ∙ ⊎_elim
    (λ (l : i + n < w). cond_below (i + n) w (bit_at p (i + n)) 0 l)
    (λ (g : w ≤ i + n). cond_above (i + n) w (bit_at p (i + n)) 0 _ g (bit_at_above p w (i + n) h g))
    (cases_lt (i + n) w)

pub has_bits-shl_of : (ty : Ty) (a : ℤ) (n : ℕ) → HasBits ty (shl_of ty a n) (λ i. if nat_lt i n then 0 else bit_of ty a (i - n))
has_bits-shl_of ty a n = has_bits-wrap_pos ty _ _ (λ i _. bit_at-shl (pattern_of ty a) n i)

pub has_bits-shr_of : (ty : Ty) (a : ℤ) (n : ℕ) → HasBits ty (shr_of ty a n) (λ i. if nat_lt (i + n) (width_of ty) then bit_of ty a (i + n) else 0)
has_bits-shr_of ty a n = has_bits-wrap_pos ty _ _ (λ i _. bit_at-shr (width_of ty) (pattern_of ty a) n i (pattern-lt (width_of ty) a))

-- ---- shifts by the width or more

pub shl_of-far : (ty : Ty) (a : ℤ) (n : ℕ) → width_of ty ≤ n → shl_of ty a n ≡ pos 0
shl_of-far ty a n h =
    let w = width_of ty in
    let split : w + (n - w) ≡ n = omega arith in
    let power : 2 ^ n ≡ 2 ^ w * 2 ^ (n - w) = ap (λ m. 2 ^ m) (sym split) ∙ pow-add 2 w (n - w) in
    let p = pattern_of ty a in
    let times : p * 2 ^ n ≡ p * 2 ^ (n - w) * 2 ^ w = ap (λ m. p * m) power ∙ omega arith in
    wrap-congruent_same (is_signed_of ty) (wide ty) (congruent-from_parts (2 ^ w) 0 (p * 2 ^ (n - w)) (pos (p * 2 ^ n)) (pos 0) (omega arith))
    ∙ wrap-own (wide ty) (zero-in_range w (is_signed_of ty) (wide ty))

pub shr_of-far : (ty : Ty) (a : ℤ) (n : ℕ) → width_of ty ≤ n → shr_of ty a n ≡ pos 0
shr_of-far ty a n h =
    let w = width_of ty in
    let p = pattern_of ty a in
    let more : 2 ^ w ≤ 2 ^ n = pow-le-pow_right (omega arith) h in
    let none : p / 2 ^ n ≡ 0 = div-eq_of_lt (omega (arith, pattern-lt w a)) in
    ap (λ m. wrap_of ty (pos m)) none ∙ wrap-own (wide ty) (zero-in_range w (is_signed_of ty) (wide ty))

-- ---- the complement

-- to add the complement and one is to subtract
pub wrap-complement : (ty : Ty) (a b : ℤ) → wrap_of ty (a +ℤ not_of ty b +ℤ pos 1) ≡ wrap_of ty (a -ℤ b)
wrap-complement ty a b =
    let w = width_of ty in
    let p = pattern_of ty b in
    let inside : p < 2 ^ w = pattern-lt w b in
    let flipped : IsCongruent (2 ^ w) (not_of ty b) (pos (2 ^ w - (p + 1))) = wrap-congruent w (is_signed_of ty) (pos (2 ^ w - (p + 1))) (wide ty) in
    let sum : IsCongruent (2 ^ w) (a +ℤ not_of ty b +ℤ pos 1) (a +ℤ pos (2 ^ w - (p + 1)) +ℤ pos 1) = congruent-sum (congruent-sum (congruent-refl (2 ^ w) a) flipped) (congruent-refl (2 ^ w) (pos 1)) in
    let less : IsCongruent (2 ^ w) (a +ℤ pos (2 ^ w - (p + 1)) +ℤ pos 1) (a -ℤ pos p) = congruent-from_parts (2 ^ w) 0 1 _ _ (omega (arith, ints)) in
    let back : IsCongruent (2 ^ w) (a -ℤ pos p) (a -ℤ b) = congruent-difference (congruent-refl (2 ^ w) a) (pattern-congruent w b) in
    wrap-congruent_same (is_signed_of ty) (wide ty) (congruent-trans sum (congruent-trans less back))

-- the bits of an equal number
pub has_bits-along : {ty : Ty} {r s : ℤ} {f : ℕ → ℕ} → HasBits ty s f → r ≡ s → HasBits ty r f
has_bits-along {ty} {r} {s} {f} h e = subst (λ z. HasBits ty z f) (sym e) h

-- ---- the pattern as the code computes it

-- the bits of z at 128 bits, as a number from 0, are congruent to it
unsigned-congruent : (w : ℕ) (z : ℤ) → w ≤ 128 → FitsSigned w128 z → IsCongruent (2 ^ w) z (pos (cast_unsigned w128 z))
unsigned-congruent w (pos a) h f = congruent-refl (2 ^ w) (pos a)
unsigned-congruent w (negsuc a) h f =
    let split : 128 - w + w ≡ 128 = omega arith in
    let power : 2 ^ 128 ≡ 2 ^ (128 - w) * 2 ^ w = ap (λ k. 2 ^ k) (sym split) ∙ pow-add 2 (128 - w) w in
    congruent-from_parts (2 ^ w) (2 ^ (128 - w)) 0 (negsuc a) (pos (2 ^ 128 - suc a)) (omega (arith, f.sfits))

pub pattern-lowest : (w : ℕ) (z : ℤ) → w ≤ 128 → FitsSigned w128 z → bit_and (cast_unsigned w128 z) (2 ^ w - 1) ≡ pattern_at w z
pattern-lowest w z h f =
    and_mask (cast_unsigned w128 z) w ∙ sym (pattern-pos w (cast_unsigned w128 z)) ∙ sym (pattern-congruent_same w (unsigned-congruent w z h f))

-- a pattern that is a value, and one that lies 2 ^ w above one
pub wrap-low : (w : ℕ) (s : Bool) (n r : ℤ) → 0 < w → r ≡ pos (pattern_at w n) → r ≤ℤ greatest_at w s → IsWrap w s n r
wrap-low w s n r p e h =
    let low = (zero-in_range w s p).from in
    record {
      in_range = record { from = omega (arith, ints); to = h };
      congruent = subst (λ z. IsCongruent (2 ^ w) z n) (sym e) (pattern-congruent w n);
    }

pub wrap-high : (w : ℕ) (s : Bool) (n r : ℤ) → 0 < w → r ≡ pos (pattern_at w n) -ℤ pos (2 ^ w) → greatest_at w s <ℤ pos (pattern_at w n) → IsWrap w s n r
wrap-high w s n r p e h =
    let high = (zero-in_range w s p).to in
    let f = span w s p in
    let small = pattern-lt w n in
    record {
      in_range = record { from = omega (arith, ints); to = omega (arith, ints) };
      congruent = congruent-trans (congruent-from_parts (2 ^ w) 1 0 r (pos (pattern_at w n)) (omega (arith, ints))) (pattern-congruent w n);
    }
