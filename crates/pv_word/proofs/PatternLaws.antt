-- What the patterns of sums, differences, products and values are, as circuits compute them.
use Rattle.std.proofs.Common.{◌≡◌, ℕ, ◌+◌, ◌-◌, ◌*◌, ◌%◌, ◌^◌, ◌<◌, ◌≤◌, arith, ap, sym, ◌∙◌, Bool, true, false}
use Rattle.std.specs.Prelude.{ℤ, pos, ◌+ℤ◌, ◌-ℤ◌, ◌*ℤ◌, ◌≤ℤ◌, ◌<ℤ◌}
use Rattle.std.proofs.lemmas.Int.{ints}
use Rattle.std.proofs.lemmas.Nat.{pow_pos}
use Rattle.std.proofs.Math.Nat.{div-eq_of_lt, div-eq_of_lt-le}
use Rattle.pv_word.specs.Range.{IsInRange}
use Rattle.pv_word.specs.Wrap.{IsCongruent}
use Rattle.pv_word.specs.Bits.{pattern_at, pattern_bit_at}
use Rattle.pv_word.proofs.BitLaws.{pattern-lt, pattern-congruent, pattern-congruent_same, pattern-pos}
use Rattle.pv_word.proofs.Congruence.{congruent-sum, congruent-difference, congruent-product, congruent-trans, congruent-from_parts, congruent-near}
use Rattle.pv_word.proofs.WrapLaws.{double}

pub pattern-sum : (w : ℕ) (a b : ℤ) → pattern_at w (a +ℤ b) ≡ (pattern_at w a + pattern_at w b) % 2 ^ w
pattern-sum w a b =
    let p = pattern_at w a in
    let q = pattern_at w b in
    let c : IsCongruent (2 ^ w) (pos (p + q)) (a +ℤ b) = congruent-sum (pattern-congruent w a) (pattern-congruent w b) in
    sym (pattern-congruent_same w c) ∙ pattern-pos w (p + q)

-- the second pattern is taken from 2 ^ w
pub pattern-difference : (w : ℕ) (a b : ℤ) → pattern_at w (a -ℤ b) ≡ (pattern_at w a + (2 ^ w - pattern_at w b)) % 2 ^ w
pattern-difference w a b =
    let p = pattern_at w a in
    let q = pattern_at w b in
    let inside = pattern-lt w b in
    let c : IsCongruent (2 ^ w) (pos p -ℤ pos q) (a -ℤ b) = congruent-difference (pattern-congruent w a) (pattern-congruent w b) in
    let d : IsCongruent (2 ^ w) (pos (p + (2 ^ w - q))) (pos p -ℤ pos q) = congruent-from_parts (2 ^ w) 0 1 (pos (p + (2 ^ w - q))) (pos p -ℤ pos q) (omega (arith, ints)) in
    sym (pattern-congruent_same w (congruent-trans d c)) ∙ pattern-pos w (p + (2 ^ w - q))

pub pattern-product : (w : ℕ) (a b : ℤ) → pattern_at w (a *ℤ b) ≡ (pattern_at w a * pattern_at w b) % 2 ^ w
pattern-product w a b =
    let p = pattern_at w a in
    let q = pattern_at w b in
    let c : IsCongruent (2 ^ w) (pos (p * q)) (a *ℤ b) = congruent-product (pattern-congruent w a) (pattern-congruent w b) in
    sym (pattern-congruent_same w c) ∙ pattern-pos w (p * q)

-- ---- the pattern of a number in range

-- of one that isn't negative it is the number
pub pattern-not_negative : (w : ℕ) (s : Bool) (v : ℤ) → 0 < w → IsInRange w s v → pos 0 ≤ℤ v → pos (pattern_at w v) ≡ v
pattern-not_negative w false v p h k = congruent-near (pattern-congruent w v) (omega (arith, ints, pattern-lt w v, h.to)) (omega (arith, ints, pattern-lt w v, h.to))
pattern-not_negative w true v p h k = congruent-near (pattern-congruent w v) (omega (arith, ints, pattern-lt w v, h.to, double w p)) (omega (arith, ints, pattern-lt w v, h.to, double w p))

-- of a negative one it lies 2 ^ w above
pub pattern-negative : (w : ℕ) (s : Bool) (v : ℤ) → 0 < w → IsInRange w s v → v <ℤ pos 0 → pos (pattern_at w v) ≡ v +ℤ pos (2 ^ w)
pattern-negative w false v p h k = absurd (omega (arith, ints, h.from))
pattern-negative w true v p h k =
    let up : IsCongruent (2 ^ w) v (v +ℤ pos (2 ^ w)) = congruent-from_parts (2 ^ w) 1 0 v (v +ℤ pos (2 ^ w)) (omega (arith, ints)) in
    congruent-near (congruent-trans (pattern-congruent w v) up)
    (omega (arith, ints, pattern-lt w v, h.from, double w p, pow_pos (w - 1)))
    (omega (arith, ints, pattern-lt w v, h.from, double w p, pow_pos (w - 1)))

-- the highest bit of a signed number is its sign
pub sign-not_negative : (w : ℕ) (v : ℤ) → 0 < w → IsInRange w true v → pos 0 ≤ℤ v → pattern_bit_at w v (w - 1) ≡ 0
sign-not_negative w v p h k =
    let is = pattern-not_negative w true v p h k in
    let small : pattern_at w v < 2 ^ (w - 1) = omega (arith, ints, is, h.to) in
    ap (λ n. n % 2) (div-eq_of_lt small)

pub sign-negative : (w : ℕ) (v : ℤ) → 0 < w → IsInRange w true v → v <ℤ pos 0 → pattern_bit_at w v (w - 1) ≡ 1
sign-negative w v p h k =
    let is = pattern-negative w true v p h k in
    let low : 1 * 2 ^ (w - 1) ≤ pattern_at w v = omega (arith, ints, is, h.from, double w p) in
    let high : pattern_at w v < 2 * 2 ^ (w - 1) = omega (arith, ints, pattern-lt w v, double w p) in
    ap (λ n. n % 2) (div-eq_of_lt-le {k = 1} (2 ^ (w - 1)) low high)
