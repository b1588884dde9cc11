-- The laws of the division that truncates toward zero.
use Rattle.std.proofs.Common.{◌≡◌, ◌≢◌, ℕ, zero, suc, ◌+◌, ◌-◌, ◌*◌, ◌/◌, ◌%◌, ◌^◌, ◌<◌, ◌≤◌, arith, refl, ap, sym, ◌∙◌, ⊎_elim, Bool, true, false}
use Rattle.std.specs.Prelude.{ℤ, pos, negsuc, neg_ℤ, ◌+ℤ◌, ◌*ℤ◌, ◌≤ℤ◌, unsigned_abs}
use Rattle.std.proofs.lemmas.Int.{ints, quot-rem, rem_below}
use Rattle.std.proofs.lemmas.Bool.{cases_lt}
use Rattle.std.proofs.Math.Nat.{div-le_self, mul-le-mul_right, zero-mod}
use borrow.Author.Differences.{up, down, same_in, same_out, sum_is_lem, product_is, neg_is}
use Rattle.pv_word.specs.Division.{IsDivision, quotient, remainder}
use Rattle.pv_word.specs.Range.{least_at, IsInRange}
use Rattle.pv_word.specs.Wrap.{IsCongruent}
use Rattle.pv_word.proofs.Congruence.{congruent-refl, congruent-near, congruent-from_parts}
use Rattle.pv_word.proofs.WrapLaws.{double}

pub nonzero_abs : (b : ℤ) → b ≢ pos 0 → 0 < unsigned_abs b
nonzero_abs b n = omega (arith, ints)

-- the sign of the remainder
remainder-not_below : (a b : ℤ) → pos 0 ≤ℤ a → pos 0 ≤ℤ remainder a b
remainder-not_below (pos a) b h = omega (arith, ints)
remainder-not_below (negsuc a) b h = absurd (omega (arith, ints))

remainder-not_above : (a b : ℤ) → a ≤ℤ pos 0 → remainder a b ≤ℤ pos 0
remainder-not_above (pos a) b h =
    let none : a ≡ 0 = omega (arith, ints) in
    let left : a % unsigned_abs b ≡ 0 = ap (λ n. n % unsigned_abs b) none ∙ zero-mod (unsigned_abs b) in
    omega (arith, ints)
remainder-not_above (negsuc a) b h = omega (arith, ints, neg_is (pos (suc a % unsigned_abs b)))

pub division-is : (a b : ℤ) → b ≢ pos 0 → IsDivision a b (quotient a b) (remainder a b)
division-is a b n = record {
  equation = quot-rem a b;
  smaller = rem_below a b (nonzero_abs b n);
  not_below = remainder-not_below a b;
  not_above = remainder-not_above a b;
}

-- two divisions of one number leave congruent remainders
remainders-congruent : (a b q r s t : ℤ) → IsDivision a b q r → IsDivision a b s t → IsCongruent (unsigned_abs b) r t
remainders-congruent a (pos m) q r s t d e = congruent-from_parts m (up q + down s) (up s + down q) r t (omega (arith, same_out, sum_is_lem, product_is, d.equation, e.equation))
remainders-congruent a (negsuc n) q r s t d e = congruent-from_parts (suc n) (down q + up s) (down s + up q) r t (omega (arith, same_out, sum_is_lem, product_is, d.equation, e.equation))

remainders-near : (a b q r s t : ℤ) → IsDivision a b q r → IsDivision a b s t → up r + down t < up t + down r + unsigned_abs b
remainders-near (pos a) b q r s t d e =
    let sign : pos 0 ≤ℤ pos a = omega (arith, ints) in
    omega (arith, ints, d.smaller, e.smaller, d.not_below sign, e.not_below sign)
remainders-near (negsuc a) b q r s t d e =
    let sign : negsuc a ≤ℤ pos 0 = omega (arith, ints) in
    omega (arith, ints, d.smaller, e.smaller, d.not_above sign, e.not_above sign)

factors-same : (x y m : ℕ) → 0 < m → x * m ≡ y * m → x ≡ y
factors-same x y m p e = ⊎_elim
    (λ (l : x < y). absurd (omega (arith, mul-le-mul_right m l)))
    (λ (g : y ≤ x). ⊎_elim
    (λ (l : y < x). absurd (omega (arith, mul-le-mul_right m l)))
    (λ (h : x ≤ y). omega arith)
    (cases_lt y x))
    (cases_lt x y)

quotients-same : (b q s r : ℤ) → 0 < unsigned_abs b → q *ℤ b +ℤ r ≡ s *ℤ b +ℤ r → q ≡ s
quotients-same (pos m) q s r p e =
    let same = factors-same (up q + down s) (up s + down q) m p (omega (arith, same_out, sum_is_lem, product_is, e)) in
    omega (arith, same_in)
quotients-same (negsuc n) q s r p e =
    let same = factors-same (up q + down s) (up s + down q) (suc n) p (omega (arith, same_out, sum_is_lem, product_is, e)) in
    omega (arith, same_in)

pub remainder-unique : {a b q r s t : ℤ} → IsDivision a b q r → IsDivision a b s t → r ≡ t
remainder-unique {a} {b} {q} {r} {s} {t} d e =
    congruent-near (remainders-congruent a b q r s t d e) (remainders-near a b q r s t d e) (remainders-near a b s t q r e d)

pub quotient-unique : {a b q r s t : ℤ} → IsDivision a b q r → IsDivision a b s t → q ≡ s
quotient-unique {a} {b} {q} {r} {s} {t} d e =
    quotients-same b q s r (omega (arith, d.smaller)) (d.equation ∙ sym e.equation ∙ ap (λ z. s *ℤ b +ℤ z) (sym (remainder-unique d e)))

-- the remainder by a number in range is in range
pub remainder-in_range : {w : ℕ} (s : Bool) {a b q r : ℤ} → IsInRange w s a → IsInRange w s b → IsDivision a b q r → IsInRange w s r
remainder-in_range {w} false {a} {b} {q} {r} f g d =
    let low = d.not_below f.from in
    record { from = low; to = omega (arith, ints, d.smaller, g.from, g.to) }
remainder-in_range {w} true {a} {b} {q} {r} f g d =
    record { from = omega (arith, ints, d.smaller, g.from, g.to); to = omega (arith, ints, d.smaller, g.from, g.to) }

negation-abs : (n : ℕ) → unsigned_abs (neg_ℤ (pos n)) ≡ n
negation-abs zero = refl
negation-abs (suc n) = refl

-- a quotient is no further from 0 than the dividend
pub quotient-within : (a b : ℤ) → unsigned_abs (quotient a b) ≤ unsigned_abs a
quotient-within (pos a) (pos b) = div-le_self a b
quotient-within (pos a) (negsuc b) = omega (arith, negation-abs (a / suc b), div-le_self a (suc b))
quotient-within (negsuc a) (pos b) = omega (arith, negation-abs (suc a / b), div-le_self (suc a) b)
quotient-within (negsuc a) (negsuc b) = div-le_self (suc a) (suc b)

negation-congruent : (h m : ℕ) → m ≡ 2 * h → IsCongruent m (quotient (neg_ℤ (pos h)) (negsuc 0)) (neg_ℤ (pos h))
negation-congruent zero m e = congruent-refl m (pos 0)
negation-congruent (suc k) m e = congruent-from_parts m 0 1 (pos (suc k / 1)) (negsuc k) (omega arith)

-- the least number of w bits, divided by -1, is congruent to itself
pub least-by_minus_one : (w : ℕ) (s : Bool) → 0 < w → IsCongruent (2 ^ w) (quotient (least_at w s) (negsuc 0)) (least_at w s)
least-by_minus_one w false p = congruent-refl (2 ^ w) (pos 0)
least-by_minus_one w true p = negation-congruent (2 ^ (w - 1)) (2 ^ w) (double w p)
