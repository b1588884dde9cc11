-- The laws of the number of w bits that is left of a whole number.
-- The laws here and in `BitLaws` and `DivisionLaws` stand over a width and a sign; at a type give them `width_of ty`,
-- `is_signed_of ty` and `wide ty`. `wrap_at` and `pattern_at` are `unfoldable`, so goals stay short: unfold them in the few lemmas
-- that tie them to `residue`, and cite the laws elsewhere. What code computes at `i128` appears as `to_z w128 (of_z w128 z)`:
-- `to_z-of_z w128 z fits`, with `record { sfits = c.CALL.type_inv }` for a call's result and `c.ranges.x` for an argument, takes
-- it off; with such equations in a `let`, `omega (arith, ints)` uses them.
use Rattle.std.proofs.Common.{◌≡◌, ℕ, ◌+◌, ◌-◌, ◌*◌, ◌<◌, ◌≤◌, ◌^◌, arith, ap, sym, ◌∙◌, Bool, true, false}
use Rattle.std.specs.Prelude.{ℤ, pos, ◌+ℤ◌, ◌-ℤ◌, ◌*ℤ◌}
use Rattle.std.proofs.lemmas.Int.{ints}
use Rattle.std.proofs.lemmas.Nat.{pow_pos, pow-add}
use Rattle.pv_word.specs.Range.{least_at, greatest_at, IsInRange}
use Rattle.pv_word.specs.Wrap.{IsCongruent, IsWrap, residue, wrap_at}
use Rattle.pv_word.proofs.Congruence.{congruent-refl, congruent-sym, congruent-trans, congruent-sum, congruent-difference, congruent-product, congruent-near, congruent-divisor, residue-lt, residue-congruent}

-- 2 to the power of w is twice its half
pub double : (w : ℕ) → 0 < w → 2 ^ w ≡ 2 * 2 ^ (w - 1)
double w p = let e : w ≡ 1 + (w - 1) = omega arith in ap (λ n. 2 ^ n) e ∙ pow-add 2 1 (w - 1)

-- the greatest number lies 2 ^ w - 1 above the least
pub span : (w : ℕ) (s : Bool) → 0 < w → greatest_at w s ≡ least_at w s +ℤ (pos (2 ^ w) -ℤ pos 1)
span w false p = omega (arith, ints)
span w true p = omega (arith, ints, double w p)

-- a number that lies k above the least one, with k less than 2 ^ w, is in range
pub in_range-above : (w : ℕ) (s : Bool) (k : ℕ) → 0 < w → k < 2 ^ w → IsInRange w s (least_at w s +ℤ pos k)
in_range-above w s k p q = let e = span w s p in record { from = omega (arith, ints); to = omega (arith, ints) }

-- two congruent numbers in range are one
pub in_range-congruent : {w : ℕ} {s : Bool} {a b : ℤ} → 0 < w → IsInRange w s a → IsInRange w s b → IsCongruent (2 ^ w) a b → a ≡ b
in_range-congruent {w} {s} {a} {b} p f g c =
    let e = span w s p in
    congruent-near c (omega (arith, ints, pow_pos w)) (omega (arith, ints, pow_pos w))

-- ---- the one number

pub wrap-is_wrap : (w : ℕ) (s : Bool) (n : ℤ) → 0 < w → IsWrap w s n (wrap_at w s n)
unfolding wrap_at
wrap-is_wrap w s n p =
    let m = 2 ^ w in
    let low = least_at w s in
    let back : low +ℤ (n -ℤ low) ≡ n = omega (arith, ints) in
    let c : IsCongruent m (low +ℤ pos (residue m (n -ℤ low))) (low +ℤ (n -ℤ low)) = congruent-sum (congruent-refl m low) (residue-congruent m (n -ℤ low) (pow_pos w)) in
    record {
      in_range = in_range-above w s (residue m (n -ℤ low)) p (residue-lt m (n -ℤ low) (pow_pos w));
      congruent = record { left = c.left; right = c.right; equal = c.equal ∙ ap (λ z. z +ℤ pos (c.right * m)) back };
    }

pub wrap-in_range : (w : ℕ) (s : Bool) (n : ℤ) → 0 < w → IsInRange w s (wrap_at w s n)
wrap-in_range w s n p = (wrap-is_wrap w s n p).in_range

pub wrap-congruent : (w : ℕ) (s : Bool) (n : ℤ) → 0 < w → IsCongruent (2 ^ w) (wrap_at w s n) n
wrap-congruent w s n p = (wrap-is_wrap w s n p).congruent

pub wrap-unique : {w : ℕ} {s : Bool} {n r : ℤ} → 0 < w → IsWrap w s n r → r ≡ wrap_at w s n
wrap-unique {w} {s} {n} {r} p h =
    in_range-congruent p h.in_range (wrap-in_range w s n p) (congruent-trans h.congruent (congruent-sym (wrap-congruent w s n p)))

-- a number in range is its own
pub wrap-own : {w : ℕ} {s : Bool} {n : ℤ} → 0 < w → IsInRange w s n → wrap_at w s n ≡ n
wrap-own {w} {s} {n} p h = sym (wrap-unique p (record { in_range = h; congruent = congruent-refl (2 ^ w) n }))

-- congruent numbers have one wrap
pub wrap-congruent_same : {w : ℕ} (s : Bool) {a b : ℤ} → 0 < w → IsCongruent (2 ^ w) a b → wrap_at w s a ≡ wrap_at w s b
wrap-congruent_same {w} s {a} {b} p c =
    wrap-unique p (record { in_range = wrap-in_range w s a p; congruent = congruent-trans (wrap-congruent w s a p) c })

-- ---- to wrap on the way changes nothing

-- to wrap to more bits first
pub wrap-wider : (w v : ℕ) (s t : Bool) (n : ℤ) → 0 < w → w ≤ v → wrap_at w s (wrap_at v t n) ≡ wrap_at w s n
wrap-wider w v s t n p h =
    let split : v - w + w ≡ v = omega arith in
    let power : 2 ^ v ≡ 2 ^ (v - w) * 2 ^ w = ap (λ k. 2 ^ k) (sym split) ∙ pow-add 2 (v - w) w in
    wrap-congruent_same s p (congruent-divisor (2 ^ (v - w)) power (wrap-congruent v t n (omega arith)))

pub wrap-sum : (w : ℕ) (s t u : Bool) (a b : ℤ) → 0 < w → wrap_at w s (wrap_at w t a +ℤ wrap_at w u b) ≡ wrap_at w s (a +ℤ b)
wrap-sum w s t u a b p = wrap-congruent_same s p (congruent-sum (wrap-congruent w t a p) (wrap-congruent w u b p))

pub wrap-difference : (w : ℕ) (s t u : Bool) (a b : ℤ) → 0 < w → wrap_at w s (wrap_at w t a -ℤ wrap_at w u b) ≡ wrap_at w s (a -ℤ b)
wrap-difference w s t u a b p = wrap-congruent_same s p (congruent-difference (wrap-congruent w t a p) (wrap-congruent w u b p))

pub wrap-product : (w : ℕ) (s t u : Bool) (a b : ℤ) → 0 < w → wrap_at w s (wrap_at w t a *ℤ wrap_at w u b) ≡ wrap_at w s (a *ℤ b)
wrap-product w s t u a b p = wrap-congruent_same s p (congruent-product (wrap-congruent w t a p) (wrap-congruent w u b p))

-- 0 is a number of w bits
pub zero-in_range : (w : ℕ) (s : Bool) → 0 < w → IsInRange w s (pos 0)
zero-in_range w false p = record { from = omega (arith, ints); to = omega (arith, ints, pow_pos w) }
zero-in_range w true p = record { from = omega (arith, ints); to = omega (arith, ints, pow_pos (w - 1)) }

-- the least number of w bits is one
pub least-in_range : (w : ℕ) (s : Bool) → 0 < w → IsInRange w s (least_at w s)
least-in_range w s p = let e = span w s p in record { from = omega (arith, ints); to = omega (arith, ints, pow_pos w) }
