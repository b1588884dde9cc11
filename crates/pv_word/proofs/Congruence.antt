-- The laws of congruence modulo m, and of what is left of a number modulo m.
-- Every fact about `wrap` comes from congruence. Show `IsCongruent (2 ^ w) a b` by `congruent-sum`, `-difference`, `-negation`,
-- `-product`, `-trans`, `-divisor` of this module, then `wrap-congruent_same`. Two numbers in range with the same pattern or the
-- same bits are one: `in_range-congruent`, `in_range-pattern_same`, `has_bits-unique`. Equations on whole numbers go to `omega
-- (arith, ints)`. A product with an unknown power of 2 is one atom to `omega`: give it the equations multiplied out (`ap (λ n. n *
-- m) e`). `pow-le-pow_right` at two numerals computes away: write `{i = ..} {j = ..}`.
use Rattle.std.proofs.Common.{◌≡◌, ℕ, ◌+◌, ◌-◌, ◌*◌, ◌/◌, ◌%◌, ◌<◌, ◌≤◌, arith, refl, ap, sym, ◌∙◌, ⊎_elim}
use Rattle.std.specs.Prelude.{ℤ, pos, negsuc, neg_ℤ, ◌+ℤ◌, ◌-ℤ◌, ◌*ℤ◌, unsigned_abs}
use Rattle.std.proofs.lemmas.Int.{ints}
use Rattle.std.proofs.lemmas.Nat.{mod_below, div-add-mod'}
use Rattle.std.proofs.lemmas.Bool.{cases_lt}
use Rattle.std.proofs.Math.Nat.{mul-le-mul_right}
use borrow.Author.Differences.{up, down, same_in, same_out, sum_is_lem, neg_is, product_is}
use Rattle.pv_word.specs.Wrap.{IsCongruent, residue}

-- an equation with multiples of m, in the parts of the numbers, as `omega` reads it
pub congruent-from_parts : (m j k : ℕ) (a b : ℤ) → up a + j * m + down b ≡ up b + k * m + down a → IsCongruent m a b
congruent-from_parts m j k a b e = record { left = j; right = k; equal = omega (arith, same_in, sum_is_lem) }

pub congruent-parts : (m : ℕ) (a b : ℤ) (c : IsCongruent m a b) → up a + c.left * m + down b ≡ up b + c.right * m + down a
congruent-parts m a b c = omega (arith, same_out, sum_is_lem, c.equal)

pub congruent-refl : (m : ℕ) (a : ℤ) → IsCongruent m a a
congruent-refl m a = record { left = 0; right = 0; equal = refl }

pub congruent-sym : {m : ℕ} {a b : ℤ} → IsCongruent m a b → IsCongruent m b a
congruent-sym c = record { left = c.right; right = c.left; equal = sym c.equal }

pub congruent-trans : {m : ℕ} {a b z : ℤ} → IsCongruent m a b → IsCongruent m b z → IsCongruent m a z
congruent-trans {m} {a} {b} {z} c d = congruent-from_parts m (c.left + d.left) (c.right + d.right) a z (omega (arith, congruent-parts m a b c, congruent-parts m b z d))

pub congruent-sum : {m : ℕ} {a b x y : ℤ} → IsCongruent m a b → IsCongruent m x y → IsCongruent m (a +ℤ x) (b +ℤ y)
congruent-sum {m} {a} {b} {x} {y} c d =
    congruent-from_parts m (c.left + d.left) (c.right + d.right) (a +ℤ x) (b +ℤ y) (omega (arith, sum_is_lem, congruent-parts m a b c, congruent-parts m x y d))

pub congruent-negation : {m : ℕ} {a b : ℤ} → IsCongruent m a b → IsCongruent m (neg_ℤ a) (neg_ℤ b)
congruent-negation {m} {a} {b} c = congruent-from_parts m c.right c.left (neg_ℤ a) (neg_ℤ b) (omega (arith, neg_is, congruent-parts m a b c))

pub congruent-difference : {m : ℕ} {a b x y : ℤ} → IsCongruent m a b → IsCongruent m x y → IsCongruent m (a -ℤ x) (b -ℤ y)
congruent-difference c d = congruent-sum c (congruent-negation d)

-- the first factor may be replaced
scaled : {m : ℕ} {a b : ℤ} (x : ℤ) → IsCongruent m a b → IsCongruent m (a *ℤ x) (b *ℤ x)
scaled {m} {a} {b} x c =
    let sum = congruent-parts m a b c in
    let above = ap (λ n. n * up x) sum in
    let below = ap (λ n. n * down x) sum in
    congruent-from_parts m (c.left * up x + c.right * down x) (c.right * up x + c.left * down x) (a *ℤ x) (b *ℤ x) (omega (arith, product_is))

swapped : (a b : ℤ) → a *ℤ b ≡ b *ℤ a
swapped a b = omega (arith, ints)

pub congruent-product : {m : ℕ} {a b x y : ℤ} → IsCongruent m a b → IsCongruent m x y → IsCongruent m (a *ℤ x) (b *ℤ y)
congruent-product {m} {a} {b} {x} {y} c d =
    let second : IsCongruent m (x *ℤ b) (y *ℤ b) = scaled b d in
    congruent-trans (scaled x c) (record { left = second.left; right = second.right; equal = ap (λ n. n +ℤ pos (second.left * m)) (swapped b x) ∙ second.equal ∙ ap (λ n. n +ℤ pos (second.right * m)) (swapped y b) })

-- congruent numbers that are less than m apart are equal
pub congruent-near : {m : ℕ} {a b : ℤ} → IsCongruent m a b → up a + down b < up b + down a + m → up b + down a < up a + down b + m → a ≡ b
congruent-near {m} {a} {b} c p q =
    let sum = congruent-parts m a b c in
    ⊎_elim
    (λ (l : c.left < c.right). absurd (omega (arith, mul-le-mul_right m l)))
    (λ (g : c.right ≤ c.left). ⊎_elim
    (λ (l : c.right < c.left). absurd (omega (arith, mul-le-mul_right m l)))
    (λ (h : c.left ≤ c.right). let same : c.left ≡ c.right = omega arith in let times = ap (λ n. n * m) same in omega (arith, same_in))
    (cases_lt c.right c.left))
    (cases_lt c.left c.right)

-- ---- what is left modulo m

pub residue-lt : (m : ℕ) (z : ℤ) → 0 < m → residue m z < m
residue-lt m (pos a) p = mod_below a m p
residue-lt m (negsuc a) p = omega (arith, mod_below a m p)

pub residue-congruent : (m : ℕ) (z : ℤ) → 0 < m → IsCongruent m (pos (residue m z)) z
residue-congruent m (pos a) p = congruent-from_parts m (a / m) 0 (pos (a % m)) (pos a) (omega (arith, div-add-mod' a m))
residue-congruent m (negsuc a) p = congruent-from_parts m 0 (a / m + 1) (pos (m - 1 - a % m)) (negsuc a) (omega (arith, div-add-mod' a m, mod_below a m p))

-- congruent numbers leave the same
pub residue-congruent_same : {m : ℕ} {a b : ℤ} → 0 < m → IsCongruent m a b → residue m a ≡ residue m b
residue-congruent_same {m} {a} {b} p c =
    ap unsigned_abs (congruent-near
    (congruent-trans (residue-congruent m a p) (congruent-trans c (congruent-sym (residue-congruent m b p))))
    (omega (arith, residue-lt m a p, residue-lt m b p))
    (omega (arith, residue-lt m a p, residue-lt m b p)))

-- congruent modulo a multiple of m
pub congruent-divisor : {m M : ℕ} (k : ℕ) {a b : ℤ} → M ≡ k * m → IsCongruent M a b → IsCongruent m a b
congruent-divisor {m} {M} k {a} {b} e c =
    let first : c.left * M ≡ c.left * k * m = ap (λ x. c.left * x) e ∙ omega arith in
    let second : c.right * M ≡ c.right * k * m = ap (λ x. c.right * x) e ∙ omega arith in
    congruent-from_parts m (c.left * k) (c.right * k) a b (omega (arith, congruent-parts M a b c))
