-- Sets of kinds as bits of a number.
use Rattle.std.proofs.Common.{◌≡◌, ℕ, Bool, true, false, cond, arith, ap, inl, inr}
use Rattle.std.specs.Prelude.{bit_or, bit_and}
use Rattle.std.specs.Int.{bit_at}
use Rattle.std.proofs.lemmas.Nat.Bits.{bit_at_or, bit_at_and, bit_at-lt, bit_at-zero}
use Rattle.std.proofs.lemmas.Bool.{cases_eq}
use Rattle.pv_ll.specs.Facts.{IsSubset}

pub in_left : (x y t : ℕ) → bit_at x t ≡ 1 → bit_at (bit_or x y) t ≡ 1
in_left x y t h = omega (arith, bit_at_or x y t, bit_at-lt y t)

pub in_right : (x y t : ℕ) → bit_at y t ≡ 1 → bit_at (bit_or x y) t ≡ 1
in_right x y t h = omega (arith, bit_at_or x y t, bit_at-lt x t)

-- in the first, whether or not the second is added
pub in_first : (b : Bool) (x y t : ℕ) → bit_at x t ≡ 1 → bit_at (cond b (bit_or x y) x) t ≡ 1
in_first true x y t h = in_left x y t h
in_first false x y t h = h

pub subset_from : (x y : ℕ) → bit_or x y ≡ y → IsSubset x y
subset_from x y e t h = omega (arith, in_left x y t h, ap (λ z. bit_at z t) e)

or_case : (x y z t : ℕ) → IsSubset y z → bit_at (bit_or x y) t ≡ 1 → bit_at (bit_or x z) t ≡ 1
or_case x y z t s h = elim (cases_eq (bit_at y t) 1) [
  | inl i ↦ in_right x z t (s t i)
  | inr n ↦ in_left x z t (omega (arith, bit_at_or x y t, bit_at-lt x t, bit_at-lt y t))
]

pub subset_or : (b : Bool) (x y z : ℕ) → IsSubset y z → IsSubset (cond b (bit_or x y) x) (cond b (bit_or x z) x)
subset_or true x y z s t h = or_case x y z t s h
subset_or false x y z s t h = h

-- no kind is in both of two sets that share none
pub disjoint : (x y t : ℕ) → bit_and x y ≡ 0 → bit_at x t ≡ 1 → bit_at y t ≡ 1 → ⊥
disjoint x y t e h i =
    omega (arith, bit_at_and x y t, ap (λ z. bit_at z t) e, bit_at-zero t)

-- in the second, where that is added
pub in_both : (b : Bool) → b ≡ true → (x y t : ℕ) → bit_at y t ≡ 1 → bit_at (cond b (bit_or x y) x) t ≡ 1
in_both true e x y t h = in_right x y t h
in_both false e x y t h = absurd (cc)
