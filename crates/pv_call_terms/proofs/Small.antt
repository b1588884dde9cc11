-- Numbers of 32 bits, and tests.
use Rattle.std.proofs.Common.{◌≡◌, ℕ, ◌+◌, ◌<◌, ◌≤◌, true, nat_lt, cond, min, arith}
use Rattle.std.proofs.lemmas.Bool.{cond-true, cond-false, ltb-true, lt-ltb, le-ltb}
use Rattle.pv_call_terms.specs.declared.numbers.TheConstants.{MOST}
use Rattle.pv_call_terms.specs.Numbers.{narrow}

narrow_by : (most n : ℕ) → n ≤ most → min n most ≡ n
narrow_by most n le = omega (arith, le)

pub narrow_is : (n : ℕ) → n ≤ MOST → narrow n ≡ n
narrow_is n le = narrow_by MOST n le

under_by : (most n m : ℕ) → n < m → min n most < m
under_by most n m lt = omega (arith, lt)

pub narrow_under : (n m : ℕ) → n < m → narrow n < m
narrow_under n m lt = under_by MOST n m lt

pub below : {X : Type 0} (a b : ℕ) (x y : X) → a < b → cond (nat_lt a b) x y ≡ x
below a b x y lt = cond-true (nat_lt a b) x y (lt-ltb a b lt)

pub beyond : {X : Type 0} (a b : ℕ) (x y : X) → b ≤ a → cond (nat_lt a b) x y ≡ y
beyond a b x y le = cond-false (nat_lt a b) x y (le-ltb a b le)

-- a number that is below one is below a greater one, so much later
pub later : (m a k : ℕ) → nat_lt a k ≡ true → nat_lt (narrow (m + a)) (m + k) ≡ true
later m a k lt = lt-ltb (narrow (m + a)) (m + k) (narrow_under (m + a) (m + k) (more (ltb-true a k lt)))
  where
    more : a < k → m + a < m + k
    more h = omega (arith, h)

pub later_still : (m a k : ℕ) → nat_lt a m ≡ true → nat_lt a (m + k) ≡ true
later_still m a k lt = lt-ltb a (m + k) (more (ltb-true a m lt))
  where
    more : a < m → a < m + k
    more h = omega (arith, h)
