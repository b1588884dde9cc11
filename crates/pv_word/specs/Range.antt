-- The whole numbers of w bits, from 0 on, or signed in two's complement.
use Rattle.std.specs.Prelude.{ℕ, ◌-◌, ◌^◌, Bool, true, false, ℤ, pos, neg_ℤ, ◌-ℤ◌, ◌≤ℤ◌}

-- the least number of w bits, by the sign
abbrev pub least_at : ℕ → Bool → ℤ
least_at w false = pos 0
least_at w true = neg_ℤ (pos (2 ^ (w - 1)))

-- the greatest number of w bits, by the sign
abbrev pub greatest_at : ℕ → Bool → ℤ
greatest_at w false = pos (2 ^ w) -ℤ pos 1
greatest_at w true = pos (2 ^ (w - 1)) -ℤ pos 1

-- z is a number of w bits
pub record IsInRange (w : ℕ) (signed : Bool) (z : ℤ) : Type 0 where
  pub from : least_at w signed ≤ℤ z
  pub to : z ≤ℤ greatest_at w signed
