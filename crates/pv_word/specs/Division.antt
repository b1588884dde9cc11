-- Division of whole numbers that truncates toward zero.
use Rattle.std.specs.Prelude.{◌≡◌, ◌<◌, ℤ, pos, ◌+ℤ◌, ◌*ℤ◌, ◌≤ℤ◌, unsigned_abs}
pub use Rattle.std.specs.Prelude.{int_div as quotient, int_rem as remainder}

-- q and r are the quotient and the remainder of a by b: the remainder is smaller than b, without regard to sign, and is 0 or
-- has the sign of a
pub record IsDivision (a b q r : ℤ) : Type 0 where
  pub equation : q *ℤ b +ℤ r ≡ a
  pub smaller : unsigned_abs r < unsigned_abs b
  pub not_below : pos 0 ≤ℤ a → pos 0 ≤ℤ r
  pub not_above : a ≤ℤ pos 0 → r ≤ℤ pos 0
