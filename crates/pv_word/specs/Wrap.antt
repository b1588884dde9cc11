-- Arithmetic modulo a power of 2: the number of w bits that is left of a whole number.
use Rattle.std.specs.Prelude.{◌≡◌, ℕ, ◌*◌, ◌^◌, Bool, ℤ, pos, ◌+ℤ◌, ◌-ℤ◌, unsigned_abs}
use Rattle.std.specs.Int.{int_rem_euclid}
use Rattle.pv_word.specs.Range.{least_at, IsInRange}

-- a and b are congruent modulo m: with so many times m added to each, they are equal
pub record IsCongruent (m : ℕ) (a b : ℤ) : Type 0 where
  pub left : ℕ
  pub right : ℕ
  pub equal : a +ℤ pos (left * m) ≡ b +ℤ pos (right * m)

-- r is the number of w bits that is congruent to n modulo 2 to the power of w
pub record IsWrap (w : ℕ) (signed : Bool) (n r : ℤ) : Type 0 where
  pub in_range : IsInRange w signed r
  pub congruent : IsCongruent (2 ^ w) r n

-- what is left of z when m is taken away or added until it lies from 0 to m - 1
abbrev pub residue : ℕ → ℤ → ℕ
residue m z = unsigned_abs (int_rem_euclid z (pos m))

-- the number of w bits that is left of n: it lies as far above the least one as n does, modulo 2 to the power of w
unfoldable pub wrap_at : ℕ → Bool → ℤ → ℤ
wrap_at w signed n = least_at w signed +ℤ pos (residue (2 ^ w) (n -ℤ least_at w signed))
