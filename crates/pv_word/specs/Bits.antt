-- The bits of a number of w bits, signed or not: those of its pattern, the least bit first.
use Rattle.std.specs.Prelude.{ℕ, ◌^◌, ℤ}
use Rattle.std.specs.Int.{bit_at}
use Rattle.pv_word.specs.Wrap.{residue}

-- z modulo 2 to the power of w, from 0 to 2 to the power of w, less 1
unfoldable pub pattern_at : ℕ → ℤ → ℕ
pattern_at w z = residue (2 ^ w) z

-- bit i of the pattern, 0 or 1
abbrev pub pattern_bit_at : ℕ → ℤ → ℕ → ℕ
pattern_bit_at w z i = bit_at (pattern_at w z) i
