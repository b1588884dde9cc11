-- Numbers of 32 bits: exact up to the greatest, which stands for all above it.
use Rattle.std.specs.Prelude.{ℕ, min}
use Rattle.pv_call_terms.specs.declared.numbers.TheConstants.{MOST}

abbrev pub narrow : ℕ → ℕ
narrow n = min n MOST
