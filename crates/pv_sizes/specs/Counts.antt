-- Numbers of edges as the code has them: exact up to the greatest number that a block may have, and one more for any greater number.
use Rattle.std.specs.Prelude.{ℕ, min}
use Rattle.pv_sizes.specs.declared.count.TheConstants.{BEYOND}

abbrev pub capped : ℕ → ℕ
capped n = min n BEYOND
