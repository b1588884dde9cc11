-- Numbers as the code has them: exact up to a greatest one, which stands for all above it.
use Rattle.std.specs.Prelude.{ℕ, ◌+◌, List, min, slice_index_or, slice_set}
use Rattle.pv_unroll.specs.declared.numbers.TheConstants.{MOST}

abbrev pub capped : ℕ → ℕ
capped n = min n MOST

-- one more at this place, if there is one
abbrev pub raised : List ℕ → ℕ → List ℕ
raised numbers i = slice_set numbers i (capped (slice_index_or numbers i 0 + 1))
