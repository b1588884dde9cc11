-- Lists of numbers.
use Rattle.std.specs.Prelude.{ℕ, ◌+◌, List, slice_index_or, slice_set}

-- one more at an index, if there is one
abbrev pub raised : List ℕ → ℕ → List ℕ
raised numbers index = slice_set numbers index (slice_index_or numbers index 0 + 1)
