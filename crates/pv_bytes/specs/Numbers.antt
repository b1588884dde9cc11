-- Numbers as marks in a table.
use Rattle.std.specs.Prelude.{ℕ, ◌+◌, List, [], ◌∷◌, Bool, false, if◌then◌else◌, slice_index_or}

-- the mark of a number; what lies behind the table has none
abbrev pub flag_at : List Bool → ℕ → Bool
flag_at flags n = slice_index_or flags n false

-- the marked numbers, where the first mark is that of n
abbrev pub numbers_from : ℕ → List Bool → List ℕ
numbers_from n [] = []
numbers_from n (flag ∷ more) =
    if flag then n ∷ numbers_from (n + 1) more else numbers_from (n + 1) more
