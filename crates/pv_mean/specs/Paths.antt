-- Cells by their paths.
use Rattle.std.specs.Prelude.{ℕ, ◌+◌, List, [], ◌∷◌, Bool, bytes_eq, if◌then◌else◌, Option, Some, None}
use Rattle.std.specs.Str.{str_to_ascii_lowercase}
use Rattle.pv_mean.specs.declared.cell.Cell.{Cell}

-- the cell has this path, where the case of ASCII letters plays no part
abbrev pub has_path : List ℕ → Cell → Bool
has_path path c = bytes_eq (str_to_ascii_lowercase c.path) (str_to_ascii_lowercase path)

-- how many numbers have 32 bits
abbrev pub most_numbers : ℕ
most_numbers = 4294967296

-- the number of the first cell that has it, where the first cell's is n
abbrev pub number_from : ℕ → List Cell → List ℕ → Option ℕ
number_from n [] path = None
number_from n (c ∷ cs) path = if has_path path c then Some n else number_from (n + 1) cs path

abbrev pub number_of_path : List Cell → List ℕ → Option ℕ
number_of_path cells path = number_from 0 cells path
