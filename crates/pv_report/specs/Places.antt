-- Places as reports print them, FILE:LINE:COLUMN, by where the lines of each file begin. Lines and columns count from 1, and a column is
-- a byte.
use Rattle.std.specs.Prelude.{ℕ, ◌+◌, ◌-◌, ◌==◌, nat_le, List, [], ◌∷◌, ◌++◌, filter, length, codes, decimal, true, false, Option, Some, None, slice_get, string_bytes}
use Rattle.pv_place.specs.declared.place.Place.{Place}
use Rattle.pv_report.specs.declared.places.FileLines.{FileLines}

-- a file's name, and how many bytes stand before each of its lines
pub record Lines : Type 0 where
  pub file : List ℕ
  pub starts : List ℕ

abbrev pub file_lines : FileLines → Lines
file_lines lines = record { file = string_bytes lines.file; starts = lines.starts.items }

-- ---- where lines begin, by a file's bytes

-- behind each line feed of what stands behind so many bytes
abbrev pub starts_behind : ℕ → List ℕ → List ℕ
starts_behind before [] = []
starts_behind before (byte ∷ more) = elim (byte == 10) [
  | true ↦ (before + 1) ∷ starts_behind (before + 1) more
  | false ↦ starts_behind (before + 1) more
]

abbrev pub line_starts : List ℕ → List ℕ
line_starts bytes = 0 ∷ starts_behind 0 bytes

-- ---- the text of a place

-- the lines that begin no later than there
abbrev pub begun_at : ℕ → List ℕ → List ℕ
begun_at offset starts = filter (λ start. nat_le start offset) starts

-- where the last line begins
abbrev pub last_of : List ℕ → ℕ
last_of [] = 0
last_of (start ∷ []) = start
last_of (start ∷ next ∷ more) = last_of (next ∷ more)

-- as it is printed
abbrev pub printed : List ℕ → ℕ → ℕ → List ℕ
printed file line column =
    file ++ (codes ":" ++ (decimal line ++ (codes ":" ++ decimal column)))

-- where something stands that begins behind so many bytes of a file
abbrev pub position_text : Lines → ℕ → List ℕ
position_text lines offset = printed lines.file (length (begun_at offset lines.starts))
    (offset - last_of (begun_at offset lines.starts) + 1)

abbrev pub position_where : Option Lines → ℕ → List ℕ
position_where None offset = []
position_where (Some lines) offset = position_text lines offset

-- where a place lies in these files, whose numbers are those of places
abbrev pub place_text : List Lines → Place → List ℕ
place_text files place = position_where (slice_get files place.file) place.offset
