-- Places as they are printed, FILE:LINE:COLUMN, by the bytes of a source. Lines and columns count from 1. A line ends with a line
-- feed alone, and a column is a byte.
use Rattle.std.specs.Prelude.{◌≡◌, ℕ, ◌+◌, ◌==◌, ◌≤◌, List, [], ◌++◌, length, take, count_by, codes, decimal, Bool, not, Option, Some, None, IsSomeAnd, slice_get}
use Rattle.std.specs.List.{suffix_len, slice_split, sum_by}
use Rattle.pv_place.specs.declared.place.Place.{Place}

-- a source: its file's name, and the bytes that the file holds
pub record FileText : Type 0 where
  pub file : List ℕ
  pub bytes : List ℕ

abbrev pub is_feed : ℕ → Bool
is_feed byte = byte == 10

-- the line and the column of what stands behind these bytes
abbrev pub line_behind : List ℕ → ℕ
line_behind before = count_by is_feed before + 1

abbrev pub column_behind : List ℕ → ℕ
column_behind before = suffix_len (λ byte. not (is_feed byte)) before + 1

-- as it is printed
abbrev pub printed : List ℕ → ℕ → ℕ → List ℕ
printed file line column =
    file ++ (codes ":" ++ (decimal line ++ (codes ":" ++ decimal column)))

-- where something stands in a source that begins behind so many bytes
abbrev pub position_text : FileText → ℕ → List ℕ
position_text text offset =
    printed text.file (line_behind (take offset text.bytes)) (column_behind (take offset text.bytes))

abbrev pub position_where : Option FileText → ℕ → List ℕ
position_where None offset = []
position_where (Some text) offset = position_text text offset

-- where a place lies in these sources, whose numbers are those of its files
abbrev pub place_text : List FileText → Place → List ℕ
place_text texts place = position_where (slice_get texts place.file) place.offset

-- it lies in one of them: its file is the number of one, and no more bytes stand before it than that has
abbrev pub LiesAmong : List FileText → Place → Type 0
LiesAmong texts place =
    IsSomeAnd (slice_get texts place.file) (λ text. place.offset ≤ length text.bytes)

-- ---- lines and columns within a source

-- its lines, without their line feeds; behind a last line feed stands an empty one
abbrev pub lines_in : List ℕ → List (List ℕ)
lines_in bytes = slice_split is_feed bytes

-- there is such a line and such a column of it, the one behind its last byte at most, and behind so many bytes stands no other: so many
-- whole lines with their line feeds are before it, and so many bytes of its own line
pub record IsLineAndColumn (bytes : List ℕ) (offset line column : ℕ) : Type 0 where
  pub lines : ℕ
  pub of_line : ℕ
  pub its_line : List ℕ
  pub is_line : slice_get (lines_in bytes) lines ≡ Some its_line
  pub within : of_line ≤ length its_line
  pub is_offset : offset ≡ sum_by (λ l. length l + 1) (take lines (lines_in bytes)) + of_line
  pub line_is : line ≡ lines + 1
  pub column_is : column ≡ of_line + 1
