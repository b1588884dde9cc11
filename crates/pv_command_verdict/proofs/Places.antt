-- Sources by where their lines begin, one after another.
use Rattle.std.proofs.Common.{◌≡◌, ℕ, ◌+◌, ◌<◌, List, [], ◌∷◌, ◌++◌, length, drop, map, sym, ◌∙◌, ap, append_assoc}
use Rattle.std.specs.Prelude.{slice_index_or}
use Rattle.std.proofs.lemmas.List.{drop_more, map-append}
use Rattle.pv_report.specs.declared.places.FileLines.{FileLines}
use Rattle.pv_report.specs.Places.{Lines, file_lines}
use Rattle.pv_bool_load.specs.Handed.{SourceText, text_tree}
use Rattle.pv_command_verdict.specs.Verdicts.{text_lines}

abbrev pub lines_by : SourceText → Lines
lines_by t = text_lines (text_tree t)

pub lines_are : (file : List ℕ) (starts : List ℕ) (other : List ℕ) (begun : List ℕ) → file ≡ other → starts ≡ begun
    → ◌≡◌ {A = Lines} (record { file = file; starts = starts }) (record { file = other; starts = begun })
lines_are file starts other begun e f =
    ap (λ (x : List ℕ). record { file = x; starts = starts }) e ∙ ap (λ (x : List ℕ). record { file = other; starts = x }) f

-- one source more
pub places_more : (sources : List SourceText) (t : SourceText) (k : ℕ) (files new : List FileLines) (lines : FileLines) (whole : List Lines)
    → k < length sources → t ≡ slice_index_or sources k t → new ≡ files ++ lines ∷ [] → file_lines lines ≡ lines_by t
    → map file_lines files ++ map lines_by (drop k sources) ≡ whole → map file_lines new ++ map lines_by (drop (k + 1) sources) ≡ whole
places_more sources t k files new lines whole lt is pushed one all =
    let rest = map lines_by (drop (k + 1) sources) in
    let next : drop k sources ≡ t ∷ drop (k + 1) sources = drop_more sources k t lt ∙ ap (λ (d : SourceText). d ∷ drop (k + 1) sources) (sym is) in
    ap (λ (fs : List FileLines). map file_lines fs ++ rest) pushed
    ∙ (ap (λ (ls : List Lines). ls ++ rest) (map-append file_lines files (lines ∷ []))
    ∙ (append_assoc (map file_lines files) (file_lines lines ∷ []) rest
    ∙ (ap (λ (l : Lines). map file_lines files ++ (l ∷ rest)) one
    ∙ (ap (λ (ts : List SourceText). map file_lines files ++ map lines_by ts) (sym next) ∙ all))))
