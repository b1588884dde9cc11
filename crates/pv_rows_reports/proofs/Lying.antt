-- A place whose file is the number of one of some files lies in one of them.
use Rattle.std.proofs.Common.{◌≡◌, ◌<◌, ◌^◌, ℕ, zero, suc, List, [], ◌∷◌, length, map, true, Some, slice_get, refl, arith}
use Rattle.std.specs.Prelude.{nat_lt}
use Rattle.std.proofs.lemmas.Bool.{ltb-true}
use Rattle.pv_place.specs.declared.place.Place.{Place}
use Rattle.pv_report.specs.declared.places.FileLines.{FileLines}
use Rattle.pv_report.specs.Places.{Lines, file_lines}
use Rattle.pv_report.specs.Correct.{LiesIn}

there : (files : List FileLines) (k : ℕ) → k < length files → (lines : Lines) × (slice_get (map file_lines files) k ≡ Some lines)
there [] k lt = absurd (omega (arith, lt))
there (f ∷ files) zero lt = (file_lines f, refl)
there (f ∷ files) (suc k) lt = there files k (omega (arith, lt))

pub lies : (files : List FileLines) (place : Place) → place.offset < 2 ^ 32 → nat_lt place.file (length files) ≡ true
    → LiesIn (map file_lines files) place
lies files place near below =
    let found = there files place.file (ltb-true place.file (length files) below) in
    record { lines = found.0; there = found.1; near = near }
