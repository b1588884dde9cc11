-- Writes to visible cells, by the types of these.
use Rattle.std.specs.Prelude.{◌≡◌, ℕ, zero, suc, ◌+◌, ◌/◌, ◌%◌, ◌^◌, ℤ, pos, List, map, slice_set, slice_index_or}
use Rattle.pv_word.specs.declared.types.Ty.{Ty}
use Rattle.pv_word.specs.declared.types.Ty.TheVariants.{Dint}
use Rattle.pv_word.specs.Types.{wrap_of}
use Rattle.pv_mean.specs.Sources.{Source}
use Rattle.pv_mean.specs.Frames.{visible_cells}

-- the types of a source's visible cells
pub record TypesOf (source : Source) (types : List Ty) : Type 0 where
  pub are : types ≡ map (λ c. c.ty) (visible_cells source.cells)

abbrev pub with_cell : List Ty → List ℤ → ℕ → ℤ → List ℤ
with_cell types visible n v = slice_set visible n (wrap_of (slice_index_or types n Dint) v)

-- the bytes of a number go to as many cells from n on
abbrev pub with_byte_cells : List Ty → List ℤ → ℕ → ℕ → ℕ → List ℤ
with_byte_cells types visible n zero number = visible
with_byte_cells types visible n (suc count) number =
    with_byte_cells types (with_cell types visible n (pos (number / 256 ^ count % 256))) (n + 1)
    count number
