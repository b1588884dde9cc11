-- The bytes of an area that have cells, and cells in a row that are bytes.
use Rattle.std.specs.Prelude.{◌≡◌, ◌<◌, ℕ, ◌+◌, List}
use Rattle.pv_word.specs.declared.types.Ty.TheVariants.{Byte}
use Rattle.pv_tree.specs.declared.expr.Area.{Area}
use Rattle.pv_tree.specs.declared.expr.Area.TheVariants.{I, Q, M}
use Rattle.pv_mean.specs.AreaBytes.{Bytes}
use Rattle.pv_mean.specs.Sources.{Source}
use Rattle.pv_mean.specs.Frames.{visible_cells, type_of_visible}

-- so many visible cells from one on
abbrev pub AreBytes : Source → ℕ → ℕ → Type 0
AreBytes source n count =
    (k : ℕ) → k < count → type_of_visible (visible_cells source.cells) (n + k) ≡ Byte

-- the numbers of an area's bytes
abbrev pub numbers_in : Bytes → Area → List ℕ
numbers_in bytes I = bytes.inputs
numbers_in bytes Q = bytes.outputs
numbers_in bytes M = bytes.flags
