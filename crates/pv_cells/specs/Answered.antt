-- What a call answers that makes the table of a project.
use Rattle.std.specs.Prelude.{◌≡◌, ◌≤◌, ◌<◌, ℕ, length, Some, Result, Vec, IfOk, OnOk, IsErrOf}
use Rattle.std.specs.declared.alloc.Global.{Global}
use Rattle.std.specs.List.{slice_get}
use Rattle.pv_types.specs.declared.layout.TheConstants.{MAX_LEAVES}
use Rattle.pv_tree.specs.Tree.{BlockTree}
use Rattle.pv_tree.specs.Scopes.{ProjectTree}
use Rattle.pv_mean.specs.declared.cell.Cell.{Cell}
use Rattle.pv_mean.specs.AreaBytes.{Bytes}
use Rattle.pv_mean.specs.Cells.{table_of}
use Rattle.pv_cells.specs.declared.fault.CellFault.{CellFault}
use Rattle.pv_cells.specs.declared.fault.CellFault.TheVariants.{TooLarge}

-- the table of what is entered at the block of this number, unless it has too many cells
pub record Tabled (project : ProjectTree) (number : ℕ) (bytes : Bytes) (result : Result (Vec Cell Global) CellFault) : Type 0 where
  pub cells : (block : BlockTree) → slice_get project.blocks number ≡ Some block
      → IfOk result (λ v. v.items ≡ table_of project block bytes)
  pub within : (block : BlockTree) → slice_get project.blocks number ≡ Some block
      → OnOk result (length (table_of project block bytes) ≤ MAX_LEAVES)
  pub too_large : (block : BlockTree) → slice_get project.blocks number ≡ Some block
      → IsErrOf result TooLarge → MAX_LEAVES < length (table_of project block bytes)
