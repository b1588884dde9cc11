-- What a case binds lies in the types of the cells that it binds.
use Rattle.std.specs.Prelude.{ℕ, ℤ, List, IfSome, slice_get}
use Rattle.std.specs.List.{AllByRecursion}
use Rattle.pv_word.specs.Types.{InRange}
use Rattle.pv_mean.specs.declared.cell.Cell.{Cell}
use Rattle.pv_mean.specs.Cells.{View}

-- the value is one of the type of the cell of this number, where there is one
abbrev pub IsInType : List Cell → ℕ × ℤ → Type 0
IsInType cells b = IfSome (slice_get cells b.0) (λ c. InRange c.ty b.1)

-- each cell that is bound is bound to a value of its type
abbrev pub BindsInTypes : List Cell → View → Type 0
BindsInTypes cells view = AllByRecursion (IsInType cells) view.bound
