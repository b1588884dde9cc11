-- Groups of cells whose ranges are listed. Private clauses cite this.
use Rattle.std.specs.Prelude.{Bool, List, filter, map}
use Rattle.pv_place.specs.Roles.{is_input, is_stored}
use Rattle.pv_mean.specs.declared.cell.Cell.{Cell}
use Rattle.pv_mean.specs.Frames.{is_free, range_of_cell}
use Rattle.pv_valid.specs.Cases.{Bounds}
use Rattle.pv_lift.specs.Facts.{bounds_of}
use Rattle.pv_lift.specs.declared.facts.Group.{Group}
use Rattle.pv_lift.specs.declared.facts.Group.TheVariants.{Free, Input, Stored}

-- whether the cell is one of the group
abbrev pub has : Group → Cell → Bool
has Free c = is_free c.role c.bound
has Input c = is_input c.role
has Stored c = is_stored c.role

abbrev pub bounds_in : Group → List Cell → List Bounds
bounds_in group cells = map bounds_of (map range_of_cell (filter (has group) cells))
