-- Groups of cells whose values stand in a report's lines. Private clauses cite this.
use Rattle.std.specs.Prelude.{ℕ, List, ◌++◌, codes, decimal, Bool}
use Rattle.pv_place.specs.Roles.{is_input, is_stored}
use Rattle.pv_mean.specs.declared.cell.Cell.{Cell}
use Rattle.pv_mean.specs.Frames.{is_free}
use Rattle.pv_report.specs.declared.group.Group.{Group}
use Rattle.pv_report.specs.declared.group.Group.TheVariants.{Image, Param, Scan}

-- what stands before a path
abbrev pub front_text : Group → List ℕ
front_text Image = codes "image "
front_text Param = codes "param "
front_text (Scan n) = codes "in " ++ (decimal n ++ codes " ")

-- whether the cell is one of the group
abbrev pub has : Group → Cell → Bool
has Image c = is_stored c.role
has Param c = is_free c.role c.bound
has (Scan n) c = is_input c.role
