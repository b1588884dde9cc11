-- Data blocks as variables, and where a start value goes, up to the numbers that cells of a table may have.
use Rattle.std.specs.Prelude.{◌≡◌, Option, None, option_map}
use Rattle.pv_types.specs.declared.declaration.Section.TheVariants.{Static}
use Rattle.pv_types.specs.Tree.{VarTree, var}
use Rattle.pv_tree.specs.Tree.{BlockTree}
use Rattle.pv_mean.specs.Layout.{Laid, data_type}
use Rattle.pv_mean.specs.LaidOut.{capped_laid}

-- the variable that a data block is
abbrev pub data_var : BlockTree → VarTree
data_var b = var b.name Static (data_type b) None b.place

abbrev pub same_laid : Option Laid → Option Laid → Type 0
same_laid a b = option_map capped_laid a ≡ option_map capped_laid b
