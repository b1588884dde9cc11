-- What an operand names, as variables: where it begins, and the indexes that move it among elements.
use Rattle.std.specs.Prelude.{ℕ, List}
use Rattle.pv_word.specs.declared.types.Ty.{Ty}
use Rattle.pv_types.specs.Tree.{TypeTree, plain, array, structure, named, unread}
use Rattle.pv_tree.specs.Tree.{BlockTree}
use Rattle.pv_mean.specs.Sources.{Source}
use Rattle.pv_mean.specs.Spots.{Spot, visible, brief, bit, bytes, fixed, nowhere}
use Rattle.pv_variables.specs.Origins.{Origin, in_instance, in_table, in_activation, at_spot}
use Rattle.pv_variables.specs.Variables.{table_variable, brief_variable}
use Rattle.pv_access.specs.declared.access.Storage.{Storage}
use Rattle.pv_access.specs.declared.access.Storage.TheVariants.{Cell, Brief, Bit, Bytes, Fixed, Nowhere}
use Rattle.pv_access.specs.Accesses.{Move}

-- where it is at the lowest indexes, and its indexes, the outermost first
pub record Access : Type 0 where
  pub origin : Origin
  pub moves : List Move

-- a part of a simple type is a cell; a whole array, structure or instance is none
abbrev pub cell_where : (Ty → ℕ → Storage) → TypeTree → ℕ → Storage
cell_where make (plain ty) n = make ty n
cell_where make (array low high of place) n = Nowhere
cell_where make (structure vars) n = Nowhere
cell_where make (named name place) n = Nowhere
cell_where make unread n = Nowhere

-- no name begins at a visible cell as a spot
abbrev pub storage_at_spot : Source → BlockTree → Spot → Storage
storage_at_spot source block (visible n) = Nowhere
storage_at_spot source block (brief ty j) = Brief ty (brief_variable source block j)
storage_at_spot source block (bit n b) = Bit (table_variable source block n) b
storage_at_spot source block (bytes ty n count) = Bytes ty (table_variable source block n) count
storage_at_spot source block (fixed v) = Fixed v
storage_at_spot source block nowhere = Nowhere

-- the block's first variables are its instance's cells
abbrev pub storage_at : Source → BlockTree → Origin → Storage
storage_at source block (in_instance laid) = cell_where Cell laid.ty laid.first
storage_at source block (in_table laid) = cell_where Cell laid.ty (table_variable source block laid.first)
storage_at source block (in_activation laid) = cell_where Brief laid.ty (brief_variable source block laid.first)
storage_at source block (at_spot spot) = storage_at_spot source block spot
