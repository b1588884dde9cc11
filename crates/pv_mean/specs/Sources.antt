-- What is run: a project, the block of it that is entered, the area bytes that have cells, the cell table, and the bound on the
-- turns of a loop. Every definition of meaning takes it.
use Rattle.std.specs.Prelude.{ℕ, ◌+◌, List}
use Rattle.pv_tree.specs.declared.expr.Area.{Area}
use Rattle.pv_tree.specs.Tree.{OperandTree, BlockTree}
use Rattle.pv_tree.specs.Scopes.{ProjectTree}
use Rattle.pv_mean.specs.declared.cell.Cell.{Cell}
use Rattle.pv_mean.specs.Layout.{entry_size, data_first, data_size}
use Rattle.pv_mean.specs.AreaBytes.{Bytes, bytes_of, place_of_byte}
use Rattle.pv_mean.specs.Cells.{View, table_of, with_view}

pub record Source : Type 0 where
  pub project : ProjectTree
  -- the block that is entered, a function block or an OB
  pub entry : BlockTree
  -- the area bytes that have cells
  pub bytes : Bytes
  pub cells : List Cell
  -- the most turns that one entry into a loop may take
  pub bound : ℕ

-- the source of a project that is entered at this block, where patterns name these operands, a case says this of its cells, and
-- one entry into a loop may take so many turns
abbrev pub source_of : ProjectTree → BlockTree → List OperandTree → View → ℕ → Source
source_of project entry patterns view bound = record {
  project = project;
  entry = entry;
  bytes = bytes_of project patterns;
  cells = with_view view (table_of project entry (bytes_of project patterns));
  bound = bound;
}

-- the number of the first cell of the data block of this key: data blocks lie behind the entered block's cells
abbrev pub data_block_first : Source → List ℕ → ℕ
data_block_first source key =
    data_first source.project source.project.blocks key (entry_size source.project source.entry)

-- the number of the cell of an area's byte: bytes lie behind the data blocks
abbrev pub byte_number : Source → Area → ℕ → ℕ
byte_number source area n =
    entry_size source.project source.entry + data_size source.project source.project.blocks
    + place_of_byte source.bytes area n
