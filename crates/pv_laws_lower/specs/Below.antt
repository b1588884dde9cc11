-- The laws of the crates below on which those of expressions and operands stand: what terms are worth, which types parts have, where names
-- begin, what reads and writes do, and how the table is laid out.
use Rattle.std.specs.Prelude.{◌≡◌, ◌+◌, length, flat_map}
use Rattle.pv_tree.specs.Tree.{BlockTree}
use Rattle.pv_tree.specs.Scopes.{ProjectTree}
use Rattle.pv_tree.specs.RuleLaws.{PartsHaveTypes}
use Rattle.pv_mean.specs.Layout.{entry_size, data_size}
use Rattle.pv_mean.specs.AreaBytes.{Bytes}
use Rattle.pv_mean.specs.Cells.{entry_cells, data_cells, area_cells, visible_part, table_of}
use Rattle.pv_mean.specs.Frames.{visible_cells}
use Rattle.pv_terms.specs.Correct.{ConversionsHold, UnariesHold, BinariesHold, FunctionsHold, IndexesHold}
use Rattle.pv_variables.specs.Correct.{NamesArePlaced, FieldsArePlaced, ElementsArePlaced, BriefCellsAreApart}
use Rattle.pv_access.specs.Correct.{ReadsHold, WritesHold, ChoicesHold}

-- what terms are worth
pub record TermLaws : Type 0 where
  pub conversions : ConversionsHold
  pub unaries : UnariesHold
  pub binaries : BinariesHold
  pub functions : FunctionsHold
  pub indexes : IndexesHold

-- how many cells the parts of the table have, and that they are its visible ones
pub record TableLaws : Type 0 where
  pub entry : (project : ProjectTree) (block : BlockTree) → length (entry_cells project block) ≡ entry_size project block
  pub data_blocks : (project : ProjectTree) → length (flat_map (data_cells project) project.blocks) ≡ data_size project project.blocks
  pub areas : (bytes : Bytes) → length (area_cells bytes) ≡ length bytes.inputs + length bytes.outputs + length bytes.flags
  pub shows : (project : ProjectTree) (block : BlockTree) (bytes : Bytes)
      → visible_cells (table_of project block bytes) ≡ visible_part project block bytes

pub record BelowLaws : Type 0 where
  pub terms : TermLaws
  pub types : PartsHaveTypes
  pub names : NamesArePlaced
  pub fields : FieldsArePlaced
  pub elements : ElementsArePlaced
  pub apart : BriefCellsAreApart
  pub reads : ReadsHold
  pub writes : WritesHold
  pub choices : ChoicesHold
  pub table : TableLaws
