-- What texts have and no rule says.
use Rattle.std.specs.Prelude.{◌≡◌, List, Contains, Some, slice_get}
use Rattle.pv_tree.specs.declared.kept.Project.{Project}
use Rattle.pv_tree.specs.Lexemes.{Lexeme}
use Rattle.pv_tree.specs.Tree.{InstrTree, BlockTree}
use Rattle.pv_tree.specs.Scopes.{ProjectTree}
use Rattle.pv_tree.specs.Instructions.{SpellsInstr}
use Rattle.pv_tree.specs.Parts.{instructions_of}
use Rattle.pv_mean.specs.declared.view.CaseView.{CaseView}
use Rattle.pv_mean.specs.ProjectSizes.{project_tree}
use Rattle.pv_mean.specs.Sources.{Source}
use Rattle.pv_cells.specs.declared.project_table.Table.{Table}
use Rattle.pv_cells.specs.Named.{wide_bytes}
use Rattle.pv_laws_room.specs.Reached.{AreShort, IsRun}

-- each address is one of a bit, a byte, a word or a double word, and tokens spell each instruction
pub record IsSpelled (project : ProjectTree) (block : BlockTree) : Type 0 where
  pub short : AreShort project block
  pub spelled : (i : InstrTree) → Contains (instructions_of block.body) i
      → (tokens : List Lexeme) × SpellsInstr i tokens

-- so it is of each block
abbrev pub AreSpelled : ProjectTree → Type 0
AreSpelled project = (b : BlockTree) → Contains project.blocks b → IsSpelled project b

-- the project, entered at the view's block, with the bytes of this table, is that of a source that is run, and tokens spell its blocks
pub record IsRunWith (project : Project) (view : CaseView) (table : Table) : Type 0 where
  pub source : Source
  pub same : project_tree project ≡ source.project
  pub entry : slice_get source.project.blocks view.entry ≡ Some source.entry
  pub bytes : wide_bytes table.bytes ≡ source.bytes
  pub run : IsRun source
  pub spelled : AreSpelled source.project
