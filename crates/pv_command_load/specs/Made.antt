-- What the stages make, by the code's types, against what is given.
use Rattle.std.specs.Prelude.{◌≡◌, ℕ, List, map, slice_get, Some, string_bytes, option_map}
use Rattle.pv_word.specs.declared.types.Ty.{Ty}
use Rattle.pv_types.specs.declared.name.Name.{Name}
use Rattle.pv_tree.specs.declared.expr.Operand.{Operand}
use Rattle.pv_tree.specs.declared.block.Block.{Block}
use Rattle.pv_tree.specs.declared.kept.Project.{Project}
use Rattle.pv_tree.specs.View.{block_tree}
use Rattle.pv_tree.specs.Rules.{KeepsRules}
use Rattle.pv_mean.specs.declared.view.CaseView.{CaseView}
use Rattle.pv_mean.specs.AreaBytes.{bytes_of}
use Rattle.pv_mean.specs.Cells.{View}
use Rattle.pv_mean.specs.ProjectSizes.{project_tree}
use Rattle.pv_mean.specs.Sources.{Source, source_of}
use Rattle.pv_pattern.specs.declared.pattern.Pattern.{Pattern as Found}
use Rattle.pv_pattern.specs.Patterns.{Pattern}
use Rattle.pv_pattern.specs.Found.{IsPatternOf}
use Rattle.pv_cells.specs.declared.project_table.Table.{Table}
use Rattle.pv_cells.specs.Named.{wide_bytes}
use Rattle.pv_case.specs.declared.case.Case.{Case}
use Rattle.pv_case.specs.declared.case.Symbol.{Symbol}
use Rattle.pv_case.specs.Cases.{CaseData, bound_data, symbol_data}
use Rattle.pv_command_load.specs.declared.position.SourceText.{SourceText}
use Rattle.pv_command_load.specs.declared.subject.Subject.{Subject}
use Rattle.pv_command_load.specs.Subjects.{Given, texts_of, blocks_of, project_of, Entered, HasTable, cells_of, HasView, HasPattern, SubjectData, source_in}
use Rattle.pv_command_load.specs.Stops.{text_tree}

-- ---- the case and the project

-- a case says this, but for its sources and symbols
pub record IsCase (case : Case) (d : CaseData) : Type 0 where
  pub name : string_bytes case.name ≡ d.name
  pub entry : string_bytes case.entry ≡ d.entry
  pub params : map string_bytes case.params.items ≡ d.params
  pub bind : map bound_data case.bind.items ≡ d.bind
  pub kind : case.pattern.kind ≡ d.kind
  pub expressions : map string_bytes case.pattern.expressions.items ≡ d.expressions
  pub limits : case.limits ≡ d.limits
  pub reductions : case.reductions ≡ d.reductions
  pub certificate : option_map string_bytes case.certificate ≡ d.certificate

-- these texts, blocks and symbols are those that are given
pub record AreGiven (texts : List SourceText) (blocks : List Block) (symbols : List Symbol) (given : Given) : Type 0 where
  pub of_texts : map text_tree texts ≡ texts_of given
  pub of_blocks : map block_tree blocks ≡ blocks_of given
  pub of_symbols : map symbol_data symbols ≡ given.case.symbols

-- a symbol as a project has it
abbrev pub in_project : Symbol → Name × Operand × Ty
in_project s = (s.name, s.at, s.ty)

-- the project of what is given, which keeps the rules
pub record IsProjectOf (given : Given) (project : Project) : Type 0 where
  pub keeps : KeepsRules (project_of given)
  pub same : project_tree project ≡ project_of given

-- ---- the cells

-- the block of this number is entered, and the table has its cells, and the bytes of areas that have cells
pub record IsTableOf (given : Given) (entered : Entered) (entry : ℕ) (table : Table) : Type 0 where
  pub has : HasTable given entered
  pub is : slice_get (blocks_of given) entry ≡ Some entered.block
  pub cells : table.cells.items ≡ cells_of given entered
  pub bytes : wide_bytes table.bytes ≡ bytes_of (project_of given) entered.operands

-- ---- the parameters and the requirement

abbrev pub view_tree : CaseView → View
view_tree view = record { params = view.params.items; bound = view.bound.items }

-- what is run where the case says this of the cells
abbrev pub source_with : Given → Entered → View → Source
source_with given entered view =
    source_of (project_of given) entered.block entered.operands view given.case.limits.loop_bound

-- the case says this of the cells, and its requirement is this pattern, which stands there with its names found
pub record IsFit (given : Given) (entered : Entered) (entry : ℕ) (view : CaseView) (found : Found) (p : Pattern) : Type 0 where
  pub is_entry : view.entry ≡ entry
  pub bound : view.loop_bound ≡ given.case.limits.loop_bound
  pub viewed : HasView given entered (view_tree view)
  pub pattern : HasPattern given entered p
  pub is_pattern : IsPatternOf (source_with given entered (view_tree view)) found p

-- ---- all of it

-- it is what a command works on that is this
pub record IsSubject (s : Subject) (d : SubjectData) : Type 0 where
  pub case : IsCase s.case d.given.case
  pub texts : map text_tree s.sources.items ≡ texts_of d.given
  pub project : project_tree s.project ≡ project_of d.given
  pub entered : slice_get (blocks_of d.given) s.view.entry ≡ Some d.entered.block
  pub bound : s.view.loop_bound ≡ d.given.case.limits.loop_bound
  pub view : view_tree s.view ≡ d.view
  pub bytes : wide_bytes s.table.bytes ≡ (source_in d).bytes
  pub cells : s.table.cells.items ≡ (source_in d).cells
  pub pattern : IsPatternOf (source_in d) s.pattern d.pattern
