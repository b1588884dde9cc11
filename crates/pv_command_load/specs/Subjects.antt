-- What a case and its sources say together: the project, the block that is entered, the cells, the parameters, and the requirement;
-- and why they are refused. All of it hangs on the case and the sources' texts alone.
use Rattle.std.specs.Prelude.{◌≡◌, ◌<◌, ◌≤◌, ℕ, List, length, map, flat_map, slice_get, Some}
use Rattle.pv_place.specs.declared.place.Place.{Place}
use Rattle.pv_types.specs.declared.layout.TheConstants.{MAX_LEAVES}
use Rattle.pv_tree.specs.Tree.{OperandTree, BlockTree}
use Rattle.pv_tree.specs.Scopes.{SymbolTree, ProjectTree, Scope}
use Rattle.pv_tree.specs.Rules.{Rule}
use Rattle.pv_tree.specs.Least.{IsLeastFault}
use Rattle.pv_mean.specs.declared.cell.Cell.{Cell}
use Rattle.pv_mean.specs.AreaBytes.{bytes_of}
use Rattle.pv_mean.specs.Cells.{View, table_of}
use Rattle.pv_mean.specs.Sources.{Source, source_of}
use Rattle.pv_pattern.specs.Patterns.{Pattern}
use Rattle.pv_pattern.specs.Texts as texts
use Rattle.pv_pattern.specs.Texts.{AreNamed, FailsAt}
use Rattle.pv_pattern_read.specs.Kinds.{IsReadPattern}
use Rattle.pv_case.specs.Cases.{CaseData, SymbolData}
use Rattle.pv_case_fit.specs.Entries.{IsEntry}
use Rattle.pv_case_fit.specs.Inputs.{Views, IsStray, IsMisfit}
use Rattle.pv_command_load.specs.Positions.{FileText, place_text, LiesAmong}
use Rattle.pv_command_load.specs.Refusals.{ProjectRefusal, rule, TableRefusal, no_entry, too_many_cells, FitRefusal, not_an_input, bound_range, pattern_text, pattern_rule, brief_cell, not_bool}
use Rattle.pv_command_load.specs.Sources.{ReadSource}

-- ---- the project

-- what is given: a case, and its sources in their order
pub record Given : Type 0 where
  pub case : CaseData
  pub sources : List ReadSource

abbrev pub texts_of : Given → List FileText
texts_of given = map (λ s. s.text) given.sources

abbrev pub blocks_of : Given → List BlockTree
blocks_of given = flat_map (λ s. s.blocks) given.sources

abbrev pub symbol_of : SymbolData → SymbolTree
symbol_of s = record { name = s.name; at = s.at; ty = s.ty }

-- the blocks of all sources, and the case's symbols
abbrev pub project_of : Given → ProjectTree
project_of given = record { blocks = blocks_of given; symbols = map symbol_of given.case.symbols }

-- the first breach of a rule of the language over all sources, which lies in one of them, and what is printed for its place
pub record IsFirstBreach (given : Given) (rule : Rule) (at : List ℕ) : Type 0 where
  pub place : Place
  pub least : IsLeastFault (project_of given) rule place
  pub lies : LiesAmong (texts_of given) place
  pub is_there : at ≡ place_text (texts_of given) place

abbrev pub RefusesProject : Given → ProjectRefusal → Type 0
RefusesProject given (rule r at) = IsFirstBreach given r at

-- ---- the entered block and the cells

-- the block that is entered, and the addresses that the requirement names
pub record Entered : Type 0 where
  pub block : BlockTree
  pub operands : List OperandTree

-- the case's entry names the block, and its requirement these addresses
pub record IsEntered (given : Given) (entered : Entered) : Type 0 where
  pub number : ℕ
  pub entry : IsEntry (blocks_of given) given.case.entry number
  pub is : slice_get (blocks_of given) number ≡ Some entered.block
  pub named : AreNamed given.case.expressions entered.operands

-- the cells, before the case says which are parameters
abbrev pub cells_of : Given → Entered → List Cell
cells_of given entered =
    table_of (project_of given) entered.block (bytes_of (project_of given) entered.operands)

-- and there are no more of them than there may be
pub record HasTable (given : Given) (entered : Entered) : Type 0 where
  pub is_entered : IsEntered given entered
  pub few : length (cells_of given entered) ≤ MAX_LEAVES

abbrev pub RefusesTable : Given → TableRefusal → Type 0
RefusesTable given no_entry = (n : ℕ) → IsEntry (blocks_of given) given.case.entry n → ⊥
RefusesTable given too_many_cells =
    (entered : Entered) × IsEntered given entered × (MAX_LEAVES < length (cells_of given entered))

-- ---- the parameters and the requirement

-- the names of the requirement are those of the entered block
abbrev pub scope_of : Given → Entered → Scope
scope_of given entered = record { project = project_of given; block = entered.block }

-- each path that the case lists is an input's and each bound value fits, and so the case says this of the cells
abbrev pub HasView : Given → Entered → View → Type 0
HasView given entered view =
    Views (cells_of given entered) given.case.params given.case.bind view.params view.bound

-- the texts of the requirement are this pattern
abbrev pub HasPattern : Given → Entered → Pattern → Type 0
HasPattern given entered p =
    IsReadPattern (scope_of given entered) given.case.kind given.case.expressions p

-- the inputs fit, and of the requirement's texts the one of this number, from 0, is the first at fault, in this way
pub record HasPatternFault (given : Given) (entered : Entered) (n : ℕ) (fault : texts.Fault) : Type 0 where
  pub view : View
  pub viewed : HasView given entered view
  pub fails : FailsAt (scope_of given entered) given.case.expressions n fault

abbrev pub RefusesFit : Given → Entered → FitRefusal → Type 0
RefusesFit given entered (not_an_input path) =
    IsStray (cells_of given entered) given.case.params given.case.bind path
RefusesFit given entered (bound_range path) =
    IsMisfit (cells_of given entered) given.case.params given.case.bind path
RefusesFit given entered (pattern_text n) = HasPatternFault given entered n texts.unread
RefusesFit given entered (pattern_rule n) =
    (rule : Rule) × HasPatternFault given entered n (texts.broken rule)
RefusesFit given entered (brief_cell n) = HasPatternFault given entered n texts.brief_cell
RefusesFit given entered (not_bool n) = HasPatternFault given entered n texts.no_bool

-- ---- what a command works on

pub record SubjectData : Type 0 where
  pub given : Given
  pub entered : Entered
  pub view : View
  pub pattern : Pattern

-- what is run
abbrev pub source_in : SubjectData → Source
source_in s =
    source_of (project_of s.given) s.entered.block s.entered.operands s.view s.given.case.limits.loop_bound

-- what the case says of the project
pub record IsFitted (s : SubjectData) : Type 0 where
  pub view : HasView s.given s.entered s.view
  pub pattern : HasPattern s.given s.entered s.pattern
