-- Addresses as texts have them, and what is known of a source that is run.
use Rattle.std.specs.Prelude.{◌≡◌, ◌<◌, ◌⊎◌, ⊤, List, length, Contains}
use Rattle.std.specs.List.{AllByRecursion}
use Rattle.pv_tree.specs.declared.expr.Root.{Root}
use Rattle.pv_tree.specs.declared.expr.Root.TheVariants.{Local, Named, Area}
use Rattle.pv_tree.specs.Tree.{OperandTree, operand, BlockTree}
use Rattle.pv_tree.specs.Scopes.{ProjectTree}
use Rattle.pv_tree.specs.Parts.{Part, parts_of_block, operands_of}
use Rattle.pv_tree.specs.Rules.{KeepsRules}
use Rattle.pv_mean.specs.declared.count.TheConstants.{BEYOND}
use Rattle.pv_mean.specs.Sources.{Source}
use Rattle.pv_resolve.specs.Rooms.{FitsSymbol}
use Rattle.pv_laws_types.specs.Typed.{HasTable, SymbolsSuit, ValuesAreFunctions}

-- an address is one of a bit, a byte, a word or a double word
abbrev pub IsShortRoot : Root → Type 0
IsShortRoot (Local name hash place) = ⊤
IsShortRoot (Named name) = ⊤
IsShortRoot (Area area bits byte bit) =
    (bits ≡ 1) ⊎ ((bits ≡ 8) ⊎ ((bits ≡ 16) ⊎ (bits ≡ 32)))

abbrev pub IsShortOperand : OperandTree → Type 0
IsShortOperand (operand root more place) = IsShortRoot root

-- so is each in a block, as tokens spell them
abbrev pub AreShort : ProjectTree → BlockTree → Type 0
AreShort project block = (o : OperandTree) → Contains (operands_of project block) o → IsShortOperand o

-- the expressions stand in the block
abbrev pub AreParts : ProjectTree → BlockTree → List Part → Type 0
AreParts project block ps = (p : Part) → Contains ps p → Contains (parts_of_block project block) p

-- a project that keeps the rules, with the table of its entered block, of at most as many cells as a table may have
pub record IsRun (source : Source) : Type 0 where
  pub rules : KeepsRules source.project
  pub suits : SymbolsSuit source.project
  pub symbols : AllByRecursion (λ s. FitsSymbol s.at) source.project.symbols
  pub functions : ValuesAreFunctions source.project
  pub table : HasTable source
  pub few : length source.cells < BEYOND
  pub entry : Contains source.project.blocks source.entry
