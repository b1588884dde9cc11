-- When the cells of a frame lie in their types, where a block at work has its cells, and which types spots have.
use Rattle.std.specs.Prelude.{◌≡◌, ℕ, ℤ, List, ◌++◌, map, length, true, is_some, Some, Contains, slice_get}
use Rattle.std.specs.List.{AllByRecursion}
use Rattle.pv_word.specs.declared.types.Ty.{Ty}
use Rattle.pv_word.specs.declared.types.Ty.TheVariants.{Bool}
use Rattle.pv_word.specs.Types.{InRange, width_of}
use Rattle.pv_place.specs.Ranges.{AreWithin}
use Rattle.pv_tree.specs.declared.expr.Root.TheVariants.{Local, Named, Area}
use Rattle.pv_tree.specs.Tree.{OperandTree, operand}
use Rattle.pv_tree.specs.Scopes.{ProjectTree, is_fb, is_fc}
use Rattle.pv_tree.specs.Rules.{KeepsRules}
use Rattle.pv_mean.specs.declared.cell.Cell.{Cell}
use Rattle.pv_mean.specs.Cells.{View, with_view, table_of, entry_cells, own_brief_cells}
use Rattle.pv_mean.specs.Sources.{Source}
use Rattle.pv_mean.specs.Frames.{Frame, visible_cells, visible_ranges, brief_value}
use Rattle.pv_mean.specs.Spots.{Spot, visible, brief, bit, bytes, fixed, nowhere}
use Rattle.pv_mean.specs.Activations.{Activation}

abbrev pub types_of_cells : List Cell → List Ty
types_of_cells cells = map (λ c. c.ty) cells

-- the types of the visible cells, and of a block's own brief ones
abbrev pub visible_types : Source → List Ty
visible_types source = types_of_cells (visible_cells source.cells)

abbrev pub brief_types : Source → Activation → List Ty
brief_types source act = types_of_cells (own_brief_cells source.project act.block)

-- these types stand among all, from this number on
pub record StandAt (types all : List Ty) (first : ℕ) : Type 0 where
  pub front : List Ty
  pub back : List Ty
  pub is : all ≡ front ++ (types ++ back)
  pub at : length front ≡ first

-- the source's cells are those of its table, with what a case says of them
abbrev pub HasTable : Source → Type 0
HasTable source =
    (view : View)
    × (source.cells ≡ with_view view (table_of source.project source.entry source.bytes))

-- a block of the project at work; a function block has an instance, whose cells stand from the first one on
pub record IsAtWork (source : Source) (act : Activation) : Type 0 where
  pub block : Contains source.project.blocks act.block
  pub instance : is_fb act.block.kind ≡ true
      → StandAt (types_of_cells (entry_cells source.project act.block)) (visible_types source) act.first

-- each cell of its frame has a value of its type; a brief one may have none
pub record CellsLie (source : Source) (act : Activation) (frame : Frame) : Type 0 where
  pub visible : AreWithin (visible_ranges source.cells) frame.visible
  pub brief : (n : ℕ) (ty : Ty) (v : ℤ) → slice_get (brief_types source act) n ≡ Some ty
      → brief_value frame n ≡ Some v → InRange ty v

-- the spot is one of a value of the type
abbrev pub SpotHas : Source → Activation → Ty → Spot → Type 0
SpotHas source act ty (visible n) = slice_get (visible_types source) n ≡ Some ty
SpotHas source act ty (brief own n) = (own ≡ ty) × (slice_get (brief_types source act) n ≡ Some ty)
SpotHas source act ty (bit n b) = ty ≡ Bool
SpotHas source act ty (bytes own n count) = own ≡ ty
SpotHas source act ty (fixed v) = InRange ty v
SpotHas source act ty nowhere = ⊥

-- a symbol of the case is an address as wide as its type
abbrev pub SuitsAddress : Ty → OperandTree → Type 0
SuitsAddress ty (operand (Area area bits byte n) more place) = bits ≡ width_of ty
SuitsAddress ty (operand (Local name hash at) more place) = ⊥
SuitsAddress ty (operand (Named name) more place) = ⊥

abbrev pub SymbolsSuit : ProjectTree → Type 0
SymbolsSuit project = AllByRecursion (λ s. SuitsAddress s.ty s.at) project.symbols

-- only functions have a value
abbrev pub ValuesAreFunctions : ProjectTree → Type 0
ValuesAreFunctions project =
    AllByRecursion (λ b. is_some b.value ≡ true → is_fc b.kind ≡ true) project.blocks

-- what a block works on lies in its types: the project keeps the rules, and the block is at work in a frame whose cells lie in theirs
pub record IsTyped (source : Source) (act : Activation) (frame : Frame) : Type 0 where
  pub rules : KeepsRules source.project
  pub symbols : SymbolsSuit source.project
  pub table : HasTable source
  pub work : IsAtWork source act
  pub cells : CellsLie source act frame
