-- What is so of where names begin and of a block's variables: the statements of the laws.
use Rattle.std.specs.Prelude.{◌≡◌, ◌≢◌, ℕ, suc, ◌+◌, ◌*◌, ◌<◌, ℤ, ◌-ℤ◌, int_le, unsigned_abs, List, length, true, false, Some}
use Rattle.pv_place.specs.declared.place.Place.{Place}
use Rattle.pv_tree.specs.declared.expr.Root.{Root}
use Rattle.pv_tree.specs.Tree.{BlockTree}
use Rattle.pv_tree.specs.Scopes.{is_fc}
use Rattle.pv_mean.specs.Layout.{size_in}
use Rattle.pv_mean.specs.Sources.{Source}
use Rattle.pv_mean.specs.Cells.{View, table_of, with_view}
use Rattle.pv_mean.specs.Frames.{visible_len}
use Rattle.pv_mean.specs.Endings.{got}
use Rattle.pv_mean.specs.Activations.{value_number, root_begins}
use Rattle.pv_mean.specs.Values.{field_begins, element_begins}
use Rattle.pv_eval.specs.Means.{activation}
use Rattle.pv_resolve.specs.Begins.{begins_further}
use Rattle.pv_variables.specs.Origins.{Origin, origin_at, placed, field_placed, Elements, elements_placed}
use Rattle.pv_variables.specs.Variables.{is_entry, bound_count, own_first, value_count, brief_variable, bound_variables, variables_of}

-- where a name begins in each activation of the block
abbrev pub NamesArePlaced : Type 0
NamesArePlaced = (source : Source) (block : BlockTree) (first : ℕ) (root : Root)
    → origin_at first (placed source block root) ≡ root_begins source (activation block first) root

-- and each field behind it
abbrev pub FieldsArePlaced : Type 0
FieldsArePlaced = (source : Source) (first : ℕ) (o : Origin) (key : List ℕ)
    → origin_at first (field_placed source.project o key) ≡ field_begins source (origin_at first o) key

-- an element within the bounds begins so many cells behind the first, however far the array was moved
abbrev pub ElementsArePlaced : Type 0
ElementsArePlaced = (source : Source) (first moved : ℕ) (o : Origin) (e : Elements) (i : ℤ) (place : Place)
    → elements_placed o ≡ Some e → int_le e.low i ≡ true → int_le i e.high ≡ true
    → element_begins source (begins_further moved (origin_at first o)) i place
    ≡ got (begins_further (unsigned_abs (i -ℤ e.low) * size_in source.project e.of + moved) (origin_at first e.head))

-- what begins alike in each activation is one
abbrev pub OriginsAreTold : Type 0
OriginsAreTold = (a b : Origin) → ((first : ℕ) → origin_at first a ≡ origin_at first b) → a ≡ b

abbrev pub HasTable : Source → Type 0
HasTable source = (view : View) × (source.cells ≡ with_view view (table_of source.project source.entry source.bytes))

-- where the block is the entry, it is the one block of that name, and a function block or an OB, which has neither parameters that a
-- caller hands over nor a value
abbrev pub IsEntered : Source → BlockTree → Type 0
IsEntered source block =
    is_entry source block ≡ true → (block ≡ source.entry) × (is_fc block.kind ≡ false) × (value_count block ≡ 0)

-- there are as many bound variables as are counted, and those of the entry with the shared ones are the visible cells
pub record BoundAreCounted : Type 0 where
  pub bound : (source : Source) (block : BlockTree) → HasTable source → IsEntered source block
      → length (bound_variables source block) ≡ bound_count source block
  pub cells : (source : Source) → HasTable source → is_fc source.entry.kind ≡ false → value_count source.entry ≡ 0
      → own_first source source.entry ≡ visible_len source.cells

-- two brief cells have variables of their own, each with its 'set'
pub record BriefCellsAreApart : Type 0 where
  pub apart : (source : Source) (block : BlockTree) (i j : ℕ)
      → i < value_number source block + value_count block → j < value_number source block + value_count block
      → i ≢ j → (brief_variable source block i ≢ brief_variable source block j)
      × (brief_variable source block i ≢ suc (brief_variable source block j))
  pub within : (source : Source) (block : BlockTree) (j : ℕ) → HasTable source → IsEntered source block
      → j < value_number source block + value_count block
      → suc (brief_variable source block j) < length (variables_of source block)
