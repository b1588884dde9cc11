-- Where names begin in a block, whichever instance it works on: among the cells of that instance, counted from its first; among all
-- visible cells; among the brief cells of an activation; or at one spot.
use Rattle.std.specs.Prelude.{ℕ, ℤ, List, Bool as Truth, if◌then◌else◌, Option, Some, None}
use Rattle.pv_word.specs.declared.types.Ty.{Ty}
use Rattle.pv_types.specs.Tree.{TypeTree, plain, array, structure, named, unread, VarTree}
use Rattle.pv_types.specs.View.{section_of, start_of}
use Rattle.pv_types.specs.Leaves.{start_value}
use Rattle.pv_tree.specs.declared.expr.Root.{Root}
use Rattle.pv_tree.specs.declared.expr.Root.TheVariants.{Local, Named, Area as InArea}
use Rattle.pv_tree.specs.Tree.{BlockTree}
use Rattle.pv_tree.specs.Scopes.{SymbolTree, ProjectTree, is_const, is_of_instance, first_block, first_var, first_symbol, own_value}
use Rattle.pv_tree.specs.Things.{type_of_bits, quoted_value}
use Rattle.pv_mean.specs.Layout.{Laid, laid_among, field_laid, element_laid, is_brief_in, is_db, data_type}
use Rattle.pv_mean.specs.Sources.{Source, data_block_first}
use Rattle.pv_mean.specs.Spots.{Spot, brief, fixed, nowhere}
use Rattle.pv_mean.specs.Activations.{Begins, in_visible, in_brief, at, value_number, address_spot, symbol_at}
use Rattle.pv_resolve.specs.Begins.{further}

pub data Origin : Type 0 where
  in_instance : Laid → Origin
  in_table : Laid → Origin
  in_activation : Laid → Origin
  at_spot : Spot → Origin

-- in a block whose instance begins at this visible cell
abbrev pub origin_at : ℕ → Origin → Begins
origin_at first (in_instance laid) = in_visible (further first laid)
origin_at first (in_table laid) = in_visible laid
origin_at first (in_activation laid) = in_brief laid
origin_at first (at_spot spot) = at spot

-- where something is laid out, if it is
abbrev pub laid_where : (Laid → Origin) → Option Laid → Origin
laid_where make None = at_spot nowhere
laid_where make (Some laid) = make laid

-- ---- what a name begins with

abbrev pub placed_variable : Source → BlockTree → List ℕ → VarTree → Origin
placed_variable source block key v =
    if is_const (section_of v) then at_spot (fixed (start_value (start_of v)))
    else (if is_brief_in block (section_of v)
    then laid_where in_activation (laid_among source.project (is_brief_in block) block.vars key 0)
    else laid_where in_instance (laid_among source.project is_of_instance block.vars key 0))

abbrev pub placed_block : Source → BlockTree → Origin
placed_block source b =
    if is_db b.kind then in_table (record { ty = data_type b; first = data_block_first source b.name.key })
    else at_spot nowhere

abbrev pub placed_variable_or : Source → BlockTree → List ℕ → Option VarTree → Origin → Origin
placed_variable_or source block key None other = other
placed_variable_or source block key (Some v) other = placed_variable source block key v

abbrev pub placed_value_or : Source → BlockTree → Option Ty → Origin → Origin
placed_value_or source block None other = other
placed_value_or source block (Some ty) other = at_spot (brief ty (value_number source block))

abbrev pub placed_block_or : Source → Option BlockTree → Origin → Origin
placed_block_or source None other = other
placed_block_or source (Some b) other = placed_block source b

abbrev pub placed_symbol : Source → Option SymbolTree → Origin
placed_symbol source None = at_spot nowhere
placed_symbol source (Some s) = at_spot (symbol_at source s.ty s.at)

abbrev pub placed_word : Source → BlockTree → List ℕ → Truth → Origin
placed_word source block key hash =
    placed_variable_or source block key (first_var block.vars key)
    (placed_value_or source block (own_value block key hash)
    (if hash then at_spot nowhere
    else placed_block_or source (first_block source.project.blocks key) (at_spot nowhere)))

abbrev pub placed_name : Source → BlockTree → List ℕ → Origin
placed_name source block key =
    placed_value_or source block (quoted_value block key)
    (placed_block_or source (first_block source.project.blocks key)
    (placed_symbol source (first_symbol source.project.symbols key)))

abbrev pub placed : Source → BlockTree → Root → Origin
placed source block (Local name hash place) = placed_word source block name.key hash
placed source block (Named name) = placed_name source block name.key
placed source block (InArea area bits byte n) = at_spot (address_spot source (type_of_bits bits) area bits byte n)

-- ---- steps behind it

abbrev pub field_placed : ProjectTree → Origin → List ℕ → Origin
field_placed project (in_instance laid) key = laid_where in_instance (field_laid project laid key)
field_placed project (in_table laid) key = laid_where in_table (field_laid project laid key)
field_placed project (in_activation laid) key = laid_where in_activation (field_laid project laid key)
field_placed project (at_spot spot) key = at_spot nowhere

-- the element at an index that is known; outside the bounds there is none
abbrev pub element_placed : ProjectTree → Origin → ℤ → Origin
element_placed project (in_instance laid) i = laid_where in_instance (element_laid project laid i)
element_placed project (in_table laid) i = laid_where in_table (element_laid project laid i)
element_placed project (in_activation laid) i = laid_where in_activation (element_laid project laid i)
element_placed project (at_spot spot) i = at_spot nowhere

-- an array: its bounds, the type of its elements, and where the first of them lies
pub record Elements : Type 0 where
  pub low : ℤ
  pub high : ℤ
  pub of : TypeTree
  pub head : Origin

abbrev pub elements_laid : (Laid → Origin) → TypeTree → ℕ → Option Elements
elements_laid make (array low high of place) first =
    Some (record { low = low; high = high; of = of; head = make (record { ty = of; first = first }) })
elements_laid make (plain ty) first = None
elements_laid make (structure vars) first = None
elements_laid make (named name place) first = None
elements_laid make unread first = None

abbrev pub elements_placed : Origin → Option Elements
elements_placed (in_instance laid) = elements_laid in_instance laid.ty laid.first
elements_placed (in_table laid) = elements_laid in_table laid.ty laid.first
elements_placed (in_activation laid) = elements_laid in_activation laid.ty laid.first
elements_placed (at_spot spot) = None
