-- Where names begin, and where the steps behind them lead.
use Rattle.std.specs.Prelude.{◌≡◌, ℕ, ◌+◌, ℤ, pos, unsigned_abs, List, Bool as Truth, Option, Some, None, option_map, if◌then◌else◌, IfSome, slice_get}
use Rattle.pv_types.specs.declared.declaration.Section.{Section}
use Rattle.pv_types.specs.Tree.{TypeTree}
use Rattle.pv_tree.specs.Tree.{BlockTree}
use Rattle.pv_tree.specs.Scopes.{ProjectTree, is_of_instance, own_value, first_block}
use Rattle.pv_names.specs.Views.{held_tree}
use Rattle.pv_mean.specs.Layout as layout
use Rattle.pv_mean.specs.Spots.{nowhere}
use Rattle.pv_mean.specs.Sources.{Source}
use Rattle.pv_mean.specs.Activations.{Activation, Begins, in_visible, in_brief, at, visible_where, brief_where, value_or, block_or}
use Rattle.pv_eval.specs.Operands as operands
use Rattle.pv_resolve.specs.declared.begin.Begin.{Begin}
use Rattle.pv_resolve.specs.declared.begin.Begin.TheVariants.{In, At}
use Rattle.pv_resolve.specs.declared.begin.Where.{Where}
use Rattle.pv_resolve.specs.declared.begin.Where.TheVariants.{Own, Visible, Brief}
use Rattle.pv_resolve.specs.declared.walk.Walk.{Walk}
use Rattle.pv_resolve.specs.Laying.{laid_tree}

-- so many cells further
abbrev pub further : ℕ → layout.Laid → layout.Laid
further k l = record { ty = l.ty; first = k + l.first }

abbrev pub begins_in : Where → ℕ → layout.Laid → Begins
begins_in Own first l = in_visible (further first l)
begins_in Visible first l = in_visible l
begins_in Brief first l = in_brief l

-- in a block whose instance begins at the first cell
abbrev pub begin_at : Begin → ℕ → Begins
begin_at (In part l) first = begins_in part first (laid_tree l)
begin_at (At spot) first = at (operands.spot_of spot)

abbrev pub HasSpot : Begin → Type 0
HasSpot (In part l) = Unit {0}
HasSpot (At spot) = operands.IsSpot spot

abbrev pub begins_further : ℕ → Begins → Begins
begins_further k (in_visible l) = in_visible (further k l)
begins_further k (in_brief l) = in_brief (further k l)
begins_further k (at spot) = at spot

-- the number that an address has, by the values so far
abbrev pub address_value : Option ℕ → List ℤ → ℤ
address_value None values = pos 0
address_value (Some n) values = operands.at values n

-- so many cells further as the address says, where there is one
abbrev pub begins_behind : Option ℕ → ℤ → Begins → Begins
begins_behind None a b = b
begins_behind (Some n) a b = begins_further (unsigned_abs a) b

-- where a walk has come to, by the number of its address
abbrev pub walk_at : Walk → ℕ → ℤ → Begins
walk_at w first a = begins_behind w.address a (begin_at w.begin first)

-- what a data block holds; another block holds nothing
abbrev pub type_held : BlockTree → Option TypeTree
type_held b = if layout.is_db b.kind then Some (layout.data_type b) else None

-- what begins there holds what has this type; of a spot nothing is said
abbrev pub IsHeld : Begin → TypeTree → Type 0
IsHeld (In part l) ty = held_tree l.ty ≡ ty
IsHeld (At spot) ty = Unit {0}

-- what begins there is what the block of this number holds, where one is given
abbrev pub HoldsBlock : ProjectTree → Begin → Option ℕ → Type 0
HoldsBlock project begin None = Unit {0}
HoldsBlock project begin (Some n) =
    IfSome (slice_get project.blocks n) (λ b. IsHeld begin (layout.data_type b))

-- what was found among a part of the cells, if anything
abbrev pub begins_found : Where → ℕ → Option layout.Laid → Begins
begins_found Own first o = visible_where (option_map (further first) o)
begins_found Visible first o = visible_where o
begins_found Brief first o = brief_where o

-- a variable of the block: a brief one, or one of the instance
abbrev pub cells_begin : Source → Activation → List ℕ → Section → Begins
cells_begin source act key section =
    if layout.is_brief_in act.block section
    then brief_where (layout.laid_among source.project (layout.is_brief_in act.block) act.block.vars key 0)
    else visible_where (layout.laid_among source.project is_of_instance act.block.vars key act.first)

-- a word that isn't declared
abbrev pub undeclared_begins : Source → Activation → List ℕ → Truth → Begins
undeclared_begins source act key hash =
    value_or source act (own_value act.block key hash)
    (if hash then at nowhere
    else block_or source (first_block source.project.blocks key) (at nowhere))
