-- Where names and fields begin, in each activation.
use Rattle.std.proofs.Common.{◌≡◌, ℕ, List, Option, Some, None, option_map, refl, sym, ap, ◌∙◌}
use Rattle.std.specs.Prelude.{Bool as Truth, true, false, if◌then◌else◌}
use Rattle.pv_word.specs.declared.types.Ty.{Ty}
use Rattle.pv_types.specs.Tree.{VarTree}
use Rattle.pv_types.specs.View.{section_of, start_of}
use Rattle.pv_types.specs.Leaves.{start_value}
use Rattle.pv_tree.specs.declared.expr.Root.{Root}
use Rattle.pv_tree.specs.declared.expr.Root.TheVariants.{Local, Named, Area as InArea}
use Rattle.pv_tree.specs.Tree.{BlockTree}
use Rattle.pv_tree.specs.Scopes.{SymbolTree, is_const, is_of_instance, first_block, first_var, first_symbol, own_value}
use Rattle.pv_tree.specs.Things.{quoted_value}
use Rattle.pv_mean.specs.Layout.{Laid, laid_among, field_laid, is_brief_in, is_db, data_type}
use Rattle.pv_mean.specs.Sources.{Source, data_block_first}
use Rattle.pv_mean.specs.Spots.{fixed, nowhere}
use Rattle.pv_mean.specs.Activations.{Begins, in_visible, at, visible_where, brief_where, variable_begins, block_begins, variable_or, value_or, block_or, symbol_or_none, root_begins}
use Rattle.pv_mean.specs.Values.{field_begins}
use Rattle.pv_eval.specs.Means.{activation}
use Rattle.pv_resolve.specs.Begins.{further}
use Rattle.pv_resolve.proofs.ForCallers.{laid_from, field-shifted}
use Rattle.pv_variables.specs.Origins.{Origin, in_instance, in_table, in_activation, at_spot, origin_at, laid_where, placed_variable, placed_block, placed_variable_or, placed_value_or, placed_block_or, placed_symbol, placed, field_placed}

-- ---- one of two, and what may not be there

either : (first : ℕ) (b : Truth) (x y : Origin) (u v : Begins) → origin_at first x ≡ u → origin_at first y ≡ v
    → origin_at first (if b then x else y) ≡ (if b then u else v)
either first true x y u v p q = p
either first false x y u v p q = q

instance-where : (first : ℕ) (o : Option Laid) → origin_at first (laid_where in_instance o) ≡ visible_where (option_map (further first) o)
instance-where first None = refl
instance-where first (Some l) = refl

table-where : (first : ℕ) (o : Option Laid) → origin_at first (laid_where in_table o) ≡ visible_where o
table-where first None = refl
table-where first (Some l) = refl

activation-where : (first : ℕ) (o : Option Laid) → origin_at first (laid_where in_activation o) ≡ brief_where o
activation-where first None = refl
activation-where first (Some l) = refl

-- ---- names

instance-placed : (source : Source) (block : BlockTree) (first : ℕ) (key : List ℕ)
    → origin_at first (laid_where in_instance (laid_among source.project is_of_instance block.vars key 0))
    ≡ visible_where (laid_among source.project is_of_instance block.vars key first)
instance-placed source block first key =
    instance-where first (laid_among source.project is_of_instance block.vars key 0)
    ∙ ap visible_where (sym (laid_from source.project is_of_instance block.vars key first))

variable-placed : (source : Source) (block : BlockTree) (first : ℕ) (key : List ℕ) (v : VarTree)
    → origin_at first (placed_variable source block key v) ≡ variable_begins source (activation block first) key v
variable-placed source block first key v =
    either first (is_const (section_of v)) (at_spot (fixed (start_value (start_of v))))
    (if is_brief_in block (section_of v) then laid_where in_activation (laid_among source.project (is_brief_in block) block.vars key 0)
    else laid_where in_instance (laid_among source.project is_of_instance block.vars key 0))
    (at (fixed (start_value (start_of v))))
    (if is_brief_in block (section_of v) then brief_where (laid_among source.project (is_brief_in block) block.vars key 0)
    else visible_where (laid_among source.project is_of_instance block.vars key first))
    refl
    (either first (is_brief_in block (section_of v)) (laid_where in_activation (laid_among source.project (is_brief_in block) block.vars key 0))
    (laid_where in_instance (laid_among source.project is_of_instance block.vars key 0))
    (brief_where (laid_among source.project (is_brief_in block) block.vars key 0))
    (visible_where (laid_among source.project is_of_instance block.vars key first))
    (activation-where first (laid_among source.project (is_brief_in block) block.vars key 0)) (instance-placed source block first key))

variable_or-placed : (source : Source) (block : BlockTree) (first : ℕ) (key : List ℕ) (o : Option VarTree) (x : Origin) (u : Begins)
    → origin_at first x ≡ u
    → origin_at first (placed_variable_or source block key o x) ≡ variable_or source (activation block first) key o u
variable_or-placed source block first key None x u p = p
variable_or-placed source block first key (Some v) x u p = variable-placed source block first key v

value_or-placed : (source : Source) (block : BlockTree) (first : ℕ) (o : Option Ty) (x : Origin) (u : Begins) → origin_at first x ≡ u
    → origin_at first (placed_value_or source block o x) ≡ value_or source (activation block first) o u
value_or-placed source block first None x u p = p
value_or-placed source block first (Some ty) x u p = refl

block-placed : (source : Source) (first : ℕ) (b : BlockTree) → origin_at first (placed_block source b) ≡ block_begins source b
block-placed source first b =
    either first (is_db b.kind) (in_table (record { ty = data_type b; first = data_block_first source b.name.key })) (at_spot nowhere)
    (in_visible (record { ty = data_type b; first = data_block_first source b.name.key })) (at nowhere) refl refl

block_or-placed : (source : Source) (first : ℕ) (o : Option BlockTree) (x : Origin) (u : Begins) → origin_at first x ≡ u
    → origin_at first (placed_block_or source o x) ≡ block_or source o u
block_or-placed source first None x u p = p
block_or-placed source first (Some b) x u p = block-placed source first b

symbol-placed : (source : Source) (first : ℕ) (o : Option SymbolTree) → origin_at first (placed_symbol source o) ≡ symbol_or_none source o
symbol-placed source first None = refl
symbol-placed source first (Some s) = refl

pub names_are_placed : (source : Source) (block : BlockTree) (first : ℕ) (root : Root)
    → origin_at first (placed source block root) ≡ root_begins source (activation block first) root
names_are_placed source block first (Local name hash place) =
    variable_or-placed source block first name.key (first_var block.vars name.key)
    (placed_value_or source block (own_value block name.key hash) undeclared)
    (value_or source (activation block first) (own_value block name.key hash) nothing_declared)
    (value_or-placed source block first (own_value block name.key hash) undeclared nothing_declared
    (either first hash (at_spot nowhere) (placed_block_or source (first_block source.project.blocks name.key) (at_spot nowhere))
    (at nowhere) (block_or source (first_block source.project.blocks name.key) (at nowhere)) refl
    (block_or-placed source first (first_block source.project.blocks name.key) (at_spot nowhere) (at nowhere) refl)))
  where
    undeclared : Origin
    undeclared =
        if hash then at_spot nowhere else placed_block_or source (first_block source.project.blocks name.key) (at_spot nowhere)

    nothing_declared : Begins
    nothing_declared = if hash then at nowhere else block_or source (first_block source.project.blocks name.key) (at nowhere)
names_are_placed source block first (Named name) =
    value_or-placed source block first (quoted_value block name.key)
    (placed_block_or source (first_block source.project.blocks name.key) (placed_symbol source (first_symbol source.project.symbols name.key)))
    (block_or source (first_block source.project.blocks name.key) (symbol_or_none source (first_symbol source.project.symbols name.key)))
    (block_or-placed source first (first_block source.project.blocks name.key)
    (placed_symbol source (first_symbol source.project.symbols name.key))
    (symbol_or_none source (first_symbol source.project.symbols name.key))
    (symbol-placed source first (first_symbol source.project.symbols name.key)))
names_are_placed source block first (InArea area bits byte n) = refl

-- ---- fields

pub fields_are_placed : (source : Source) (first : ℕ) (o : Origin) (key : List ℕ)
    → origin_at first (field_placed source.project o key) ≡ field_begins source (origin_at first o) key
fields_are_placed source first (in_instance l) key =
    instance-where first (field_laid source.project l key) ∙ ap visible_where (sym (field-shifted source.project l key first))
fields_are_placed source first (in_table l) key = table-where first (field_laid source.project l key)
fields_are_placed source first (in_activation l) key = activation-where first (field_laid source.project l key)
fields_are_placed source first (at_spot spot) key = refl
