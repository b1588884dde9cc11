-- What begins with a block, and fields of data blocks.
use Rattle.std.proofs.Common.{◌≡◌, ℕ, List, map, Option, Some, None, slice_get, true, false, refl, sym, ap, subst, ◌∙◌}
use Rattle.std.specs.Prelude.{Bool as Truth, if◌then◌else◌, bytes_eq, IfSome}
use Rattle.pv_types.specs.Tree.{TypeTree, unread, VarTree, VarTrees, structure}
use Rattle.pv_types.specs.View.{listed}
use Rattle.pv_tree.specs.declared.block.BlockKind.{BlockKind}
use Rattle.pv_tree.specs.declared.block.BlockKind.TheVariants.{Fb, Fc, Ob, Db, Udt}
use Rattle.pv_tree.specs.Tree.{BlockTree}
use Rattle.pv_tree.specs.Scopes.{ProjectTree, first_block, first_var, own_value}
use Rattle.pv_tree.specs.Things.{quoted_value}
use Rattle.pv_names.specs.Firsts.{first_number}
use Rattle.pv_names.specs.Tables.{blocks_of}
use Rattle.pv_names.specs.Views.{held_tree}
use Rattle.pv_mean.specs.Layout as layout
use Rattle.pv_mean.specs.Sources.{Source}
use Rattle.pv_mean.specs.Spots.{nowhere}
use Rattle.pv_mean.specs.Activations.{Begins, in_visible, in_brief, at, block_begins, block_or, variable_or, value_or, word_begins}
use Rattle.pv_eval.specs.Means.{activation}
use Rattle.pv_resolve.specs.declared.context.Context.{Context}
use Rattle.pv_resolve.specs.declared.begin.Begin.{Begin}
use Rattle.pv_resolve.specs.declared.begin.Begin.TheVariants.{In, At}
use Rattle.pv_resolve.specs.declared.begin.Where.TheVariants.{Own, Visible, Brief}
use Rattle.pv_resolve.specs.declared.laid.LaidLevel.{LaidLevel}
use Rattle.pv_resolve.specs.Contexts.{IsContext, block_in}
use Rattle.pv_resolve.specs.Laying.{laid_tree}
use Rattle.pv_resolve.specs.Begins.{begin_at, IsHeld, HoldsBlock}
use Rattle.pv_resolve.proofs.Naming.{field_of_struct}
use Rattle.pv_resolve.proofs.Tabling.{numbered}

-- ---- what begins with a block

abbrev type_of_begins : Begins → TypeTree
type_of_begins (in_visible l) = l.ty
type_of_begins (in_brief l) = unread
type_of_begins (at spot) = unread

-- a visible part of a block is one of a data block
shown : (b : Truth) (ty : TypeTree) (first : ℕ) (l : layout.Laid)
    → in_visible l ≡ (if b then in_visible (record { ty = ty; first = first }) else at nowhere) → l.ty ≡ ty
shown true ty first l e = ap type_of_begins e
shown false ty first l e = cc

hidden : (b : Truth) (ty : TypeTree) (first : ℕ) (l : layout.Laid)
    → in_brief l ≡ (if b then in_visible (record { ty = ty; first = first }) else at nowhere) → ⊥
hidden true ty first l e = cc
hidden false ty first l e = cc

is_held : (source : Source) (x : BlockTree) (begin : Begin) → begin_at begin 0 ≡ block_begins source x → IsHeld begin (layout.data_type x)
is_held source x (In Own l) e = shown (layout.is_db x.kind) (layout.data_type x) _ _ e
is_held source x (In Visible l) e = shown (layout.is_db x.kind) (layout.data_type x) _ _ e
is_held source x (In Brief l) e = absurd (hidden (layout.is_db x.kind) (layout.data_type x) _ _ e)
is_held source x (At spot) e = tt

begun : (source : Source) (begin : Begin) (other : Begins) (o : Option BlockTree) → begin_at begin 0 ≡ block_or source o other
    → IfSome o (λ x. IsHeld begin (layout.data_type x))
begun source begin other None e = tt
begun source begin other (Some x) e = is_held source x begin e

holds_numbered : (source : Source) (key : List ℕ) (begin : Begin) (other : Begins) (o : Option ℕ)
    → o ≡ first_number (bytes_eq key) (map (λ (b : BlockTree). b.name.key) source.project.blocks)
    → begin_at begin 0 ≡ block_or source (first_block source.project.blocks key) other → HoldsBlock source.project begin o
holds_numbered source key begin other None is e = tt
holds_numbered source key begin other (Some n) is e =
    subst (λ o. IfSome o (λ x. IsHeld begin (layout.data_type x))) (sym (numbered source.project.blocks key n (sym is)))
    (begun source begin other (first_block source.project.blocks key) e)

-- by the code's tables
same_number : (c : Context) (source : Source) (key : List ℕ) (o : Option ℕ) → IsContext c source
    → o ≡ first_number (bytes_eq key) (map (λ (b : BlockTree). b.name.key) (blocks_of c.scope.tables.now))
    → o ≡ first_number (bytes_eq key) (map (λ (b : BlockTree). b.name.key) source.project.blocks)
same_number c source key o is number =
    number ∙ ap (λ (p : ProjectTree). first_number (bytes_eq key) (map (λ (b : BlockTree). b.name.key) p.blocks)) is.project

-- a word that is no variable and no value
pub word_holds : (c : Context) (source : Source) (key : List ℕ) (begin : Begin) (o : Option ℕ) → IsContext c source
    → None ≡ first_var (block_in c).vars key → None ≡ own_value (block_in c) key false
    → o ≡ first_number (bytes_eq key) (map (λ (b : BlockTree). b.name.key) (blocks_of c.scope.tables.now))
    → begin_at begin 0 ≡ word_begins source (activation (block_in c) 0) key false → HoldsBlock source.project begin o
word_holds c source key begin o is no_var no_value number e =
    holds_numbered source key begin (at nowhere) o (same_number c source key o is number)
    (e
    ∙ ap (λ v. variable_or source (activation (block_in c) 0) key v (value_or source (activation (block_in c) 0) (own_value (block_in c) key false)
    (block_or source (first_block source.project.blocks key) (at nowhere)))) (sym no_var)
    ∙ ap (λ v. value_or source (activation (block_in c) 0) v (block_or source (first_block source.project.blocks key) (at nowhere))) (sym no_value))

-- a quoted or numbered name that is no value
pub name_holds : (c : Context) (source : Source) (key : List ℕ) (begin : Begin) (o : Option ℕ) (other : Begins) → IsContext c source
    → None ≡ quoted_value (block_in c) key
    → o ≡ first_number (bytes_eq key) (map (λ (b : BlockTree). b.name.key) (blocks_of c.scope.tables.now))
    → begin_at begin 0 ≡ value_or source (activation (block_in c) 0) (quoted_value (block_in c) key)
    (block_or source (first_block source.project.blocks key) other) → HoldsBlock source.project begin o
name_holds c source key begin o other is no_value number e =
    holds_numbered source key begin other o (same_number c source key o is number)
    (e ∙ ap (λ v. value_or source (activation (block_in c) 0) v (block_or source (first_block source.project.blocks key) other)) (sym no_value))

-- ---- fields of a data block

-- what has fields of its own holds these
own_fields : (kind : BlockKind) (vars : List VarTree) (fields : VarTrees) → layout.held_by kind vars ≡ structure fields
    → layout.held_by kind vars ≡ structure (listed vars)
own_fields Fb vars fields e = cc
own_fields Fc vars fields e = cc
own_fields Ob vars fields e = cc
own_fields (Db None) vars fields e = refl
own_fields (Db (Some of)) vars fields e = cc
own_fields Udt vars fields e = cc

pub data_field : (project : ProjectTree) (l : LaidLevel) (b : BlockTree) (fields : VarTrees) (key : List ℕ) (o : Option layout.Laid)
    → held_tree l.ty ≡ structure fields → held_tree l.ty ≡ layout.data_type b
    → o ≡ layout.laid_among project (λ s. true) b.vars key l.first → o ≡ layout.field_laid project (laid_tree l) key
data_field project l b fields key o own holds e =
    field_of_struct project (held_tree l.ty) b.vars key l.first o
    (holds ∙ own_fields b.kind b.vars fields (sym holds ∙ own)) e

-- the block of a number is this
pub holds_at : (project : ProjectTree) (n : ℕ) (l : LaidLevel) (b : BlockTree) → slice_get project.blocks n ≡ Some b
    → IfSome (slice_get project.blocks n) (λ b. held_tree l.ty ≡ layout.data_type b) → held_tree l.ty ≡ layout.data_type b
holds_at project n l b is h = subst (λ o. IfSome o (λ (b : BlockTree). held_tree l.ty ≡ layout.data_type b)) is h
