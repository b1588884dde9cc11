-- Fields and whole operands, so many cells further.
use Rattle.std.proofs.Common.{◌≡◌, ℕ, ◌+◌, ℤ, List, Option, Some, None, option_map, refl, sym, ap, ◌∙◌, arith}
use Rattle.std.specs.Prelude.{unsigned_abs, true}
use Rattle.std.proofs.Math.Nat.{add_comm}
use Rattle.pv_word.specs.declared.types.Ty.{Ty}
use Rattle.pv_types.specs.Tree.{TypeTree, plain, array, structure, named, unread}
use Rattle.pv_types.specs.View.{fields_of}
use Rattle.pv_tree.specs.Tree.{BlockTree}
use Rattle.pv_tree.specs.Scopes.{ProjectTree, is_of_instance, type_named}
use Rattle.pv_mean.specs.Layout as layout
use Rattle.pv_mean.specs.Sources.{Source}
use Rattle.pv_mean.specs.Spots as spots
use Rattle.pv_mean.specs.Activations.{Begins, in_visible, in_brief, at, visible_where, brief_where, spot_by, spot_of}
use Rattle.pv_mean.specs.Values.{field_begins}
use Rattle.pv_eval.specs.declared.node.Spot.{Spot}
use Rattle.pv_eval.specs.Operands as operands
use Rattle.pv_resolve.specs.declared.begin.Begin.{Begin}
use Rattle.pv_resolve.specs.declared.begin.Begin.TheVariants.{In, At}
use Rattle.pv_resolve.specs.declared.begin.Where.{Where}
use Rattle.pv_resolve.specs.declared.begin.Where.TheVariants.{Own, Visible, Brief}
use Rattle.pv_resolve.specs.declared.laid.LaidLevel.{LaidLevel}
use Rattle.pv_resolve.specs.Laying.{laid_tree}
use Rattle.pv_resolve.specs.Begins.{further, begins_in, begin_at, begins_further, begins_behind, begins_found}
use Rattle.pv_resolve.proofs.Laying.{laid-shifted}

-- ---- fields

among-shifted : (project : ProjectTree) (b : Option BlockTree) (key : List ℕ) (k first : ℕ)
    → layout.field_among project is_of_instance b key (k + first) ≡ option_map (further k) (layout.field_among project is_of_instance b key first)
among-shifted project None key k first = refl
among-shifted project (Some b) key k first = laid-shifted project is_of_instance b.vars key k first

from-shifted : (project : ProjectTree) (ty : TypeTree) (key : List ℕ) (k first : ℕ)
    → layout.field_from project ty (k + first) key ≡ option_map (further k) (layout.field_from project ty first key)
from-shifted project (plain ty) key k first = refl
from-shifted project (array low high of place) key k first = refl
from-shifted project (structure vars) key k first = laid-shifted project (λ s. true) (fields_of vars) key k first
from-shifted project (named name place) key k first = among-shifted project (type_named project name.key) key k first
from-shifted project unread key k first = refl

pub field-shifted : (project : ProjectTree) (l : layout.Laid) (key : List ℕ) (k : ℕ)
    → layout.field_laid project (further k l) key ≡ option_map (further k) (layout.field_laid project l key)
field-shifted project l key k = from-shifted project l.ty key k l.first

visible_further : (k : ℕ) (o : Option layout.Laid) → begins_further k (visible_where o) ≡ visible_where (option_map (further k) o)
visible_further k None = refl
visible_further k (Some l) = refl

brief_further : (k : ℕ) (o : Option layout.Laid) → begins_further k (brief_where o) ≡ brief_where (option_map (further k) o)
brief_further k None = refl
brief_further k (Some l) = refl

pub field_further : (source : Source) (key : List ℕ) (k : ℕ) (b : Begins)
    → begins_further k (field_begins source b key) ≡ field_begins source (begins_further k b) key
field_further source key k (in_visible l) =
    visible_further k (layout.field_laid source.project l key) ∙ ap visible_where (sym (field-shifted source.project l key k))
field_further source key k (in_brief l) =
    brief_further k (layout.field_laid source.project l key) ∙ ap brief_where (sym (field-shifted source.project l key k))
field_further source key k (at spot) = refl

field_behind : (source : Source) (key : List ℕ) (address : Option ℕ) (a : ℤ) (b : Begins)
    → begins_behind address a (field_begins source b key) ≡ field_begins source (begins_behind address a b) key
field_behind source key None a b = refl
field_behind source key (Some n) a b = field_further source key (unsigned_abs a) b

field_found : (source : Source) (part : Where) (first : ℕ) (l : layout.Laid) (key : List ℕ) (o : Option layout.Laid)
    → o ≡ layout.field_laid source.project l key → begins_found part first o ≡ field_begins source (begins_in part first l) key
field_found source Own first l key o e =
    ap (λ x. visible_where (option_map (further first) x)) e ∙ ap visible_where (sym (field-shifted source.project l key first))
field_found source Visible first l key o e = ap visible_where e
field_found source Brief first l key o e = ap brief_where e

-- the field of a part, where that begins a way
pub field_leads : (source : Source) (begin : Begin) (part : Where) (l : LaidLevel) (key : List ℕ) (o : Option layout.Laid) (address : Option ℕ) (a : ℤ)
    (first : ℕ) (b : Begins) → begin ≡ In part l → o ≡ layout.field_laid source.project (laid_tree l) key → b ≡ begins_found part first o
    → begins_behind address a b ≡ field_begins source (begins_behind address a (begin_at begin first)) key
field_leads source begin part l key o address a first b is e same =
    ap (begins_behind address a) (same ∙ field_found source part first (laid_tree l) key o e)
    ∙ field_behind source key address a (begins_in part first (laid_tree l))
    ∙ ap (λ x. field_begins source (begins_behind address a (begin_at x first)) key) (sym is)

-- a spot has no fields
spot_unled : (source : Source) (spot : spots.Spot) (key : List ℕ) (address : Option ℕ) (a : ℤ)
    → begins_behind address a (at spots.nowhere) ≡ field_begins source (begins_behind address a (at spot)) key
spot_unled source spot key None a = refl
spot_unled source spot key (Some n) a = refl

pub spot_leads : (source : Source) (begin : Begin) (spot : Spot) (key : List ℕ) (address : Option ℕ) (a : ℤ) (first : ℕ) → begin ≡ At spot
    → begins_behind address a (at spots.nowhere) ≡ field_begins source (begins_behind address a (begin_at begin first)) key
spot_leads source begin spot key address a first is =
    spot_unled source (operands.spot_of spot) key address a
    ∙ ap (λ x. field_begins source (begins_behind address a (begin_at x first)) key) (sym is)

-- ---- the operand at the end of a way

-- so many cells further, in the order of the code
further_cell : (begin first k : ℕ) → begin + (first + k) ≡ k + (begin + first)
further_cell begin first k = omega arith

pub own_cell : (ty : Ty) (begin first : ℕ) (part : Where) → part ≡ Own
    → spots.visible (begin + first) ≡ spot_of (begins_in part begin (record { ty = plain ty; first = first }))
own_cell ty begin first part is = ap (λ p. spot_of (begins_in p begin (record { ty = plain ty; first = first }))) (sym is)

pub visible_cell : (ty : Ty) (begin first : ℕ) (part : Where) → part ≡ Visible
    → spots.visible first ≡ spot_of (begins_in part begin (record { ty = plain ty; first = first }))
visible_cell ty begin first part is = ap (λ p. spot_of (begins_in p begin (record { ty = plain ty; first = first }))) (sym is)

pub brief_cell : (ty : Ty) (begin first : ℕ) (part : Where) → part ≡ Brief
    → spots.brief ty first ≡ spot_of (begins_in part begin (record { ty = plain ty; first = first }))
brief_cell ty begin first part is = ap (λ p. spot_of (begins_in p begin (record { ty = plain ty; first = first }))) (sym is)

pub own_further : (ty : Ty) (begin first k : ℕ) (part : Where) → part ≡ Own
    → spots.visible (begin + (first + k)) ≡ spot_of (begins_further k (begins_in part begin (record { ty = plain ty; first = first })))
own_further ty begin first k part is =
    ap spots.visible (further_cell begin first k)
    ∙ ap (λ p. spot_of (begins_further k (begins_in p begin (record { ty = plain ty; first = first })))) (sym is)

pub visible_further_cell : (ty : Ty) (begin first k : ℕ) (part : Where) → part ≡ Visible
    → spots.visible (first + k) ≡ spot_of (begins_further k (begins_in part begin (record { ty = plain ty; first = first })))
visible_further_cell ty begin first k part is =
    ap spots.visible (add_comm first k)
    ∙ ap (λ p. spot_of (begins_further k (begins_in p begin (record { ty = plain ty; first = first })))) (sym is)

pub brief_further_cell : (ty : Ty) (begin first k : ℕ) (part : Where) → part ≡ Brief
    → spots.brief ty (first + k) ≡ spot_of (begins_further k (begins_in part begin (record { ty = plain ty; first = first })))
brief_further_cell ty begin first k part is =
    ap (spots.brief ty) (add_comm first k)
    ∙ ap (λ p. spot_of (begins_further k (begins_in p begin (record { ty = plain ty; first = first })))) (sym is)

-- a whole array, structure or instance is no spot
abbrev pub IsNoCell : TypeTree → Type 0
IsNoCell (plain ty) = ⊥
IsNoCell (array low high of place) = Unit {0}
IsNoCell (structure vars) = Unit {0}
IsNoCell (named name place) = Unit {0}
IsNoCell unread = Unit {0}

no_cell_by : (make : Ty → ℕ → spots.Spot) (ty : TypeTree) (n : ℕ) → IsNoCell ty → spots.nowhere ≡ spot_by make ty n
no_cell_by make (plain ty) n h = absurd h
no_cell_by make (array low high of place) n h = refl
no_cell_by make (structure vars) n h = refl
no_cell_by make (named name place) n h = refl
no_cell_by make unread n h = refl

pub no_cell : (part : Where) (begin : ℕ) (l : layout.Laid) (address : Option ℕ) (a : ℤ) → IsNoCell l.ty
    → spots.nowhere ≡ spot_of (begins_behind address a (begins_in part begin l))
no_cell Own begin l None a h = no_cell_by (λ ty n. spots.visible n) l.ty (begin + l.first) h
no_cell Own begin l (Some n) a h = no_cell_by (λ ty n. spots.visible n) l.ty (unsigned_abs a + (begin + l.first)) h
no_cell Visible begin l None a h = no_cell_by (λ ty n. spots.visible n) l.ty l.first h
no_cell Visible begin l (Some n) a h = no_cell_by (λ ty n. spots.visible n) l.ty (unsigned_abs a + l.first) h
no_cell Brief begin l None a h = no_cell_by spots.brief l.ty l.first h
no_cell Brief begin l (Some n) a h = no_cell_by spots.brief l.ty (unsigned_abs a + l.first) h

-- a spot stays where it is
pub spot_stays : (begin : Begin) (spot : Spot) (first : ℕ) (address : Option ℕ) (a : ℤ) → begin ≡ At spot
    → operands.spot_of spot ≡ spot_of (begins_behind address a (begin_at begin first))
spot_stays begin spot first None a is = ap (λ x. spot_of (begin_at x first)) (sym is)
spot_stays begin spot first (Some n) a is = ap (λ x. spot_of (begins_further (unsigned_abs a) (begin_at x first))) (sym is)
