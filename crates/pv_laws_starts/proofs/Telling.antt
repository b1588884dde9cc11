-- What the steps of a start value lead to by types is what they lead to by the layout: something of the same type, or a date.
use Rattle.std.proofs.Common.{◌≡◌, ◌⊎◌, inl, inr, ℕ, ◌+◌, ◌*◌, ℤ, List, [], ◌∷◌, Bool, true, false, cond, ◌&&◌, Option, Some, None, refl, sym, ap, subst}
use Rattle.std.specs.Prelude.{⊤, ◌-ℤ◌, int_le, unsigned_abs, filter, option_and_then, bytes_eq}
use Rattle.pv_place.specs.declared.place.Place.{Place}
use Rattle.pv_types.specs.declared.declaration.Section.{Section}
use Rattle.pv_types.specs.Tree.{TypeTree, plain, array, structure, named, unread, VarTree, var}
use Rattle.pv_types.specs.View.{fields_of, section_of}
use Rattle.pv_types.proofs.ForCallers.{fields-of-listed}
use Rattle.pv_tree.specs.declared.block.BlockKind.{BlockKind}
use Rattle.pv_tree.specs.declared.block.BlockKind.TheVariants.{Fb, Fc, Ob, Db, Udt}
use Rattle.pv_tree.specs.Tree.{StepTree, field, index, StepTrees, no_steps, steps, BlockTree}
use Rattle.pv_tree.specs.Scopes.{ProjectTree, Scope, first_var, is_of_instance, type_named}
use Rattle.pv_tree.specs.Things.{Thing, part, a_date, first_place, is_date, dated_type, dated, field_where, field_within, field_of_type, field_of_kind, element_of_type, thing_at, last_behind, thing_behind}
use Rattle.pv_tree.specs.Types.{Written, literal_of}
use Rattle.pv_mean.specs.Layout.{size_in, Laid, laid_among, field_among, field_from, element_from, element_laid, laid_at_step, laid_behind, held_by}

-- ---- the same type, or a date

abbrev IsDated : Thing → Type 0
IsDated t = (at : Place) × (t ≡ a_date at)

abbrev pub Tells : Option Laid → Thing → Type 0
Tells None t = ⊤
Tells (Some l) t = (t ≡ part l.ty) ⊎ IsDated t

-- ---- fields

among_tells : (project : ProjectTree) (test : Section → Bool) (vars : List VarTree) (key : List ℕ) (first : ℕ) (place : Place)
    → Tells (laid_among project test vars key first) (field_where (first_var (filter (λ v. test (section_of v)) vars) key) place)
among_tells project test [] key first place = tt
among_tells project test (var name section ty start at ∷ more) key first place =
    lead (λ n. among_tells project test more key n place) (test section)
  where
    it : VarTree
    it = var name section ty start at

    kept : List VarTree
    kept = filter (λ v. test (section_of v)) more

    named_so : (same : Bool) → Tells (laid_among project test more key (first + size_in project ty))
        (field_where (first_var kept key) place)
        → Tells (cond same (Some (record { ty = ty; first = first })) (laid_among project test more key (first + size_in project ty)))
        (field_where (cond same (Some it) (first_var kept key)) place)
    named_so true rest = inl refl
    named_so false rest = rest

    lead : ((n : ℕ) → Tells (laid_among project test more key n) (field_where (first_var kept key) place)) → (t : Bool)
        → Tells
        (cond t (cond (bytes_eq key name.key) (Some (record { ty = ty; first = first }))
        (laid_among project test more key (first + size_in project ty)))
        (laid_among project test more key first))
        (field_where (first_var (cond t (it ∷ kept) kept) key) place)
    lead rest true = named_so (bytes_eq key name.key) (rest (first + size_in project ty))
    lead rest false = rest first

all_kept : (vars : List VarTree) → filter (λ v. true) vars ≡ vars
all_kept [] = refl
all_kept (v ∷ more) = ap (λ l. v ∷ l) (all_kept more)

structure_tells : (project : ProjectTree) (vars : List VarTree) (key : List ℕ) (first : ℕ) (place : Place)
    → Tells (laid_among project (λ s. true) vars key first) (field_where (first_var vars key) place)
structure_tells project vars key first place =
    subst (λ l. Tells (laid_among project (λ s. true) vars key first) (field_where (first_var l key) place)) (all_kept vars)
    (among_tells project (λ s. true) vars key first place)

type_tells : (project : ProjectTree) (o : Option BlockTree) (key : List ℕ) (first : ℕ) (place : Place)
    → Tells (field_among project is_of_instance o key first) (field_within o key place)
type_tells project None key first place = tt
type_tells project (Some b) key first place = among_tells project is_of_instance b.vars key first place

field_tells : (scope : Scope) (ty : TypeTree) (key : List ℕ) (first : ℕ) (place : Place)
    → Tells (field_from scope.project ty first key) (field_of_type scope ty key place)
field_tells scope (plain ty) key first place = tt
field_tells scope (array low high of at) key first place = tt
field_tells scope (structure vars) key first place = structure_tells scope.project (fields_of vars) key first place
field_tells scope (named name at) key first place = type_tells scope.project (type_named scope.project name.key) key first place
field_tells scope unread key first place = tt

-- a field of what a data block holds
pub kind_tells : (scope : Scope) (kind : BlockKind) (vars : List VarTree) (key : List ℕ) (place : Place)
    → Tells (field_from scope.project (held_by kind vars) 0 key) (field_of_kind scope kind vars key place)
kind_tells scope Fb vars key place = tt
kind_tells scope Fc vars key place = tt
kind_tells scope Ob vars key place = tt
kind_tells scope (Db None) vars key place =
    subst (λ vs. Tells (laid_among scope.project (λ s. true) vs key 0) (field_where (first_var vars key) place))
    (sym (fields-of-listed vars))
    (structure_tells scope.project vars key 0 place)
kind_tells scope (Db (Some of)) vars key place = type_tells scope.project (type_named scope.project of.0.key) key 0 place
kind_tells scope Udt vars key place = tt

-- ---- elements

element_tells : (scope : Scope) (ty : TypeTree) (first : ℕ) (i : ℤ) (place : Place)
    → Tells (element_from scope.project ty first i) (element_of_type scope ty place)
element_tells scope (plain ty) first i place = tt
element_tells scope (array low high of at) first i place = lead (int_le low i && int_le i high)
  where
    lead : (t : Bool) → Tells (cond t (Some (record { ty = of; first = first + unsigned_abs (i -ℤ low) * size_in scope.project of })) None)
        (part of)
    lead true = inl refl
    lead false = tt
element_tells scope (structure vars) first i place = tt
element_tells scope (named name at) first i place = tt
element_tells scope unread first i place = tt

-- ---- steps

tells_date : (o : Option Laid) (t : Thing) → IsDated t → Tells o t
tells_date None t d = tt
tells_date (Some l) t d = inr d

dated_part : (last : Place) (ty : TypeTree) → (dated_type last ty ≡ part ty) ⊎ IsDated (dated_type last ty)
dated_part last (plain ty) = inl refl
dated_part last (array low high of at) = lead (is_date of)
  where
    lead : (t : Bool) → (cond t (a_date last) (part (array low high of at)) ≡ part (array low high of at))
        ⊎ IsDated (cond t (a_date last) (part (array low high of at)))
    lead true = inr (last, refl)
    lead false = inl refl
dated_part last (structure vars) = inl refl
dated_part last (named name at) = inl refl
dated_part last unread = inr (last, refl)

dated_tells : (last : Place) (o : Option Laid) (t : Thing) → Tells o t → Tells o (dated last t)
dated_tells last None t h = tt
dated_tells last (Some l) t (inl e) = subst (λ x. Tells (Some l) (dated last x)) (sym e) (dated_part last l.ty)
dated_tells last (Some l) t (inr d) = inr (d.0, ap (dated last) d.1)

step_dated : (scope : Scope) (t : Thing) (step : StepTree) → IsDated t → IsDated (thing_at scope t step)
step_dated scope t (field name place) d = (d.0, ap (λ x. thing_at scope x (field name place)) d.1)
step_dated scope t (index e place) d = (d.0, ap (λ x. thing_at scope x (index e place)) d.1)

part_tells : (scope : Scope) (l : Laid) (step : StepTree) → Tells (laid_at_step scope.project l step) (thing_at scope (part l.ty) step)
part_tells scope l (field name place) = field_tells scope l.ty name.key l.first place
part_tells scope l (index e place) = lead (literal_of e)
  where
    lead : (o : Option Written) → Tells (option_and_then (λ w. element_laid scope.project l w.value) o)
        (thing_at scope (part l.ty) (index e place))
    lead None = tt
    lead (Some w) = element_tells scope l.ty l.first w.value (first_place e)

step_tells : (scope : Scope) (o : Option Laid) (t : Thing) (step : StepTree) → Tells o t
    → Tells (option_and_then (λ l. laid_at_step scope.project l step) o) (thing_at scope t step)
step_tells scope None t step h = tt
step_tells scope (Some l) t step (inl e) =
    subst (λ x. Tells (laid_at_step scope.project l step) (thing_at scope x step)) (sym e) (part_tells scope l step)
step_tells scope (Some l) t step (inr d) =
    tells_date (laid_at_step scope.project l step) (thing_at scope t step) (step_dated scope t step d)

pub behind_tells : (scope : Scope) (more : StepTrees) (last : Place) (o : Option Laid) (t : Thing) → Tells o t
    → Tells (laid_behind scope.project o more) (thing_behind scope last t more)
behind_tells scope no_steps last o t h = dated_tells last o t h
behind_tells scope (steps step more) last o t h =
    behind_tells scope more (last_behind last step) _ _ (step_tells scope o (dated last t) step (dated_tells last o t h))
