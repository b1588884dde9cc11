-- What names mean by types and where they begin by the layout are the same parts, and so is what steps lead to.
use Rattle.std.proofs.Common.{◌≡◌, ℕ, ◌+◌, ◌*◌, ℤ, List, Bool, true, false, cond, ◌&&◌, Option, Some, None, refl, sym, ap, subst}
use Rattle.std.specs.Prelude.{⊤, ◌-ℤ◌, int_le, unsigned_abs}
use Rattle.std.proofs.lemmas.Bool.{false≢true}
use Rattle.pv_word.specs.declared.types.Ty.{Ty}
use Rattle.pv_word.specs.Types.{InRange}
use Rattle.pv_place.specs.declared.place.Place.{Place}
use Rattle.pv_types.specs.Tree.{TypeTree, plain, array, structure, named, unread, VarTree}
use Rattle.pv_types.specs.View.{listed}
use Rattle.pv_types.proofs.ForCallers.{fields-of-listed}
use Rattle.pv_tree.specs.declared.block.BlockKind.{BlockKind}
use Rattle.pv_tree.specs.declared.block.BlockKind.TheVariants.{Fb, Fc, Ob, Db, Udt}
use Rattle.pv_tree.specs.Tree.{StepTree, field, index, StepTrees, no_steps, steps}
use Rattle.pv_tree.specs.Scopes.{Scope}
use Rattle.pv_place.specs.declared.trap.TrapKind.{TrapKind}
use Rattle.pv_place.specs.declared.trap.TrapKind.TheVariants.{Index}
use Rattle.pv_tree.specs.Things.{Thing, part, constant, a_block, no_name, no_array, a_date, untold, first_place, is_date, dated_type, dated, field_among, field_of_type, field_of_kind, field_of_thing, element_of_type, element_of_thing, thing_at, last_behind, thing_behind}
use Rattle.pv_tree.specs.Rules.{KeepsRules}
use Rattle.pv_mean.specs.Layout.{Laid, size_in, field_from, element_from, is_db, held_by, data_type}
use Rattle.pv_mean.specs.Sources.{Source}
use Rattle.pv_mean.specs.Frames.{Frame}
use Rattle.pv_mean.specs.Endings.{Tried, got, trap, Value, and_then}
use Rattle.pv_mean.specs.Spots.{Spot, fixed, nowhere}
use Rattle.pv_mean.specs.Activations.{Activation, scope_in, Begins, in_visible, in_brief, at, visible_where, brief_where}
use Rattle.pv_mean.specs.Values.{value, behind, step_behind, field_begins, element_where, element_begins}
use Rattle.pv_laws_types.specs.Typed.{visible_types, brief_types, SpotHas}
use Rattle.pv_laws_types.proofs.Standing.{IsLaid, IsNothing, Both, field_both, element_laid_out}

-- ---- definitions

abbrev SpotIs : Source → Activation → TypeTree → Spot → Type 0
SpotIs source act (plain ty) spot = SpotHas source act ty spot
SpotIs source act (array low high of place) spot = ⊥
SpotIs source act (structure vars) spot = ⊥
SpotIs source act (named name place) spot = ⊥
SpotIs source act unread spot = ⊥

-- a part of the type begins there
abbrev pub BeginsAs : Source → Activation → TypeTree → Begins → Type 0
BeginsAs source act ty (in_visible laid) = IsLaid source.project (visible_types source) ty laid
BeginsAs source act ty (in_brief laid) = IsLaid source.project (brief_types source act) ty laid
BeginsAs source act ty (at spot) = SpotIs source act ty spot

-- a constant of the type is there
abbrev pub IsConstant : TypeTree → Begins → Type 0
IsConstant ty b = (v : ℤ) × (b ≡ at (fixed v)) × ((own : Ty) → ty ≡ plain own → InRange own v)

-- what is meant begins there
abbrev pub Means : Source → Activation → Thing → Begins → Type 0
Means source act (part ty) b = BeginsAs source act ty b
Means source act (constant ty) b = IsConstant ty b
Means source act (a_block x) b = is_db x.kind ≡ true → BeginsAs source act (data_type x) b
Means source act (no_name place) b = ⊤
Means source act (no_array place) b = ⊤
Means source act (a_date place) b = ⊤
Means source act untold b = ⊥

-- ---- what was got

abbrev was_got : {X : Type 0} → Tried X → Bool
was_got (got x) = true
was_got (trap kind place) = false

not_trapped : {X : Type 0} (kind : TrapKind) (place : Place) (x : X) → trap kind place ≡ got x → ⊥
not_trapped kind place x e = false≢true (ap was_got e)

same_got : {X : Type 0} (x y : X) → got x ≡ got y → x ≡ y
same_got x y e = cc

-- ---- parts that are found

nothing_means : (source : Source) (act : Activation) (t : Thing) (b : Begins) → IsNothing t → Means source act t b
nothing_means source act (part ty) b h = absurd h
nothing_means source act (constant ty) b h = absurd h
nothing_means source act (a_block x) b h = absurd h
nothing_means source act (no_name place) b h = tt
nothing_means source act (no_array place) b h = tt
nothing_means source act (a_date place) b h = tt
nothing_means source act untold b h = absurd h

pub visible_means : (source : Source) (act : Activation) (o : Option Laid) (t : Thing) → Both source.project (visible_types source) o t
    → Means source act t (visible_where o)
visible_means source act None t h = nothing_means source act t (at nowhere) h
visible_means source act (Some l) t h = subst (λ x. Means source act x (in_visible l)) (sym h.0) h.1

pub brief_means : (source : Source) (act : Activation) (o : Option Laid) (t : Thing) → Both source.project (brief_types source act) o t
    → Means source act t (brief_where o)
brief_means source act None t h = nothing_means source act t (at nowhere) h
brief_means source act (Some l) t h = subst (λ x. Means source act x (in_brief l)) (sym h.0) h.1

module _ (source : Source) (keeps : KeepsRules source.project) (act : Activation) where
  abbrev scope : Scope
  scope = scope_in source act

  -- ---- fields

  at_field : (ty : TypeTree) (spot : Spot) (key : List ℕ) (place : Place) → SpotIs source act ty spot
      → Means source act (field_of_type scope ty key place) (at nowhere)
  at_field (plain ty) spot key place h = tt
  at_field (array low high of o_place) spot key place h = absurd h
  at_field (structure vars) spot key place h = absurd h
  at_field (named name o_place) spot key place h = absurd h
  at_field unread spot key place h = absurd h

  part_field : (ty : TypeTree) (b : Begins) (key : List ℕ) (place : Place) → BeginsAs source act ty b
      → Means source act (field_of_type scope ty key place) (field_begins source b key)
  part_field ty (in_visible laid) key place h =
      subst (λ t. Means source act (field_of_type scope ty key place) (visible_where (field_from source.project t laid.first key))) (sym h.typed)
      (visible_means source act (field_from source.project ty laid.first key) (field_of_type scope ty key place)
      (field_both scope keeps (visible_types source) ty key laid.first place h.known h.stands))
  part_field ty (in_brief laid) key place h =
      subst (λ t. Means source act (field_of_type scope ty key place) (brief_where (field_from source.project t laid.first key))) (sym h.typed)
      (brief_means source act (field_from source.project ty laid.first key) (field_of_type scope ty key place)
      (field_both scope keeps (brief_types source act) ty key laid.first place h.known h.stands))
  part_field ty (at spot) key place h = at_field ty spot key place h

  kind_field : (kind : BlockKind) (vars : List VarTree) (b : Begins) (key : List ℕ) (place : Place)
      → (is_db kind ≡ true → BeginsAs source act (held_by kind vars) b)
      → Means source act (field_of_kind scope kind vars key place) (field_begins source b key)
  kind_field Fb vars b key place h = tt
  kind_field Fc vars b key place h = tt
  kind_field Ob vars b key place h = tt
  kind_field (Db None) vars b key place h =
      subst (λ vs. Means source act (field_among vs key place) (field_begins source b key)) (fields-of-listed vars)
      (part_field (structure (listed vars)) b key place (h refl))
  kind_field (Db (Some of)) vars b key place h = part_field (named of.0 of.1) b key place (h refl)
  kind_field Udt vars b key place h = tt

  field_means : (t : Thing) (b : Begins) (key : List ℕ) (place : Place) → Means source act t b
      → Means source act (field_of_thing scope t key place) (field_begins source b key)
  field_means (part ty) b key place h = part_field ty b key place h
  field_means (constant ty) b key place h = tt
  field_means (a_block x) b key place h = kind_field x.kind x.vars b key place h
  field_means (no_name p) b key place h = tt
  field_means (no_array p) b key place h = tt
  field_means (a_date p) b key place h = tt
  field_means untold b key place h = absurd h

  -- ---- elements

  element_part : (all : List Ty) (make : Laid → Begins) → ((ty : TypeTree) (l : Laid) → IsLaid source.project all ty l → BeginsAs source act ty (make l))
      → (ty : TypeTree) (first : ℕ) (i : ℤ) (place first_at : Place) (c : Begins) → IsLaid source.project all ty (record { ty = ty; first = first })
      → element_where make (element_from source.project ty first i) place ≡ got c
      → Means source act (element_of_type scope ty first_at) c
  element_part all make begun (plain ty) first i place first_at c h e = absurd (not_trapped Index place c e)
  element_part all make begun (array low high of o_place) first i place first_at c h e = lead (int_le low i && int_le i high) refl e
    where
      it : Laid
      it = record { ty = of; first = first + unsigned_abs (i -ℤ low) * size_in source.project of }

      lead : (t : Bool) → int_le low i && int_le i high ≡ t → element_where make (cond t (Some it) None) place ≡ got c
          → BeginsAs source act of c
      lead true is f = subst (BeginsAs source act of) (same_got (make it) c f)
          (begun of it (element_laid_out source.project all low high of o_place first i h.known h.stands is))
      lead false is f = absurd (not_trapped Index place c f)
  element_part all make begun (structure vars) first i place first_at c h e = absurd (not_trapped Index place c e)
  element_part all make begun (named name o_place) first i place first_at c h e = absurd (not_trapped Index place c e)
  element_part all make begun unread first i place first_at c h e = absurd (not_trapped Index place c e)

  of_type : (all : List Ty) (ty : TypeTree) (laid : Laid) → IsLaid source.project all ty laid
      → IsLaid source.project all ty (record { ty = ty; first = laid.first })
  of_type all ty laid h = record { typed = refl; known = h.known; stands = h.stands }

  at_element : (ty : TypeTree) (spot : Spot) (place : Place) → SpotIs source act ty spot
      → Means source act (element_of_type scope ty place) (at nowhere)
  at_element (plain ty) spot place h = tt
  at_element (array low high of o_place) spot place h = absurd h
  at_element (structure vars) spot place h = absurd h
  at_element (named name o_place) spot place h = absurd h
  at_element unread spot place h = absurd h

  part_element : (ty : TypeTree) (b c : Begins) (i : ℤ) (place first_at : Place) → BeginsAs source act ty b
      → element_begins source b i place ≡ got c → Means source act (element_of_type scope ty first_at) c
  part_element ty (in_visible laid) c i place first_at h e =
      element_part (visible_types source) in_visible (λ t l w. w) ty laid.first i place first_at c (of_type (visible_types source) ty laid h)
      (subst (λ t. element_where in_visible (element_from source.project t laid.first i) place ≡ got c) h.typed e)
  part_element ty (in_brief laid) c i place first_at h e =
      element_part (brief_types source act) in_brief (λ t l w. w) ty laid.first i place first_at c (of_type (brief_types source act) ty laid h)
      (subst (λ t. element_where in_brief (element_from source.project t laid.first i) place ≡ got c) h.typed e)
  part_element ty (at spot) c i place first_at h e =
      subst (Means source act (element_of_type scope ty first_at)) (same_got (at nowhere) c e) (at_element ty spot first_at h)

  element_means : (t : Thing) (b c : Begins) (i : ℤ) (place first_at : Place) → Means source act t b → element_begins source b i place ≡ got c
      → Means source act (element_of_thing scope t first_at) c
  element_means (part ty) b c i place first_at h e = part_element ty b c i place first_at h e
  element_means (constant ty) b c i place first_at h e = tt
  element_means (a_block x) b c i place first_at h e = tt
  element_means (no_name p) b c i place first_at h e = tt
  element_means (no_array p) b c i place first_at h e = tt
  element_means (a_date p) b c i place first_at h e = tt
  element_means untold b c i place first_at h e = absurd h

  -- ---- steps

  dated_part : (last : Place) (ty : TypeTree) (b : Begins) → BeginsAs source act ty b → Means source act (dated_type last ty) b
  dated_part last (plain ty) b h = h
  dated_part last (array low high of o_place) b h = lead (is_date of)
    where
      lead : (t : Bool) → Means source act (cond t (a_date last) (part (array low high of o_place))) b
      lead true = tt
      lead false = h
  dated_part last (structure vars) b h = h
  dated_part last (named name o_place) b h = h
  dated_part last unread b h = tt

  pub dated_means : (last : Place) (t : Thing) (b : Begins) → Means source act t b → Means source act (dated last t) b
  dated_means last (part ty) b h = dated_part last ty b h
  dated_means last (constant ty) b h = h
  dated_means last (a_block x) b h = h
  dated_means last (no_name p) b h = tt
  dated_means last (no_array p) b h = tt
  dated_means last (a_date p) b h = tt
  dated_means last untold b h = absurd h

  step_means : (frame : Frame) (t : Thing) (b c : Begins) (step : StepTree) → Means source act t b → step_behind source act frame b step ≡ got c
      → Means source act (thing_at scope t step) c
  step_means frame t b c (field name place) h e =
      subst (Means source act (field_of_thing scope t name.key place)) (same_got (field_begins source b name.key) c e)
      (field_means t b name.key place h)
  step_means frame t b c (index i place) h e = lead (value source act frame i) e
    where
      lead : (v : Value) → and_then v (λ n. element_begins source b n place) ≡ got c → Means source act (element_of_thing scope t (first_place i)) c
      lead (got n) f = element_means t b c n place (first_place i) h f
      lead (trap kind p) f = absurd (not_trapped kind p c f)

  pub behind_means : (frame : Frame) (more : StepTrees) (last : Place) (t : Thing) (b c : Begins) → Means source act t b
      → behind source act frame b more ≡ got c → Means source act (thing_behind scope last t more) c
  behind_means frame no_steps last t b c h e =
      subst (Means source act (dated last t)) (same_got b c e) (dated_means last t b h)
  behind_means frame (steps step more) last t b c h e =
      lead (λ x m f. behind_means frame more (last_behind last step) (thing_at scope (dated last t) step) x c m f)
      (step_behind source act frame b step) refl e
    where
      lead : ((x : Begins) → Means source act (thing_at scope (dated last t) step) x → behind source act frame x more ≡ got c
          → Means source act (thing_behind scope (last_behind last step) (thing_at scope (dated last t) step) more) c)
          → (v : Tried Begins) → step_behind source act frame b step ≡ v → and_then v (λ x. behind source act frame x more) ≡ got c
          → Means source act (thing_behind scope (last_behind last step) (thing_at scope (dated last t) step) more) c
      lead below (got x) is f = below x (step_means frame (dated last t) b x step (dated_means last t b h) is) f
      lead below (trap kind p) is f = absurd (not_trapped kind p c f)
