-- What an operand's name and steps mean by types, and where they are placed, are the same parts, whichever the activation and the indexes
-- are; and what is brief stays so along the steps.
use Rattle.std.proofs.Common.{◌≡◌, ◌⊎◌, inl, inr, ℕ, ◌+◌, ◌*◌, ℤ, ◌-ℤ◌, int_le, unsigned_abs, List, [], Bool as Truth, true, false, ◌&&◌, Option, Some, None, option_map, refl, sym, ap, subst, ◌∙◌, append-nil, arith}
use Rattle.std.specs.Prelude.{⊤, if◌then◌else◌}
use Rattle.pv_place.specs.declared.place.Place.{Place}
use Rattle.pv_types.specs.Tree.{TypeTree, plain, array, structure, named, unread, VarTree}
use Rattle.pv_types.specs.View.{listed}
use Rattle.pv_types.proofs.ForCallers.{fields-of-listed}
use Rattle.pv_tree.specs.declared.block.BlockKind.{BlockKind}
use Rattle.pv_tree.specs.declared.block.BlockKind.TheVariants.{Fb, Fc, Ob, Db, Udt}
use Rattle.pv_tree.specs.Rules.{KeepsRules}
use Rattle.pv_tree.specs.Scopes.{ProjectTree, Scope}
use Rattle.pv_tree.specs.Things.{Thing, part, constant, a_block, no_name, no_array, a_date, untold, is_date, dated_type, dated, field_among, field_of_type, field_of_kind, field_of_thing}
use Rattle.pv_mean.specs.Layout.{Laid, size_in, field_from, field_laid, element_from, is_db, held_by, data_type}
use Rattle.pv_mean.specs.Spots.{Spot, visible, brief, bit, bytes, fixed, nowhere}
use Rattle.pv_resolve.specs.Begins.{further}
use Rattle.pv_resolve.proofs.ForCallers.{field-shifted}
use Rattle.pv_variables.specs.Origins.{Origin, in_instance, in_table, in_activation, at_spot, laid_where, field_placed, element_placed, Elements, elements_laid, elements_placed}
use Rattle.pv_laws_types.specs.Typed.{StandAt}
use Rattle.pv_laws_types.proofs.ForCallers.{types_in, IsKnown, IsNothing, Both, field_both}

-- ---- definitions

abbrev pub IsPlain : TypeTree → Type 0
IsPlain (plain ty) = ⊤
IsPlain (array low high of place) = ⊥
IsPlain (structure vars) = ⊥
IsPlain (named name place) = ⊥
IsPlain unread = ⊥

-- a spot of a value that isn't a constant
abbrev pub IsSpot : Spot → Type 0
IsSpot (visible n) = ⊥
IsSpot (brief ty n) = ⊤
IsSpot (bit n b) = ⊤
IsSpot (bytes ty n count) = ⊤
IsSpot (fixed v) = ⊥
IsSpot nowhere = ⊥

abbrev pub IsConstantSpot : Spot → Type 0
IsConstantSpot (visible n) = ⊥
IsConstantSpot (brief ty n) = ⊥
IsConstantSpot (bit n b) = ⊥
IsConstantSpot (bytes ty n count) = ⊥
IsConstantSpot (fixed v) = ⊤
IsConstantSpot nowhere = ⊥

-- a part of the type is placed there
abbrev pub PartIs : ProjectTree → TypeTree → Origin → Type 0
PartIs project ty (in_instance l) = (l.ty ≡ ty) × IsKnown project ty
PartIs project ty (in_table l) = (l.ty ≡ ty) × IsKnown project ty
PartIs project ty (in_activation l) = (l.ty ≡ ty) × IsKnown project ty
PartIs project ty (at_spot spot) = IsPlain ty × IsSpot spot

abbrev pub ConstantIs : Origin → Type 0
ConstantIs (in_instance l) = ⊥
ConstantIs (in_table l) = ⊥
ConstantIs (in_activation l) = ⊥
ConstantIs (at_spot spot) = IsConstantSpot spot

abbrev pub Stands : ProjectTree → Thing → Origin → Type 0
Stands project (part ty) o = PartIs project ty o
Stands project (constant ty) o = ConstantIs o
Stands project (a_block x) o = is_db x.kind ≡ true → PartIs project (data_type x) o
Stands project (no_name place) o = ⊤
Stands project (no_array place) o = ⊤
Stands project (a_date place) o = ⊤
Stands project untold o = ⊤

-- it is a brief cell, or a part of some
abbrev pub is_hidden : Origin → Truth
is_hidden (in_instance l) = false
is_hidden (in_table l) = false
is_hidden (in_activation l) = true
is_hidden (at_spot (visible n)) = false
is_hidden (at_spot (brief ty n)) = true
is_hidden (at_spot (bit n b)) = false
is_hidden (at_spot (bytes ty n count)) = false
is_hidden (at_spot (fixed v)) = false
is_hidden (at_spot nowhere) = false

-- what isn't there
abbrev pub IsLost : Thing → Type 0
IsLost (part ty) = ⊥
IsLost (constant ty) = ⊥
IsLost (a_block b) = ⊥
IsLost (no_name place) = ⊤
IsLost (no_array place) = ⊤
IsLost (a_date place) = ⊤
IsLost untold = ⊤

-- a part of what is hidden is hidden, if it is there at all
abbrev pub StandsAs : ProjectTree → Thing → Origin → Origin → Type 0
StandsAs project t before o = Stands project t o × ((is_hidden o ≡ is_hidden before) ⊎ IsLost t)

-- ---- parts that are found or not

nothing_stands : (project : ProjectTree) (t : Thing) (before o : Origin) → IsNothing t → StandsAs project t before o
nothing_stands project (part ty) before o h = absurd h
nothing_stands project (constant ty) before o h = absurd h
nothing_stands project (a_block x) before o h = absurd h
nothing_stands project (no_name place) before o h = (tt, inr tt)
nothing_stands project (no_array place) before o h = (tt, inr tt)
nothing_stands project (a_date place) before o h = (tt, inr tt)
nothing_stands project untold before o h = absurd h

module _ (scope : Scope) (keeps : KeepsRules scope.project) where
  abbrev project : ProjectTree
  project = scope.project

  whole_stands : (ty : TypeTree) → StandAt (types_in project ty) (types_in project ty) 0
  whole_stands ty = record { front = []; back = []; is = sym (append-nil (types_in project ty)); at = refl }

  -- ---- fields

  -- a kind of cells among which parts are placed
  record IsKind (make : Laid → Origin) : Type 0 where
    stands : (l : Laid) → IsKnown project l.ty → PartIs project l.ty (make l)
    hidden : (l m : Laid) → is_hidden (make l) ≡ is_hidden (make m)

  instance_kind : IsKind in_instance
  instance_kind = record { stands = λ l k. (refl, k); hidden = λ l m. refl }

  table_kind : IsKind in_table
  table_kind = record { stands = λ l k. (refl, k); hidden = λ l m. refl }

  activation_kind : IsKind in_activation
  activation_kind = record { stands = λ l k. (refl, k); hidden = λ l m. refl }

  field_among_cells : (make : Laid → Origin) → IsKind make → (l : Laid) (ty : TypeTree) (key : List ℕ) (place : Place) → l.ty ≡ ty → IsKnown project ty
      → StandsAs project (field_of_type scope ty key place) (make l) (laid_where make (field_laid project l key))
  field_among_cells make kind l ty key place typed known =
      subst (λ t. StandsAs project (field_of_type scope t key place) (make l) (laid_where make (field_laid project l key))) typed
      (subst (λ o. StandsAs project (field_of_type scope l.ty key place) (make l) (laid_where make o))
      (sym (field-shifted project (record { ty = l.ty; first = 0 }) key l.first)
      ∙ ap (λ (n : ℕ). field_from project l.ty n key) (none_more l.first))
      (lead (field_from project l.ty 0 key) (field_of_type scope l.ty key place)
      (field_both scope keeps (types_in project l.ty) l.ty key 0 place (subst (IsKnown project) (sym typed) known) (whole_stands l.ty))))
    where
      none_more : (n : ℕ) → n + 0 ≡ n
      none_more n = omega arith

      lead : (o : Option Laid) (t : Thing) → Both project (types_in project l.ty) o t
          → StandsAs project t (make l) (laid_where make (option_map (further l.first) o))
      lead None t both = nothing_stands project t (make l) (at_spot nowhere) both
      lead (Some f) t both = (
        subst (λ x. Stands project x (make (further l.first f))) (sym both.0) (kind.stands (further l.first f) both.1.known),
        inl (kind.hidden (further l.first f) l),
      )

  part_field : (ty : TypeTree) (o : Origin) (key : List ℕ) (place : Place) → PartIs project ty o
      → StandsAs project (field_of_type scope ty key place) o (field_placed project o key)
  part_field ty (in_instance l) key place h = field_among_cells in_instance instance_kind l ty key place h.0 h.1
  part_field ty (in_table l) key place h = field_among_cells in_table table_kind l ty key place h.0 h.1
  part_field ty (in_activation l) key place h = field_among_cells in_activation activation_kind l ty key place h.0 h.1
  part_field (plain ty) (at_spot spot) key place h = (tt, inr tt)
  part_field (array low high of p) (at_spot spot) key place h = absurd h.0
  part_field (structure vars) (at_spot spot) key place h = absurd h.0
  part_field (named name p) (at_spot spot) key place h = absurd h.0
  part_field unread (at_spot spot) key place h = absurd h.0

  kind_field : (kind : BlockKind) (vars : List VarTree) (o : Origin) (key : List ℕ) (place : Place)
      → (is_db kind ≡ true → PartIs project (held_by kind vars) o)
      → StandsAs project (field_of_kind scope kind vars key place) o (field_placed project o key)
  kind_field Fb vars o key place h = (tt, inr tt)
  kind_field Fc vars o key place h = (tt, inr tt)
  kind_field Ob vars o key place h = (tt, inr tt)
  kind_field (Db None) vars o key place h =
      subst (λ vs. StandsAs project (field_among vs key place) o (field_placed project o key)) (fields-of-listed vars)
      (part_field (structure (listed vars)) o key place (h refl))
  kind_field (Db (Some of)) vars o key place h = part_field (named of.0 of.1) o key place (h refl)
  kind_field Udt vars o key place h = (tt, inr tt)

  pub field_stands : (t : Thing) (o : Origin) (key : List ℕ) (place : Place) → Stands project t o
      → StandsAs project (field_of_thing scope t key place) o (field_placed project o key)
  field_stands (part ty) o key place h = part_field ty o key place h
  field_stands (constant ty) o key place h = (tt, inr tt)
  field_stands (a_block x) o key place h = kind_field x.kind x.vars o key place h
  field_stands (no_name p) o key place h = (tt, inr tt)
  field_stands (no_array p) o key place h = (tt, inr tt)
  field_stands (a_date p) o key place h = (tt, inr tt)
  field_stands untold o key place h = (tt, inr tt)

  -- ---- elements

  -- an array's first element
  pub record HasElements (o : Origin) (low high : ℤ) (of : TypeTree) : Type 0 where
    pub elements : Elements
    pub are : elements_placed o ≡ Some elements
    pub low_is : elements.low ≡ low
    pub high_is : elements.high ≡ high
    pub head : PartIs project of elements.head
    pub hidden : is_hidden elements.head ≡ is_hidden o

  pub elements_stand : (low high : ℤ) (of : TypeTree) (p : Place) (o : Origin) → PartIs project (array low high of p) o → HasElements o low high of
  elements_stand low high of p (in_instance l) h = record {
    elements = record { low = low; high = high; of = of; head = in_instance (record { ty = of; first = l.first }) };
    are = ap (λ t. elements_laid in_instance t l.first) h.0;
    low_is = refl;
    high_is = refl;
    head = (refl, h.1);
    hidden = refl;
  }
  elements_stand low high of p (in_table l) h = record {
    elements = record { low = low; high = high; of = of; head = in_table (record { ty = of; first = l.first }) };
    are = ap (λ t. elements_laid in_table t l.first) h.0;
    low_is = refl;
    high_is = refl;
    head = (refl, h.1);
    hidden = refl;
  }
  elements_stand low high of p (in_activation l) h = record {
    elements = record { low = low; high = high; of = of; head = in_activation (record { ty = of; first = l.first }) };
    are = ap (λ t. elements_laid in_activation t l.first) h.0;
    low_is = refl;
    high_is = refl;
    head = (refl, h.1);
    hidden = refl;
  }
  elements_stand low high of p (at_spot spot) h = absurd h.0

  -- the element at an index within the bounds
  known_among : (make : Laid → Origin) → IsKind make → (low high : ℤ) (of : TypeTree) (p : Place) (i : ℤ) (l : Laid)
      → int_le low i && int_le i high ≡ true → l.ty ≡ array low high of p → IsKnown project of
      → PartIs project of (laid_where make (element_from project l.ty l.first i))
      × (is_hidden (laid_where make (element_from project l.ty l.first i)) ≡ is_hidden (make l))
  known_among make kind low high of p i l inside typed known =
      subst (λ x. PartIs project of x × (is_hidden x ≡ is_hidden (make l)))
      (sym (ap (λ t. laid_where make (element_from project t l.first i)) typed ∙ ap (λ b. laid_where make (if b then Some it else None)) inside))
      (kind.stands it known, kind.hidden it l)
    where
      it : Laid
      it = record { ty = of; first = l.first + unsigned_abs (i -ℤ low) * size_in project of }

  pub known_stands : (low high : ℤ) (of : TypeTree) (p : Place) (i : ℤ) (o : Origin) → int_le low i && int_le i high ≡ true
      → PartIs project (array low high of p) o
      → PartIs project of (element_placed project o i) × (is_hidden (element_placed project o i) ≡ is_hidden o)
  known_stands low high of p i (in_instance l) inside h = known_among in_instance instance_kind low high of p i l inside h.0 h.1
  known_stands low high of p i (in_table l) inside h = known_among in_table table_kind low high of p i l inside h.0 h.1
  known_stands low high of p i (in_activation l) inside h = known_among in_activation activation_kind low high of p i l inside h.0 h.1
  known_stands low high of p i (at_spot spot) inside h = absurd h.0

  -- ---- what is dated

  dated_part : (last : Place) (ty : TypeTree) (o : Origin) → PartIs project ty o → Stands project (dated_type last ty) o
  dated_part last (plain ty) o h = h
  dated_part last (array low high of p) o h = lead (is_date of)
    where
      lead : (t : Truth) → Stands project (if t then a_date last else part (array low high of p)) o
      lead true = tt
      lead false = h
  dated_part last (structure vars) o h = h
  dated_part last (named name p) o h = h
  dated_part last unread o h = tt

  pub dated_stands : (last : Place) (t : Thing) (o : Origin) → Stands project t o → Stands project (dated last t) o
  dated_stands last (part ty) o h = dated_part last ty o h
  dated_stands last (constant ty) o h = h
  dated_stands last (a_block x) o h = h
  dated_stands last (no_name p) o h = tt
  dated_stands last (no_array p) o h = tt
  dated_stands last (a_date p) o h = tt
  dated_stands last untold o h = tt
