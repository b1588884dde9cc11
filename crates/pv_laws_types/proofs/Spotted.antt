-- The spot that an operand names is one of its type, and what is read there is a value of it.
use Rattle.std.proofs.Common.{◌≡◌, ◌<◌, ℕ, zero, suc, ℤ, pos, List, [], ◌∷◌, map, Bool, true, false, cond, not, Option, Some, None, refl, sym, ap, subst, ◌∙◌, arith}
use Rattle.std.specs.Prelude.{is_some, slice_get, slice_index_or}
use Rattle.std.specs.Int.{bit_at}
use Rattle.std.proofs.lemmas.Bool.{false≢true}
use Rattle.std.proofs.lemmas.Int.{ints}
use Rattle.std.proofs.lemmas.Option.{none-some}
use Rattle.pv_word.specs.declared.types.Ty.{Ty}
use Rattle.pv_word.specs.declared.types.Ty.TheVariants.{Bool as BoolType, Byte}
use Rattle.pv_word.specs.Types.{InRange, width_of, is_signed_of, pattern_of, bit_of}
use Rattle.pv_word.proofs.ForCallers.{wide, wrap-in_range}
use Rattle.pv_place.specs.declared.place.Place.{Place}
use Rattle.pv_place.specs.declared.trap.TrapKind.{TrapKind}
use Rattle.pv_place.specs.declared.trap.TrapKind.TheVariants.{Unset}
use Rattle.pv_place.specs.Ranges.{range_of, AreWithin}
use Rattle.pv_types.specs.Tree.{TypeTree, plain, array, structure, named, unread}
use Rattle.pv_tree.specs.declared.expr.Root.{Root}
use Rattle.pv_tree.specs.declared.expr.Root.TheVariants.{Local, Named, Area as InArea}
use Rattle.pv_tree.specs.Tree.{OperandTree, operand, field, index, StepTrees, no_steps, steps}
use Rattle.pv_tree.specs.LiteralTypes.{Want}
use Rattle.pv_tree.specs.Sorts.{whole, broken, own_type, taken}
use Rattle.pv_tree.specs.Scopes.{Scope, type_named}
use Rattle.pv_tree.specs.Things.{Thing, part, constant, a_block, no_name, no_array, a_date, untold, is_address, type_of_bits, thing_behind, thing_of, thing_of_root, root_place}
use Rattle.pv_tree.specs.Types.{sort_of_type, sort_of_thing, is_void, sort_of_operand, are_indexed}
use Rattle.pv_tree.specs.Rules.{KeepsRules}
use Rattle.pv_tree.specs.Rules.Addresses.{is_wrong_root, is_wrong_operand}
use Rattle.pv_mean.specs.declared.cell.Cell.{Cell}
use Rattle.pv_mean.specs.Sources.{Source}
use Rattle.pv_mean.specs.Frames.{Frame, visible_cells, visible_value, brief_value}
use Rattle.pv_mean.specs.Endings.{Tried, got, trap, and_then}
use Rattle.pv_mean.specs.Spots.{Spot, visible, brief, bit, bytes, fixed, nowhere, number_of_bytes, told, read_spot}
use Rattle.pv_mean.specs.Activations.{Activation, scope_in, Begins, in_visible, in_brief, at, spot_by, spot_of, root_begins}
use Rattle.pv_mean.specs.Values.{locate, behind}
use Rattle.pv_laws_types.specs.Typed.{types_of_cells, visible_types, brief_types, HasTable, IsAtWork, CellsLie, SpotHas, SymbolsSuit}
use Rattle.pv_laws_types.proofs.Standing.{stand_get}
use Rattle.pv_laws_types.proofs.Tables.{Shows}
use Rattle.pv_laws_types.proofs.Locating.{BeginsAs, IsConstant, Means, behind_means}
use Rattle.pv_laws_types.proofs.Rooted.{root_means}

same_some : {X : Type 0} (x y : X) → Some x ≡ Some y → x ≡ y
same_some x y e = cc

same_got : {X : Type 0} (x y : X) → got x ≡ got y → x ≡ y
same_got x y e = cc

abbrev was_got : {X : Type 0} → Tried X → Bool
was_got (got x) = true
was_got (trap kind place) = false

pub not_got : {X : Type 0} (kind : TrapKind) (place : Place) (x : X) → trap kind place ≡ got x → ⊥
not_got kind place x e = false≢true (ap was_got e)

-- ---- what begins somewhere has its spot there

pub spot_has : (source : Source) (act : Activation) (ty : Ty) (b : Begins) → BeginsAs source act (plain ty) b → SpotHas source act ty (spot_of b)
spot_has source act ty (in_visible laid) h =
    subst (λ t. SpotHas source act ty (spot_by (λ own n. visible n) t laid.first)) (sym h.typed)
    (stand_get (visible_types source) ty laid.first h.stands)
spot_has source act ty (in_brief laid) h =
    subst (λ t. SpotHas source act ty (spot_by brief t laid.first)) (sym h.typed) (refl, stand_get (brief_types source act) ty laid.first h.stands)
spot_has source act ty (at spot) h = h

constant_has : (source : Source) (act : Activation) (ty : Ty) (b : Begins) → IsConstant (plain ty) b → SpotHas source act ty (spot_of b)
constant_has source act ty b h = subst (λ x. SpotHas source act ty (spot_of x)) (sym h.1) (h.2 ty refl)

-- ---- what is meant, where it has a type

type_told : (scope : Scope) (want : Want) (t : TypeTree) (ty : Ty) → own_type (taken want (sort_of_type scope t)) ≡ Some ty → t ≡ plain ty
type_told scope want (plain own) ty e = ap plain (same_some own ty e)
type_told scope want (array low high of o_place) ty e = absurd (none-some ty e)
type_told scope want (structure vars) ty e = absurd (none-some ty e)
type_told scope want (named name o_place) ty e = lead (is_some (type_named scope.project name.key)) e
  where
    lead : (b : Bool) → own_type (taken want (cond b whole broken)) ≡ Some ty → named name o_place ≡ plain ty
    lead true f = absurd (none-some ty f)
    lead false f = absurd (none-some ty f)
type_told scope want unread ty e = absurd (none-some ty e)

thing_has : (source : Source) (act : Activation) (scope : Scope) (want : Want) (t : Thing) (b : Begins) (ty : Ty) → Means source act t b
    → own_type (taken want (sort_of_thing scope t)) ≡ Some ty → SpotHas source act ty (spot_of b)
thing_has source act scope want (part t) b ty h e =
    spot_has source act ty b (subst (λ x. BeginsAs source act x b) (type_told scope want t ty e) h)
thing_has source act scope want (constant t) b ty h e =
    constant_has source act ty b (subst (λ x. IsConstant x b) (type_told scope want t ty e) h)
thing_has source act scope want (a_block x) b ty h e = lead (is_void x) e
  where
    lead : (v : Bool) → own_type (taken want (cond v broken whole)) ≡ Some ty → SpotHas source act ty (spot_of b)
    lead true f = absurd (none-some ty f)
    lead false f = absurd (none-some ty f)
thing_has source act scope want (no_name p) b ty h e = absurd (none-some ty e)
thing_has source act scope want (no_array p) b ty h e = absurd (none-some ty e)
thing_has source act scope want (a_date p) b ty h e = absurd (none-some ty e)
thing_has source act scope want untold b ty h e = absurd h

-- ---- operands

untold_stays : (scope : Scope) (last : Place) (more : StepTrees) → thing_behind scope last untold more ≡ untold
untold_stays scope last no_steps = refl
untold_stays scope last (steps (field name place) more) = untold_stays scope place more
untold_stays scope last (steps (index e place) more) = untold_stays scope last more

wrong_untold : (scope : Scope) (root : Root) (place : Place) → is_wrong_root root ≡ true → thing_of_root scope root place ≡ untold
wrong_untold scope (Local name hash o_place) place e = absurd (false≢true e)
wrong_untold scope (Named name) place e = absurd (false≢true e)
wrong_untold scope (InArea area bits byte n) place e = lead (part (plain (type_of_bits bits))) (is_address bits byte n) e
  where
    lead : (t : Thing) (b : Bool) → not b ≡ true → cond b t untold ≡ untold
    lead t true f = absurd (false≢true f)
    lead t false f = refl

-- what an operand names begins somewhere, and its spot is there
pub record Located (source : Source) (act : Activation) (o : OperandTree) (spot : Spot) : Type 0 where
  pub begins : Begins
  pub is : spot_of begins ≡ spot
  pub means : Means source act (thing_of (scope_in source act) o) begins

module _ (shows : Shows) (source : Source) (table : HasTable source) (keeps : KeepsRules source.project) (symbols : SymbolsSuit source.project)
    (act : Activation) (work : IsAtWork source act) (frame : Frame) where
  pub located : (o : OperandTree) (spot : Spot) → is_wrong_operand o ≡ false → locate source act frame o ≡ got spot
      → Located source act o spot
  located (operand root more place) spot right e = lead (behind source act frame (root_begins source act root) more) refl e
    where
      lead : (t : Tried Begins) → behind source act frame (root_begins source act root) more ≡ t
          → and_then t (λ b. got (spot_of b)) ≡ got spot → Located source act (operand root more place) spot
      lead (got b) is f = record {
        begins = b;
        is = same_got (spot_of b) spot f;
        means = behind_means source keeps act frame more (root_place root place) (thing_of_root (scope_in source act) root place)
            (root_begins source act root) b (root_means shows source table keeps symbols act work root place right) is;
      }
      lead (trap kind p) is f = absurd (not_got kind p spot f)

  -- the spot of an operand of a type
  pub typed_spot : (want : Want) (o : OperandTree) (spot : Spot) (ty : Ty)
      → own_type (taken want (sort_of_operand (scope_in source act) o)) ≡ Some ty → locate source act frame o ≡ got spot
      → SpotHas source act ty spot
  typed_spot want (operand root more place) spot ty e at_spot =
      lead (are_indexed scope (root_place root place) (thing_of_root scope root place) more) e
    where
      scope : Scope
      scope = scope_in source act

      o : OperandTree
      o = operand root more place

      right : own_type (taken want (sort_of_thing scope (thing_of scope o))) ≡ Some ty → (w : Bool) → is_wrong_root root ≡ w
          → SpotHas source act ty spot
      right f true w = absurd (none-some ty (sym (ap (λ t. own_type (taken want (sort_of_thing scope t)))
          (ap (λ t. thing_behind scope (root_place root place) t more) (wrong_untold scope root place w)
          ∙ untold_stays scope (root_place root place) more)) ∙ f))
      right f false w =
          let l = located o spot w at_spot in
          subst (SpotHas source act ty) l.is (thing_has source act scope want (thing_of scope o) l.begins ty l.means f)

      lead : (b : Bool) → own_type (taken want (cond b (sort_of_thing scope (thing_of scope o)) broken)) ≡ Some ty → SpotHas source act ty spot
      lead true f = right f (is_wrong_root root) refl
      lead false f = absurd (none-some ty f)

-- ---- reads

within_at : (cells : List Cell) (values : List ℤ) (n : ℕ) (ty : Ty) → AreWithin (map (λ c. range_of c.ty) cells) values
    → slice_get (types_of_cells cells) n ≡ Some ty → InRange ty (slice_index_or values n (pos 0))
within_at [] values n ty w e = absurd (none-some ty e)
within_at (c ∷ cs) [] n ty w e = absurd w
within_at (c ∷ cs) (v ∷ vs) zero ty w e =
    subst (λ t. InRange t v) (same_some c.ty ty e) (record { from = w.0.from; to = w.0.to })
within_at (c ∷ cs) (v ∷ vs) (suc n) ty w e = within_at cs vs n ty w.1 e

bit_small : (n i : ℕ) → bit_at n i < 2
bit_small n i = omega arith

bit_in : (n : ℕ) → n < 2 → InRange BoolType (pos n)
bit_in n lt = record { from = omega (arith, ints); to = omega (arith, ints) }

pub read_lies : (source : Source) (act : Activation) (frame : Frame) → CellsLie source act frame → (ty : Ty) (spot : Spot) (place : Place)
    (v : ℤ) → SpotHas source act ty spot → read_spot frame place spot ≡ got v → InRange ty v
read_lies source act frame lie ty (visible n) place v has e =
    subst (InRange ty) (same_got (visible_value frame n) v e) (within_at (visible_cells source.cells) frame.visible n ty lie.visible has)
read_lies source act frame lie ty (brief own n) place v has e = lead (brief_value frame n) refl e
  where
    lead : (o : Option ℤ) → brief_value frame n ≡ o → told o place ≡ got v → InRange ty v
    lead None is f = absurd (not_got Unset place v f)
    lead (Some w) is f = subst (InRange ty) (same_got w v f) (lie.brief n ty w has.1 is)
read_lies source act frame lie ty (bit n b) place v has e =
    subst (λ t. InRange t v) (sym has) (subst (InRange BoolType) (same_got (pos (bit_of Byte (visible_value frame n) b)) v e)
    (bit_in (bit_of Byte (visible_value frame n) b) (bit_small (pattern_of Byte (visible_value frame n)) b)))
read_lies source act frame lie ty (bytes own n count) place v has e =
    subst (λ t. InRange t v) has (subst (InRange own) (same_got _ v e)
    (wrap-in_range (width_of own) (is_signed_of own) (pos (number_of_bytes frame n count 0)) (wide own)))
read_lies source act frame lie ty (fixed w) place v has e = subst (InRange ty) (same_got w v e) has
read_lies source act frame lie ty nowhere place v has e = absurd has
