-- Where an access lies: among the cells of its block's instance, among the shared ones, or among those of one brief variable, wherever its
-- indexes lead; and that each step stays there. What lies among brief cells asks for something besides (`asks`): that frame and valuation say
-- the same of these.
use Rattle.std.proofs.Common.{◌≡◌, ◌≤◌, ◌<◌, ℕ, ◌+◌, ◌*◌, ℤ, ◌-ℤ◌, int_le, unsigned_abs, List, [], ◌∷◌, ◌++◌, Bool as Truth, true, false, ◌&&◌, not, Option, Some, None, refl, sym, subst, ◌∙◌, arith}
use Rattle.std.specs.Prelude.{⊤, slice_get, if◌then◌else◌}
use Rattle.std.proofs.lemmas.Bool.{false≢true, true≢false}
use Rattle.std.proofs.lemmas.Option.{none-some, same_Some}
use Rattle.pv_word.specs.declared.types.Ty.TheVariants.{Byte, Dint}
use Rattle.pv_word.specs.Types.{width_of}
use Rattle.pv_place.specs.declared.place.Place.{Place}
use Rattle.pv_place.specs.declared.trap.TrapKind.TheVariants.{Index}
use Rattle.pv_types.specs.Tree.{TypeTree, plain, array, structure, named, unread}
use Rattle.pv_tree.specs.Tree.{ExprTree, StepTree, field, index, BlockTree}
use Rattle.pv_tree.specs.LiteralTypes.{nothing}
use Rattle.pv_tree.specs.Rules.{KeepsRules}
use Rattle.pv_tree.specs.Scopes.{Scope}
use Rattle.pv_tree.specs.Types.{Written, literal_of}
use Rattle.pv_mean.specs.Layout.{Laid, size_in, entry_size, field_laid, element_from}
use Rattle.pv_mean.specs.Sources.{Source}
use Rattle.pv_mean.specs.Endings.{got, trap}
use Rattle.pv_mean.specs.Spots.{Spot, visible, brief, bit, bytes, fixed, nowhere}
use Rattle.pv_mean.specs.Activations.{Begins}
use Rattle.pv_flow.specs.Terms.{Term, Valuation, value_of, holds_in}
use Rattle.pv_variables.specs.Origins.{Origin, in_instance, in_table, in_activation, at_spot, laid_where, field_placed, element_placed, Elements, elements_laid, elements_placed}
use Rattle.pv_variables.specs.Variables.{shared_count, brief_variable}
use Rattle.pv_terms.specs.Forms.{outside_term}
use Rattle.pv_terms.specs.Correct.{IndexesHold}
use Rattle.pv_access.specs.Accesses.{Move}
use Rattle.pv_access.specs.Correct.{AreInside, checked}
use Rattle.pv_lower.specs.Storages.{Access}
use Rattle.pv_lower.specs.Lowered.{Lowered, Accessed, scope_of, as_type, to_known, to_moved, to_checked, index_check, move_of, lowered, stepped}
use Rattle.pv_laws_types.specs.Typed.{visible_types}
use Rattle.pv_laws_types.proofs.ForCallers.{IsKnown}
use Rattle.pv_laws_lower.specs.Agrees.{named_count}
use Rattle.pv_laws_lower.proofs.Checked.{both_passed, not_got}
use Rattle.pv_laws_lower.proofs.Rooms.{IsRoom, field_bounds, room_within, room_moved, element_bounds, inside_more}

-- ---- definitions

-- as many brief cells from one on, whose variables follow one another
pub record IsVariable (source : Source) (block : BlockTree) (first count : ℕ) : Type 0 where
  pub within : first + count ≤ named_count source block
  pub follows : (i : ℕ) → i < count → brief_variable source block (first + i) ≡ brief_variable source block first + i * 2

pub record InVariable (asks : Type 0) (source : Source) (block : BlockTree) (l : Laid) (ms : List Move) : Type 0 where
  pub first : ℕ
  pub count : ℕ
  pub room : IsRoom source.project l ms first count
  pub variable : IsVariable source block first count
  pub asked : asks

-- so many bytes among the shared cells
abbrev pub AreShared : Source → ℕ → ℕ → Type 0
AreShared source n count =
    (k : ℕ) → k < count
    → (entry_size source.project source.entry ≤ n + k) × (slice_get (visible_types source) (n + k) ≡ Some Byte)

abbrev pub SpotLies : Type 0 → Source → BlockTree → Spot → List Move → Type 0
SpotLies asks source block (visible n) ms = ⊥
SpotLies asks source block (brief ty j) ms = (ms ≡ []) × (j < named_count source block) × asks
SpotLies asks source block (bit n b) ms = (b < 8) × AreShared source n 1
SpotLies asks source block (bytes ty n count) ms = (count ≤ 4) × AreShared source n count × (8 * count ≡ width_of ty)
SpotLies asks source block (fixed v) ms = ⊤
SpotLies asks source block nowhere ms = ⊤

abbrev pub Lies : Type 0 → Source → BlockTree → Origin → List Move → Type 0
Lies asks source block (in_instance l) ms = IsRoom source.project l ms 0 (entry_size source.project block) × IsKnown source.project l.ty
Lies asks source block (in_table l) ms =
    IsRoom source.project l ms (entry_size source.project source.entry) (shared_count source) × IsKnown source.project l.ty
Lies asks source block (in_activation l) ms = InVariable asks source block l ms × IsKnown source.project l.ty
Lies asks source block (at_spot spot) ms = SpotLies asks source block spot ms

-- the indexes lie within their bounds, and the access among its cells
pub record IsKept (asks : Type 0) (source : Source) (block : BlockTree) (w : Valuation) (a : Access) : Type 0 where
  pub inside : AreInside w a.moves
  pub lies : Lies asks source block a.origin a.moves

-- ---- fields

module _ (asks : Type 0) (source : Source) (block : BlockTree) (rules : KeepsRules source.project) where
  abbrev scope : Scope
  scope = scope_of source block

  field_lies : (o : Origin) (ms : List Move) (key : List ℕ) → Lies asks source block o ms
      → Lies asks source block (field_placed source.project o key) ms
  field_lies (in_instance l) ms key h = by (field_laid source.project l key) refl
    where
      by : (o : Option Laid) → field_laid source.project l key ≡ o → Lies asks source block (laid_where in_instance o) ms
      by None is = tt
      by (Some f) is = let b = field_bounds scope rules l f key h.1 is in (room_within source.project l f ms _ _ b.0 b.1 h.0, b.2)
  field_lies (in_table l) ms key h = by (field_laid source.project l key) refl
    where
      by : (o : Option Laid) → field_laid source.project l key ≡ o → Lies asks source block (laid_where in_table o) ms
      by None is = tt
      by (Some f) is = let b = field_bounds scope rules l f key h.1 is in (room_within source.project l f ms _ _ b.0 b.1 h.0, b.2)
  field_lies (in_activation l) ms key h = by (field_laid source.project l key) refl
    where
      by : (o : Option Laid) → field_laid source.project l key ≡ o → Lies asks source block (laid_where in_activation o) ms
      by None is = tt
      by (Some f) is =
          let b = field_bounds scope rules l f key h.1 is in (
            record {
              first = h.0.first;
              count = h.0.count;
              room = room_within source.project l f ms h.0.first h.0.count b.0 b.1 h.0.room;
              variable = h.0.variable;
              asked = h.0.asked;
            },
            b.2,
          )
  field_lies (at_spot spot) ms key h = tt

  -- ---- elements at a literal index

  -- an element of what lies in a room lies in it
  element_lies : (make : Laid → Origin) (Room : Laid → Type 0) (ms : List Move) (ty : TypeTree) (first : ℕ) (i : ℤ)
      → ((l p : Laid) → l.first ≤ p.first → p.first + size_in source.project p.ty ≤ l.first + size_in source.project l.ty → Room l → Room p)
      → ((p : Laid) → Room p → IsKnown source.project p.ty → Lies asks source block (make p) ms)
      → Room (record { ty = ty; first = first }) → IsKnown source.project ty
      → Lies asks source block (laid_where make (element_from source.project ty first i)) ms
  element_lies make Room ms (plain ty) first i part lie room known = tt
  element_lies make Room ms (array low high of place) first i part lie room known = by (int_le low i && int_le i high) refl
    where
      p : Laid
      p = record { ty = of; first = first + unsigned_abs (i -ℤ low) * size_in source.project of }

      by : (b : Truth) → int_le low i && int_le i high ≡ b → Lies asks source block (laid_where make (if b then Some p else None)) ms
      by true is = lie p (part (record { ty = array low high of place; first = first }) p (omega arith)
          (element_bounds source.project low high of place first i is) room) known
      by false is = tt
  element_lies make Room ms (structure vars) first i part lie room known = tt
  element_lies make Room ms (named name place) first i part lie room known = tt
  element_lies make Room ms unread first i part lie room known = tt

  known_lies : (o : Origin) (ms : List Move) (i : ℤ) → Lies asks source block o ms → Lies asks source block (element_placed source.project o i) ms
  known_lies (in_instance l) ms i h =
      element_lies in_instance (λ x. IsRoom source.project x ms 0 (entry_size source.project block)) ms l.ty l.first i
      (λ x p a b r. room_within source.project x p ms _ _ a b r) (λ p r k. (r, k)) h.0 h.1
  known_lies (in_table l) ms i h =
      element_lies in_table (λ x. IsRoom source.project x ms (entry_size source.project source.entry) (shared_count source)) ms l.ty l.first i
      (λ x p a b r. room_within source.project x p ms _ _ a b r) (λ p r k. (r, k)) h.0 h.1
  known_lies (in_activation l) ms i h =
      element_lies in_activation (λ x. InVariable asks source block x ms) ms l.ty l.first i
      (λ x p a b r. record {
        first = r.first;
        count = r.count;
        room = room_within source.project x p ms r.first r.count a b r.room;
        variable = r.variable;
        asked = r.asked;
      })
      (λ p r k. (r, k)) h.0 h.1
  known_lies (at_spot spot) ms i h = tt

  -- ---- elements at any other

  head_lies : (make : Laid → Origin) (Room : Laid → List Move → Type 0) (ms : List Move) (t : Term) (ty : TypeTree) (first : ℕ) (e : Elements) (i : ℤ)
      → elements_laid make ty first ≡ Some e → int_le e.low i && int_le i e.high ≡ true
      → ((low high : ℤ) (of : TypeTree) (place : Place) → int_le low i && int_le i high ≡ true
      → Room (record { ty = array low high of place; first = first }) ms
      → Room (record { ty = of; first = first })
      (ms ++ record { index = t; low = low; high = high; stride = size_in source.project of } ∷ []))
      → ((p : Laid) (ns : List Move) → Room p ns → IsKnown source.project p.ty → Lies asks source block (make p) ns)
      → Room (record { ty = ty; first = first }) ms → IsKnown source.project ty
      → Lies asks source block e.head (ms ++ move_of source.project t e ∷ [])
  head_lies make Room ms t (array low high of place) first e i are inside moving lie room known =
      subst (λ (x : Elements). int_le x.low i && int_le i x.high ≡ true → Lies asks source block x.head (ms ++ move_of source.project t x ∷ []))
      (same_Some (record { low = low; high = high; of = of; head = make (record { ty = of; first = first }) }) e are)
      (λ within. lie (record { ty = of; first = first })
      (ms ++ record { index = t; low = low; high = high; stride = size_in source.project of } ∷ []) (moving low high of place within room) known) inside
  head_lies make Room ms t (plain ty) first e i are inside moving lie room known = absurd (none-some e are)
  head_lies make Room ms t (structure vars) first e i are inside moving lie room known = absurd (none-some e are)
  head_lies make Room ms t (named name place) first e i are inside moving lie room known = absurd (none-some e are)
  head_lies make Room ms t unread first e i are inside moving lie room known = absurd (none-some e are)

  moved_lies : (o : Origin) (ms : List Move) (t : Term) (e : Elements) (i : ℤ) → elements_placed o ≡ Some e
      → int_le e.low i && int_le i e.high ≡ true → Lies asks source block o ms
      → Lies asks source block e.head (ms ++ move_of source.project t e ∷ [])
  moved_lies (in_instance l) ms t e i are inside h =
      head_lies in_instance (λ x ns. IsRoom source.project x ns 0 (entry_size source.project block)) ms t l.ty l.first e i are inside
      (λ low high of place within r. room_moved source.project low high of place l.first ms
      (record { index = t; low = low; high = high; stride = size_in source.project of }) _ _ refl refl refl i within r)
      (λ p ns r k. (r, k)) h.0 h.1
  moved_lies (in_table l) ms t e i are inside h =
      head_lies in_table (λ x ns. IsRoom source.project x ns (entry_size source.project source.entry) (shared_count source)) ms t l.ty l.first e i
      are inside
      (λ low high of place within r. room_moved source.project low high of place l.first ms
      (record { index = t; low = low; high = high; stride = size_in source.project of }) _ _ refl refl refl i within r)
      (λ p ns r k. (r, k)) h.0 h.1
  moved_lies (in_activation l) ms t e i are inside h =
      head_lies in_activation (λ x ns. InVariable asks source block x ns) ms t l.ty l.first e i are inside
      (λ low high of place within r. record {
        first = r.first;
        count = r.count;
        room = room_moved source.project low high of place l.first ms
            (record { index = t; low = low; high = high; stride = size_in source.project of }) r.first r.count refl refl refl i within r.room;
        variable = r.variable;
        asked = r.asked;
      })
      (λ p ns r k. (r, k)) h.0 h.1
  moved_lies (at_spot spot) ms t e i are inside h = absurd (none-some e are)

  -- ---- steps

  -- an element at an index that is a literal or none
  abbrev accessed_by : Access → Place → ExprTree → Lowered → Option Written → Accessed
  accessed_by a place e l o = elim o [
    | Some x ↦ to_known source.project a x.value
    | None ↦ to_checked source.project a place (as_type Dint scope nothing e l)
  ]

  not_turned : (b : Truth) → not b ≡ false → b ≡ true
  not_turned true e = refl
  not_turned false e = absurd (true≢false e)

  and_both : (a b : Truth) → a && b ≡ true → (a ≡ true) × (b ≡ true)
  and_both true b e = (refl, e)
  and_both false b e = absurd (false≢true e)

  module _ (indexes : IndexesHold) (w : Valuation) where
    -- where the check of an index isn't true it lies within the bounds
    passed_inside : (place : Place) (t : Term) (e : Elements) (b : Begins) → checked w (index_check place t e ∷ []) b ≡ got b
        → int_le e.low (value_of w t) && int_le (value_of w t) e.high ≡ true
    passed_inside place t e b p =
        not_turned (int_le e.low (value_of w t) && int_le (value_of w t) e.high)
        (sym (indexes.outside w t e.low e.high) ∙ lead (holds_in w (outside_term t e.low e.high)) p)
      where
        lead : (h : Truth) → (if h then trap Index place else got b) ≡ got b → h ≡ false
        lead true x = absurd (not_got Index place b x)
        lead false x = refl

    moved_kept : (a : Access) (place : Place) (t : Term) (o : Option Elements) → elements_placed a.origin ≡ o → (b : Begins)
        → checked w (to_moved source.project a place t o).checks b ≡ got b → IsKept asks source block w a
        → IsKept asks source block w (to_moved source.project a place t o).access
    moved_kept a place t None are b p k = record { inside = k.inside; lies = tt }
    moved_kept a place t (Some e) are b p k =
        let within = passed_inside place t e b p in
        let two = and_both (int_le e.low (value_of w t)) (int_le (value_of w t) e.high) within in record {
          inside = inside_more w a.moves (move_of source.project t e) k.inside two.0 two.1;
          lies = moved_lies a.origin a.moves t e (value_of w t) are within k.lies;
        }

    element_kept : (a : Access) (place : Place) (e : ExprTree) (l : Lowered) (o : Option Written) (b : Begins)
        → checked w (accessed_by a place e l o).checks b ≡ got b → IsKept asks source block w a
        → IsKept asks source block w (accessed_by a place e l o).access
    element_kept a place e l (Some x) b p k = record { inside = k.inside; lies = known_lies a.origin a.moves x.value k.lies }
    element_kept a place e l None b p k =
        moved_kept a place (as_type Dint scope nothing e l).term (elements_placed a.origin) refl b
        (both_passed w l.checks (to_moved source.project a place (as_type Dint scope nothing e l).term (elements_placed a.origin)).checks b b p).1 k

    pub step_kept : (a : Access) (step : StepTree) (b : Begins) → checked w (stepped source block a step).checks b ≡ got b
        → IsKept asks source block w a → IsKept asks source block w (stepped source block a step).access
    step_kept a (field name place) b p k = record { inside = k.inside; lies = field_lies a.origin a.moves name.key k.lies }
    step_kept a (index e place) b p k = element_kept a place e (lowered source block nothing e) (literal_of e) b p k
