-- Where operands lead: what their steps come to is where their access leads, by the indexes' values, where none of their checks is true.
use Rattle.std.proofs.Common.{◌≡◌, ℕ, ◌+◌, ◌*◌, ℤ, ◌-ℤ◌, int_le, unsigned_abs, List, [], ◌∷◌, ◌++◌, Bool as Truth, true, false, ◌&&◌, not, Option, Some, None, refl, sym, ap, subst, ◌∙◌, arith}
use Rattle.std.specs.Prelude.{⊤, option_and_then, if◌then◌else◌}
use Rattle.std.proofs.lemmas.Bool.{false≢true}
use Rattle.std.proofs.lemmas.Option.{none-some, same_Some}
use Rattle.pv_word.specs.declared.types.Ty.{Ty}
use Rattle.pv_word.specs.declared.types.Ty.TheVariants.{Bool, Byte, Word, Dword, Int, Dint, Time}
use Rattle.pv_word.specs.Types.{InRange}
use Rattle.pv_place.specs.declared.place.Place.{Place}
use Rattle.pv_place.specs.declared.trap.TrapKind.TheVariants.{Index}
use Rattle.pv_types.specs.Tree.{TypeTree, plain, array, structure, named, unread}
use Rattle.pv_tree.specs.Tree.{ExprTree, lit, read, unary, binary, std, paren, StepTree, field, index, StepTrees, no_steps, steps}
use Rattle.pv_tree.specs.LiteralTypes.{nothing, is_whole_number}
use Rattle.pv_tree.specs.Sorts.{own_type, one_of, common_type, result_of_unary, taken}
use Rattle.pv_tree.specs.Scopes.{Scope, type_named}
use Rattle.pv_tree.specs.Things.{Thing, part, constant, a_block, no_name, no_array, a_date, untold, dated, dated_type, is_date, thing_at, last_behind, thing_behind, first_place, no_array_where, element_of_thing}
use Rattle.pv_tree.specs.Rules.{KeepsRules}
use Rattle.pv_tree.specs.Types.{Written, literal_of, sort_of_written, sort_where, sort_of_thing, sort_of, is_index_type, lies_between, is_index, is_indexed, are_indexed}
use Rattle.pv_tree.specs.Parts.{parts_of, parts_of_steps, parts_of_step}
use Rattle.pv_mean.specs.Layout.{Laid, size_in, element_from}
use Rattle.pv_mean.specs.Sources.{Source}
use Rattle.pv_mean.specs.Frames.{Frame}
use Rattle.pv_mean.specs.Endings.{got, trap, and_then}
use Rattle.pv_mean.specs.Activations.{Activation, Begins, in_visible, in_brief}
use Rattle.pv_mean.specs.Values.{value, behind, step_behind, field_begins, element_where, element_begins}
use Rattle.pv_flow.specs.Terms.{Term, Valuation, value_of, holds_in}
use Rattle.pv_resolve.specs.Begins.{begins_further}
use Rattle.pv_resolve.proofs.ForCallers.{field_further}
use Rattle.pv_variables.specs.Origins.{Origin, in_instance, in_table, in_activation, at_spot, origin_at, laid_where, field_placed, element_placed, Elements, elements_laid, elements_placed}
use Rattle.pv_variables.specs.Correct.{FieldsArePlaced, ElementsArePlaced}
use Rattle.pv_terms.specs.Forms.{outside_term}
use Rattle.pv_access.specs.Accesses.{Move}
use Rattle.pv_access.specs.Correct.{checked, moved_by}
use Rattle.pv_lower.specs.Storages.{Access}
use Rattle.pv_lower.specs.Lowered.{Lowered, Accessed, scope_of, part_type, typed, as_type, to_known, to_moved, to_checked, to_element, index_check, move_of, lowered, reached, stepped}
use Rattle.pv_laws_types.proofs.ForCallers.{ReadsLie, widens_lies, BeginsAs, Means, behind_means}
use Rattle.pv_laws_lower.specs.Below.{TermLaws}
use Rattle.pv_laws_lower.specs.Agrees.{outcome}
use Rattle.pv_laws_lower.proofs.Checked.{then_checked, passed_over, got_there, got_then}
use Rattle.pv_laws_lower.proofs.Functions.{at_value}
use Rattle.pv_laws_lower.proofs.Values.{AreGood, good_front, good_back, typed_as, ReadsIn, value_is, part_lies, literal_valued}

-- where an access leads
abbrev pub begun : Valuation → ℕ → Access → Begins
begun w first a = begins_further (moved_by w a.moves) (origin_at first a.origin)

-- ---- what is no part stays so

pub lost_array : (scope : Scope) (last p : Place) (more : StepTrees) → thing_behind scope last (no_array p) more ≡ no_array p
lost_array scope last p no_steps = refl
lost_array scope last p (steps (field name place) more) = lost_array scope place p more
lost_array scope last p (steps (index e place) more) = lost_array scope last p more

pub lost_name : (scope : Scope) (last p : Place) (more : StepTrees) → thing_behind scope last (no_name p) more ≡ no_name p
lost_name scope last p no_steps = refl
lost_name scope last p (steps (field name place) more) = lost_name scope place p more
lost_name scope last p (steps (index e place) more) = lost_name scope last p more

pub lost_date : (scope : Scope) (last p : Place) (more : StepTrees) → thing_behind scope last (a_date p) more ≡ a_date p
lost_date scope last p no_steps = refl
lost_date scope last p (steps (field name place) more) = lost_date scope place p more
lost_date scope last p (steps (index e place) more) = lost_date scope last p more

pub lost_untold : (scope : Scope) (last : Place) (more : StepTrees) → thing_behind scope last untold more ≡ untold
lost_untold scope last no_steps = refl
lost_untold scope last (steps (field name place) more) = lost_untold scope place more
lost_untold scope last (steps (index e place) more) = lost_untold scope last more

-- what steps lead to has a type
abbrev pub HasOwn : Scope → Thing → Ty → Type 0
HasOwn scope t ty = own_type (sort_of_thing scope t) ≡ Some ty

not_own : (scope : Scope) (x y : Thing) (ty : Ty) → x ≡ y → own_type (sort_of_thing scope y) ≡ None → HasOwn scope x ty → ⊥
not_own scope x y ty same lost own = none-some ty (sym lost ∙ ap (λ t. own_type (sort_of_thing scope t)) (sym same) ∙ own)

-- dated once more it stays
dated_type_again : (last : Place) (t : TypeTree) → dated last (dated_type last t) ≡ dated_type last t
dated_type_again last (plain ty) = refl
dated_type_again last (array low high of place) = lead (is_date of) refl
  where
    lead : (b : Truth) → is_date of ≡ b
        → dated last (if b then a_date last else part (array low high of place)) ≡ (if b then a_date last else part (array low high of place))
    lead true e = refl
    lead false e = ap (λ b. if b then a_date last else part (array low high of place)) e
dated_type_again last (structure vars) = refl
dated_type_again last (named name place) = refl
dated_type_again last unread = refl

dated_again : (last : Place) (t : Thing) → dated last (dated last t) ≡ dated last t
dated_again last (part ty) = dated_type_again last ty
dated_again last (constant ty) = refl
dated_again last (a_block b) = refl
dated_again last (no_name p) = refl
dated_again last (no_array p) = refl
dated_again last (a_date p) = refl
dated_again last untold = refl

-- what an index that leads to something stands behind is an array
pub record Arrayed (t : Thing) : Type 0 where
  pub low : ℤ
  pub high : ℤ
  pub of : TypeTree
  pub place : Place
  pub is : t ≡ part (array low high of place)

pub arrayed : (scope : Scope) (last p : Place) (t : Thing) (more : StepTrees) (ty : Ty)
    → HasOwn scope (thing_behind scope last (element_of_thing scope t p) more) ty → Arrayed t
arrayed scope last p (part (array low high of place)) more ty own =
    record { low = low; high = high; of = of; place = place; is = refl }
arrayed scope last p (part (plain x)) more ty own = absurd (not_own scope _ (no_array p) ty (lost_array scope last p more) refl own)
arrayed scope last p (part (structure vars)) more ty own = absurd (not_own scope _ (no_array p) ty (lost_array scope last p more) refl own)
arrayed scope last p (part (named name place)) more ty own = absurd (by (type_named scope.project name.key) own)
  where
    by : (o : _) → HasOwn scope (thing_behind scope last (no_array_where o p) more) ty → ⊥
    by None h = not_own scope _ untold ty (lost_untold scope last more) refl h
    by (Some b) h = not_own scope _ (no_array p) ty (lost_array scope last p more) refl h
arrayed scope last p (part unread) more ty own = absurd (not_own scope _ (no_array p) ty (lost_array scope last p more) refl own)
arrayed scope last p (constant x) more ty own = absurd (not_own scope _ (no_array p) ty (lost_array scope last p more) refl own)
arrayed scope last p (a_block b) more ty own = absurd (not_own scope _ (no_array p) ty (lost_array scope last p more) refl own)
arrayed scope last p (no_name q) more ty own = absurd (not_own scope _ (no_name q) ty (lost_name scope last q more) refl own)
arrayed scope last p (no_array q) more ty own = absurd (not_own scope _ (no_array q) ty (lost_array scope last q more) refl own)
arrayed scope last p (a_date q) more ty own = absurd (not_own scope _ (a_date q) ty (lost_date scope last q more) refl own)
arrayed scope last p untold more ty own = absurd (not_own scope _ untold ty (lost_untold scope last more) refl own)

-- ---- elements

-- an array begins there, with these bounds
record Bounded (o : Origin) (low high : ℤ) : Type 0 where
  elements : Elements
  are : elements_placed o ≡ Some elements
  low_is : elements.low ≡ low
  high_is : elements.high ≡ high

laid_bounded : (make : Laid → Origin) (ty : TypeTree) (first : ℕ) (low high : ℤ) (of : TypeTree) (place : Place) → ty ≡ array low high of place
    → elements_laid make ty first ≡ Some (record { low = low; high = high; of = of; head = make (record { ty = of; first = first }) })
laid_bounded make ty first low high of place is = ap (λ t. elements_laid make t first) is

bounded : (source : Source) (act : Activation) (k : ℕ) (o : Origin) (low high : ℤ) (of : TypeTree) (place : Place)
    → BeginsAs source act (array low high of place) (begins_further k (origin_at act.first o)) → Bounded o low high
bounded source act k (in_instance l) low high of place h =
    record { elements = _; are = laid_bounded in_instance l.ty l.first low high of place h.typed; low_is = refl; high_is = refl }
bounded source act k (in_table l) low high of place h =
    record { elements = _; are = laid_bounded in_table l.ty l.first low high of place h.typed; low_is = refl; high_is = refl }
bounded source act k (in_activation l) low high of place h =
    record { elements = _; are = laid_bounded in_activation l.ty l.first low high of place h.typed; low_is = refl; high_is = refl }
bounded source act k (at_spot spot) low high of place h = absurd h

outside_laid : (source : Source) (make : Laid → Begins) (into : Laid → Origin) (ty : TypeTree) (from first : ℕ) (e : Elements) (i : ℤ) (place : Place)
    → elements_laid into ty from ≡ Some e → int_le e.low i && int_le i e.high ≡ false
    → element_where make (element_from source.project ty first i) place ≡ trap Index place
outside_laid source make into (array low high of p) from first e i place are out =
    ap (λ b. element_where make (if b then Some (record { ty = of; first = first + unsigned_abs (i -ℤ low) * size_in source.project of }) else None) place)
    (subst (λ (x : Elements). int_le x.low i && int_le i x.high ≡ false)
    (sym (same_Some (record { low = low; high = high; of = of; head = into (record { ty = of; first = from }) }) e are)) out)
outside_laid source make into (plain ty) from first e i place are out = absurd (none-some e are)
outside_laid source make into (structure vars) from first e i place are out = absurd (none-some e are)
outside_laid source make into (named name p) from first e i place are out = absurd (none-some e are)
outside_laid source make into unread from first e i place are out = absurd (none-some e are)

outside_traps : (source : Source) (first k : ℕ) (o : Origin) (e : Elements) (i : ℤ) (place : Place) → elements_placed o ≡ Some e
    → int_le e.low i && int_le i e.high ≡ false
    → element_begins source (begins_further k (origin_at first o)) i place ≡ trap Index place
outside_traps source first k (in_instance l) e i place are out =
    outside_laid source in_visible in_instance l.ty l.first (k + (first + l.first)) e i place are out
outside_traps source first k (in_table l) e i place are out =
    outside_laid source in_visible in_table l.ty l.first (k + l.first) e i place are out
outside_traps source first k (in_activation l) e i place are out =
    outside_laid source in_brief in_activation l.ty l.first (k + l.first) e i place are out
outside_traps source first k (at_spot spot) e i place are out = absurd (none-some e are)

-- the element at a literal index, whichever the valuation is
known_laid : (source : Source) (into : Laid → Origin) (ty : TypeTree) (from : ℕ) (e : Elements) (i : ℤ)
    → elements_laid into ty from ≡ Some e → int_le e.low i && int_le i e.high ≡ true
    → (laid_where into (element_from source.project ty from i)
    ≡ into (record { ty = e.of; first = from + unsigned_abs (i -ℤ e.low) * size_in source.project e.of }))
    × (e.head ≡ into (record { ty = e.of; first = from }))
known_laid source into (array low high of p) from e i are inside =
    subst (λ (x : Elements). int_le x.low i && int_le i x.high ≡ true
    → (laid_where into (element_from source.project (array low high of p) from i)
    ≡ into (record { ty = x.of; first = from + unsigned_abs (i -ℤ x.low) * size_in source.project x.of }))
    × (x.head ≡ into (record { ty = x.of; first = from })))
    (same_Some (record { low = low; high = high; of = of; head = into (record { ty = of; first = from }) }) e are)
    (λ h. (
      ap (λ b. laid_where into (if b then Some (record { ty = of; first = from + unsigned_abs (i -ℤ low) * size_in source.project of }) else None)) h,
      refl,
    )) inside
known_laid source into (plain ty) from e i are inside = absurd (none-some e are)
known_laid source into (structure vars) from e i are inside = absurd (none-some e are)
known_laid source into (named name p) from e i are inside = absurd (none-some e are)
known_laid source into unread from e i are inside = absurd (none-some e are)

visible_at : (ty : TypeTree) (n m : ℕ) → n ≡ m → in_visible (record { ty = ty; first = n }) ≡ in_visible (record { ty = ty; first = m })
visible_at ty n m e = ap (λ (k : ℕ). in_visible (record { ty = ty; first = k })) e

brief_at : (ty : TypeTree) (n m : ℕ) → n ≡ m → in_brief (record { ty = ty; first = n }) ≡ in_brief (record { ty = ty; first = m })
brief_at ty n m e = ap (λ (k : ℕ). in_brief (record { ty = ty; first = k })) e

pub known_is : (source : Source) (first k : ℕ) (o : Origin) (e : Elements) (i : ℤ) → elements_placed o ≡ Some e
    → int_le e.low i && int_le i e.high ≡ true
    → begins_further k (origin_at first (element_placed source.project o i))
    ≡ begins_further (unsigned_abs (i -ℤ e.low) * size_in source.project e.of + k) (origin_at first e.head)
known_is source first k (in_instance l) e i are inside =
    let p = known_laid source in_instance l.ty l.first e i are inside in
    ap (λ x. begins_further k (origin_at first x)) p.0
    ∙ visible_at e.of (k + (first + (l.first + d))) (d + k + (first + l.first)) (omega arith)
    ∙ ap (λ x. begins_further (d + k) (origin_at first x)) (sym p.1)
  where
    d : ℕ
    d = unsigned_abs (i -ℤ e.low) * size_in source.project e.of
known_is source first k (in_table l) e i are inside =
    let p = known_laid source in_table l.ty l.first e i are inside in
    ap (λ x. begins_further k (origin_at first x)) p.0
    ∙ visible_at e.of (k + (l.first + d)) (d + k + l.first) (omega arith)
    ∙ ap (λ x. begins_further (d + k) (origin_at first x)) (sym p.1)
  where
    d : ℕ
    d = unsigned_abs (i -ℤ e.low) * size_in source.project e.of
known_is source first k (in_activation l) e i are inside =
    let p = known_laid source in_activation l.ty l.first e i are inside in
    ap (λ x. begins_further k (origin_at first x)) p.0
    ∙ brief_at e.of (k + (l.first + d)) (d + k + l.first) (omega arith)
    ∙ ap (λ x. begins_further (d + k) (origin_at first x)) (sym p.1)
  where
    d : ℕ
    d = unsigned_abs (i -ℤ e.low) * size_in source.project e.of
known_is source first k (at_spot spot) e i are inside = absurd (none-some e are)

-- ---- one move more

pub moved_more : (w : Valuation) (ms : List Move) (m : Move)
    → moved_by w (ms ++ m ∷ []) ≡ unsigned_abs (value_of w m.index -ℤ m.low) * m.stride + moved_by w ms
moved_more w [] m = refl
moved_more w (x ∷ ms) m =
    let d = unsigned_abs (value_of w x.index -ℤ x.low) * x.stride in
    let e = unsigned_abs (value_of w m.index -ℤ m.low) * m.stride in
    ap (λ (k : ℕ). d + k) (moved_more w ms m) ∙ swap d e (moved_by w ms)
  where
    swap : (a b c : ℕ) → a + (b + c) ≡ b + (a + c)
    swap a b c = omega arith

-- ---- indexes

pub literal_sort : (scope : Scope) (e : ExprTree) (x : Written) → literal_of e ≡ Some x → sort_of scope e ≡ sort_of_written x.ty x.value
literal_sort scope (lit ty v place) x is = ap (λ (y : Written). sort_of_written y.ty y.value) (same_Some (record { ty = ty; value = v }) x is)
literal_sort scope (read o) x is = absurd (none-some x is)
literal_sort scope (unary op place arg) x is =
    ap (λ o. sort_where o (one_of (option_and_then (result_of_unary op) (common_type (taken nothing (sort_of scope arg) ∷ []))))) is
literal_sort scope (binary op place left right) x is = absurd (none-some x is)
literal_sort scope (std function place args) x is = absurd (none-some x is)
literal_sort scope (paren place inner) x is = literal_sort scope inner x is

pub written_between : (low high : ℤ) (x : Written) → lies_between low high (sort_of_written x.ty x.value) ≡ true
    → int_le low x.value && int_le x.value high ≡ true
written_between low high x h = lead x.ty h
  where
    lead : (o : Option Ty) → lies_between low high (sort_of_written o x.value) ≡ true → int_le low x.value && int_le x.value high ≡ true
    lead None e = e
    lead (Some t) e = e

and_both : (a b : Truth) → a && b ≡ true → (a ≡ true) × (b ≡ true)
and_both true b e = (refl, e)
and_both false b e = absurd (false≢true e)

whole_dint : (ty : Ty) → is_whole_number ty ≡ true → (v : ℤ) → InRange ty v → InRange Dint v
whole_dint Bool e v h = absurd (false≢true e)
whole_dint Byte e v h = absurd (false≢true e)
whole_dint Word e v h = absurd (false≢true e)
whole_dint Dword e v h = absurd (false≢true e)
whole_dint Int e v h = widens_lies Int Dint refl v h
whole_dint Dint e v h = h
whole_dint Time e v h = absurd (false≢true e)

-- ---- steps

-- the indexes' own reads
module _ (source : Source) (act : Activation) (frame : Frame) (w : Valuation) where
  abbrev pub IndexReads : StepTree → Type 0
  IndexReads (field name place) = ⊤
  IndexReads (index e place) = ReadsIn source act frame w e

  abbrev pub IndexesRead : StepTrees → Type 0
  IndexesRead no_steps = ⊤
  IndexesRead (steps step more) = IndexReads step × IndexesRead more

module _ (laws : TermLaws) (fields : FieldsArePlaced) (elements : ElementsArePlaced) (source : Source) (act : Activation) (frame : Frame)
    (w : Valuation) (reads : ReadsLie source act frame) where
  abbrev scope : Scope
  scope = scope_of source act.block

  abbrev there : Access → Begins
  there a = begun w act.first a

  field_there : (a : Access) (key : List ℕ)
      → field_begins source (there a) key ≡ there (record { origin = field_placed source.project a.origin key; moves = a.moves })
  field_there a key =
      sym (field_further source key (moved_by w a.moves) (origin_at act.first a.origin))
      ∙ ap (begins_further (moved_by w a.moves)) (sym (fields source act.first a.origin key))

  inside_there : (a : Access) (e : Elements) (i : ℤ) (place : Place) → elements_placed a.origin ≡ Some e
      → int_le e.low i && int_le i e.high ≡ true
      → element_begins source (there a) i place
      ≡ got (begins_further (unsigned_abs (i -ℤ e.low) * size_in source.project e.of + moved_by w a.moves) (origin_at act.first e.head))
  inside_there a e i place are inside =
      let b = and_both (int_le e.low i) (int_le i e.high) inside in
      elements source act.first (moved_by w a.moves) a.origin e i place are b.0 b.1

  -- an index of which this is the value as a DINT
  checked_element : (a : Access) (e : Elements) (place : Place) (t : Term) (v : ℤ) → elements_placed a.origin ≡ Some e → value_of w t ≡ v
      → element_begins source (there a) v place
      ≡ checked w (index_check place t e ∷ [])
      (there (record { origin = e.head; moves = a.moves ++ move_of source.project t e ∷ [] }))
  checked_element a e place t v are is = by (int_le e.low v && int_le v e.high) refl
    where
      d : ℕ
      d = size_in source.project e.of

      to : Begins
      to = there (record { origin = e.head; moves = a.moves ++ move_of source.project t e ∷ [] })

      holds_as : holds_in w (outside_term t e.low e.high) ≡ not (int_le e.low v && int_le v e.high)
      holds_as = laws.indexes.outside w t e.low e.high ∙ ap (λ (i : ℤ). not (int_le e.low i && int_le i e.high)) is

      shown : (b : Truth) → int_le e.low v && int_le v e.high ≡ b
          → checked w (index_check place t e ∷ []) to ≡ (if not b then trap Index place else got to)
      shown b j = ap (λ h. if h then trap Index place else got to) (holds_as ∙ ap not j)

      by : (b : Truth) → int_le e.low v && int_le v e.high ≡ b
          → element_begins source (there a) v place ≡ checked w (index_check place t e ∷ []) to
      by true j =
          inside_there a e v place are j
          ∙ ap (λ (k : ℕ). got (begins_further k (origin_at act.first e.head)))
          (ap (λ (i : ℤ). unsigned_abs (i -ℤ e.low) * d + moved_by w a.moves) (sym is)
          ∙ sym (moved_more w a.moves (move_of source.project t e)))
          ∙ sym (shown true j)
      by false j = outside_traps source act.first (moved_by w a.moves) a.origin e v place are j ∙ sym (shown false j)

  index_in : (e : ExprTree) → AreGood scope (parts_of scope nothing e) → is_index_type (own_type (taken nothing (sort_of scope e))) ≡ true
      → (v : ℤ) → InRange (part_type scope nothing e) v → InRange Dint v
  index_in e good is v lies =
      whole_dint (part_type scope nothing e) (ap is_index_type (sym (typed_as scope nothing e good)) ∙ is) v lies

  -- an index, checked and unchecked, that stands behind an array
  element_there : (a : Access) (e : ExprTree) (place : Place) (low high : ℤ) (of : TypeTree) (at_place : Place) → Bounded a.origin low high
      → AreGood scope (parts_of scope nothing e) → is_index (part (array low high of at_place)) (sort_of scope e) ≡ true
      → value source act frame e ≡ outcome w (lowered source act.block nothing e)
      → and_then (value source act frame e) (λ i. element_begins source (there a) i place)
      ≡ checked w (to_element scope a place e (lowered source act.block nothing e)).checks
      (there (to_element scope a place e (lowered source act.block nothing e)).access)
  element_there a e place low high of at_place b good is same = by (literal_of e) refl
    where
      l : Lowered
      l = lowered source act.block nothing e

      index_is : (is_index_type (own_type (taken nothing (sort_of scope e))) ≡ true) × (lies_between low high (sort_of scope e) ≡ true)
      index_is = and_both (is_index_type (own_type (taken nothing (sort_of scope e)))) (lies_between low high (sort_of scope e)) is

      acc : Option Written → Accessed
      acc o = elim o [
        | Some x ↦ to_known source.project a x.value
        | None ↦ to_checked source.project a place (as_type Dint scope nothing e l)
      ]

      moving : checked w l.checks (value_of w l.term) ≡ got (value_of w l.term)
          → value_of w (as_type Dint scope nothing e l).term ≡ value_of w l.term
      moving p =
          let lies = part_lies laws source act frame w reads nothing e good same p in
          at_value laws.conversions w Dint (typed scope nothing e l) lies (index_in e good index_is.0 (value_of w l.term) lies)

      checked_there : (o : Option Elements) → elements_placed a.origin ≡ o → o ≡ Some b.elements
          → and_then (outcome w l) (λ i. element_begins source (there a) i place)
          ≡ checked w (l.checks ++ (to_moved source.project a place (as_type Dint scope nothing e l).term o).checks)
          (there (to_moved source.project a place (as_type Dint scope nothing e l).term o).access)
      checked_there None are some = absurd (none-some b.elements some)
      checked_there (Some x) are some =
          let t = (as_type Dint scope nothing e l).term in
          let to = there (record { origin = x.head; moves = a.moves ++ move_of source.project t x ∷ [] }) in
          passed_over w l.checks (value_of w l.term) (value_of w l.term) (λ i. element_begins source (there a) i place)
          (λ i. checked w (index_check place t x ∷ []) to)
          (λ p. checked_element a x place t (value_of w l.term) are (moving p))
          ∙ sym (then_checked w l.checks (index_check place t x ∷ []) (value_of w l.term) to)

      by : (o : Option Written) → literal_of e ≡ o
          → and_then (value source act frame e) (λ i. element_begins source (there a) i place) ≡ checked w (acc o).checks (there (acc o).access)
      by (Some x) j =
          let inside = written_between low high x
          (subst (λ s. lies_between low high s ≡ true) (literal_sort scope e x j) index_is.1) in
          let within = ap (λ (y : ℤ). int_le y x.value && int_le x.value b.elements.high) b.low_is
          ∙ ap (λ (y : ℤ). int_le low x.value && int_le x.value y) b.high_is ∙ inside in
          ap (λ t. and_then t (λ i. element_begins source (there a) i place)) (literal_valued laws source act frame w reads e x j)
          ∙ inside_there a b.elements x.value place b.are within
          ∙ ap got (sym (known_is source act.first (moved_by w a.moves) a.origin b.elements x.value b.are within))
      by None j =
          ap (λ t. and_then t (λ i. element_begins source (there a) i place)) same
          ∙ checked_there (elements_placed a.origin) refl b.are

  -- ---- the way along the steps

  -- what is so of each access on the way where no check is true
  module _ (Kept : Access → Type 0)
      (kept : (a : Access) (last : Place) (t : Thing) (step : StepTree) → Means source act (dated last t) (there a) → Kept a
      → AreGood scope (parts_of_step scope step) → is_indexed scope (dated last t) step ≡ true
      → step_behind source act frame (there a) step ≡ got (there (stepped source act.block a step).access)
      → checked w (stepped source act.block a step).checks (there (stepped source act.block a step).access)
      ≡ got (there (stepped source act.block a step).access)
      → IndexReads source act frame w step
      → Kept (stepped source act.block a step).access) where
    -- the steps come to where the access leads
    pub record Arrives (a : Access) (last : Place) (t : Thing) (more : StepTrees) : Type 0 where
      pub same : behind source act frame (there a) more
          ≡ checked w (reached source act.block a more).checks (there (reached source act.block a more).access)
      pub stays : checked w (reached source act.block a more).checks (there (reached source act.block a more).access)
          ≡ got (there (reached source act.block a more).access)
          → Kept (reached source act.block a more).access

    step_there : (a : Access) (last l2 : Place) (t : Thing) (step : StepTree) (more : StepTrees) (ty : Ty)
        → Means source act (dated last t) (there a) → is_indexed scope (dated last t) step ≡ true
        → HasOwn scope (thing_behind scope l2 (thing_at scope (dated last t) step) more) ty
        → AreGood scope (parts_of_step scope step) → IndexReads source act frame w step
        → step_behind source act frame (there a) step
        ≡ checked w (stepped source act.block a step).checks (there (stepped source act.block a step).access)
    step_there a last l2 t (field name place) more ty means is own good r = ap got (field_there a name.key)
    step_there a last l2 t (index e place) more ty means is own good r =
        let x = arrayed scope l2 (first_place e) (dated last t) more ty own in
        element_there a e place x.low x.high x.of x.place
        (bounded source act (moved_by w a.moves) a.origin x.low x.high x.of x.place (subst (λ y. Means source act y (there a)) x.is means))
        good (subst (λ y. is_index y (sort_of scope e) ≡ true) x.is is)
        (value_is laws source act frame w reads nothing e good r)

    -- one step, and then those behind it
    joined : KeepsRules source.project → (step : StepTree) (more : StepTrees) (a : Access) (last : Place) (t : Thing) (ty : Ty)
        → Means source act (dated last t) (there a)
        → Kept a → is_indexed scope (dated last t) step ≡ true
        → HasOwn scope (thing_behind scope (last_behind last step) (thing_at scope (dated last t) step) more) ty
        → AreGood scope (parts_of_step scope step) → IndexReads source act frame w step
        → (Means source act (dated (last_behind last step) (thing_at scope (dated last t) step)) (there (stepped source act.block a step).access)
        → Kept (stepped source act.block a step).access
        → Arrives (stepped source act.block a step).access (last_behind last step) (thing_at scope (dated last t) step) more)
        → Arrives a last t (steps step more)
    joined rules step more a last t ty means k is own good r behind_it = record {
      same =
          ap (λ x. and_then x (λ b. behind source act frame b more)) here
          ∙ passed_over w s.checks (there s.access) (there s.access) (λ b. behind source act frame b more)
          (λ b. checked w next.checks (there next.access)) (λ p. (rest p).same)
          ∙ sym (then_checked w s.checks next.checks (there s.access) (there next.access));
      stays = λ p.
          let b = got_then (checked w s.checks (there s.access)) (λ x. checked w next.checks (there next.access)) (there next.access)
          (sym (then_checked w s.checks next.checks (there s.access) (there next.access)) ∙ p) in
          (rest (passed_at b.first b.is)).stays b.then_;
    }
      where
        s : Accessed
        s = stepped source act.block a step

        next : Accessed
        next = reached source act.block s.access more

        here : step_behind source act frame (there a) step ≡ checked w s.checks (there s.access)
        here = step_there a last (last_behind last step) t step more ty means is own good r

        passed_at : (x : Begins) → checked w s.checks (there s.access) ≡ got x → checked w s.checks (there s.access) ≡ got (there s.access)
        passed_at x e = e ∙ ap got (sym (got_there w s.checks (there s.access) x e))

        means_next : checked w s.checks (there s.access) ≡ got (there s.access)
            → Means source act (dated (last_behind last step) (thing_at scope (dated last t) step)) (there s.access)
        means_next p =
            subst (λ y. Means source act (dated (last_behind last step) (thing_at scope y step)) (there s.access)) (dated_again last t)
            (behind_means source rules act frame (steps step no_steps) last (dated last t) (there a) (there s.access) means
            (ap (λ x. and_then x (λ b. got b)) (here ∙ p)))

        rest : checked w s.checks (there s.access) ≡ got (there s.access)
            → Arrives s.access (last_behind last step) (thing_at scope (dated last t) step) more
        rest p = behind_it (means_next p) (kept a last t step means k good is (here ∙ p) p r)

    pub arrives : KeepsRules source.project → (more : StepTrees) (a : Access) (last : Place) (t : Thing) (ty : Ty)
        → Means source act (dated last t) (there a)
        → Kept a → are_indexed scope last t more ≡ true → HasOwn scope (thing_behind scope last t more) ty
        → AreGood scope (parts_of_steps scope more) → IndexesRead source act frame w more → Arrives a last t more
    arrives rules no_steps a last t ty means k is own good r = record { same = refl; stays = λ e. k }
    arrives rules (steps step more) a last t ty means k is own good r =
        let both = and_both (is_indexed scope (dated last t) step)
        (are_indexed scope (last_behind last step) (thing_at scope (dated last t) step) more) is in
        joined rules step more a last t ty means k both.0 own
        (good_front scope (parts_of_step scope step) (parts_of_steps scope more) good) r.0
        (λ m n. arrives rules more (stepped source act.block a step).access (last_behind last step) (thing_at scope (dated last t) step) ty m n
        both.1 own (good_back scope (parts_of_step scope step) (parts_of_steps scope more) good) r.1)
