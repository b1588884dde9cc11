-- As many checks as the sizes count: zero divisors, indexes that are no literals, and reads of brief cells.
use Rattle.std.proofs.Common.{◌≡◌, ◌⊎◌, inl, inr, ℕ, ◌+◌, ◌/◌, ℤ, List, [], ◌∷◌, ◌++◌, length, Bool as Truth, true, false, ◌&&◌, Option, Some, None, refl, sym, ap, subst, ◌∙◌, arith}
use Rattle.std.specs.Prelude.{⊤, bytes_eq, nat_le, is_some, is_none, if◌then◌else◌}
use Rattle.std.proofs.lemmas.Bool.{false≢true, true≢false}
use Rattle.std.proofs.lemmas.List.{length-append}
use Rattle.std.proofs.lemmas.Option.{none-some, same_Some}
use Rattle.pv_word.specs.declared.types.Ty.{Ty}
use Rattle.pv_word.specs.declared.types.Ty.TheVariants.{Dint}
use Rattle.pv_place.specs.declared.place.Place.{Place}
use Rattle.pv_types.specs.declared.declaration.Section.{Section}
use Rattle.pv_types.specs.declared.declaration.Section.TheVariants.{Input, Output, InOut, Static, Temp, Const}
use Rattle.pv_types.specs.Tree.{TypeTree, plain, array, structure, named, unread, VarTree, var}
use Rattle.pv_types.specs.View.{section_of, declared_type_of, start_of}
use Rattle.pv_types.specs.Leaves.{start_value}
use Rattle.pv_tree.specs.declared.expr.Area.{Area}
use Rattle.pv_tree.specs.declared.expr.Root.{Root}
use Rattle.pv_tree.specs.declared.expr.Root.TheVariants.{Local, Named, Area as InArea}
use Rattle.pv_tree.specs.declared.expr.UnaryOp.{UnaryOp}
use Rattle.pv_tree.specs.declared.expr.BinaryOp.{BinaryOp}
use Rattle.pv_tree.specs.Tree.{ExprTree, lit, read, unary, binary, std, paren, ExprTrees, no_exprs, exprs, OperandTree, operand, StepTree, field, index, StepTrees, no_steps, steps, BlockTree}
use Rattle.pv_tree.specs.LiteralTypes.{Want, nothing}
use Rattle.pv_tree.specs.Rules.{KeepsRules}
use Rattle.pv_tree.specs.RuleLaws.{HasType, PartsHaveTypes}
use Rattle.pv_tree.specs.Scopes.{SymbolTree, Scope, is_fb, is_const, is_of_instance, first_block, first_var, first_symbol, own_value, type_named}
use Rattle.pv_tree.specs.Sorts.{own_type, taken, whole, broken, wants_of}
use Rattle.pv_tree.specs.Things.{Thing, part, constant, a_block, no_name, no_array, a_date, untold, type_of_bits, is_address, dated, thing_at, last_behind, thing_behind, thing_of_root, thing_of_word, thing_of_name, thing_of_var, thing_of_variable, thing_of_value, thing_of_block, symbol_where, root_place, first_place, quoted_value}
use Rattle.pv_tree.specs.Types.{Written, signed, literal_of, sort_of, sorts_of, sort_of_type, sort_of_thing, sort_of_operand, is_void, lies_between, is_index, is_index_type, is_indexed, are_indexed, type_of}
use Rattle.pv_tree.specs.Parts.{parts_of, parts_of_args, parts_of_steps, parts_of_step}
use Rattle.pv_mean.specs.Layout.{Laid, size_in, laid_among, is_brief_in, is_db, data_type}
use Rattle.pv_mean.specs.Sources.{Source, data_block_first, byte_number}
use Rattle.pv_mean.specs.Spots.{visible, brief, bit, bytes, fixed, nowhere}
use Rattle.pv_mean.specs.Activations.{address_spot, symbol_at}
use Rattle.pv_sizes.specs.Checks.{one_if, is_brief_variable, is_brief_word, is_brief_root, divides, checks_of, checks_of_each, checks_of_target, checks_of_steps, checks_of_step}
use Rattle.pv_flow.specs.Terms.{Term}
use Rattle.pv_variables.specs.Origins.{Origin, in_instance, in_table, in_activation, at_spot, laid_where, placed, placed_variable, placed_block, placed_symbol, placed_word, placed_name, placed_variable_or, placed_value_or, placed_block_or, Elements, elements_placed}
use Rattle.pv_variables.specs.Variables.{table_variable, brief_variable}
use Rattle.pv_access.specs.declared.access.Storage.TheVariants.{Cell, Brief}
use Rattle.pv_access.specs.Accesses.{Check, Move, unset_checks}
use Rattle.pv_lower.specs.Storages.{Access, cell_where, storage_at}
use Rattle.pv_lower.specs.Lowered.{Lowered, Accessed, scope_of, want_beside, as_type, to_known, to_moved, to_checked, divisor_checks, met_term, met_type, zero_check, part_type, around, literal_or, read_at, lowered, arguments, accessed, reached, stepped}
use Rattle.pv_laws_types.specs.Typed.{SuitsAddress}
use Rattle.pv_laws_types.proofs.ForCallers.{Shows, AreKnown, IsKnown, block_known, data_laid_out}
use Rattle.pv_laws_lower.specs.Fit.{IsLaidOut, IsFit, IsFitOperand}
use Rattle.pv_laws_lower.specs.Correct.{ChecksAreCounted}
use Rattle.pv_lower.proofs.ForCallers.{literal_lowered}
use Rattle.pv_laws_lower.proofs.Operands.{symbol_found, right_of, operand_taken, good_all, some_is}
use Rattle.pv_laws_lower.proofs.Sorts.{some_told}
use Rattle.pv_laws_lower.proofs.Rooms.{laid_bounds}
use Rattle.pv_laws_lower.proofs.Standing.{PartIs, ConstantIs, Stands, is_hidden, IsLost, StandsAs, field_stands, elements_stand, known_stands, dated_stands}
use Rattle.pv_laws_lower.proofs.Values.{AreGood, good_front, good_back}
use Rattle.pv_laws_lower.proofs.Walked.{lost_array, lost_name, lost_date, lost_untold, HasOwn, arrayed, literal_sort, written_between}

-- ---- what is lost has no type

lost_own : (scope : Scope) (last : Place) (t : Thing) (more : StepTrees) (ty : Ty) → IsLost t → HasOwn scope (thing_behind scope last t more) ty → ⊥
lost_own scope last (part x) more ty lost own = lost
lost_own scope last (constant x) more ty lost own = lost
lost_own scope last (a_block b) more ty lost own = lost
lost_own scope last (no_name p) more ty lost own =
    none-some ty (ap (λ t. own_type (sort_of_thing scope t)) (sym (lost_name scope last p more)) ∙ own)
lost_own scope last (no_array p) more ty lost own =
    none-some ty (ap (λ t. own_type (sort_of_thing scope t)) (sym (lost_array scope last p more)) ∙ own)
lost_own scope last (a_date p) more ty lost own =
    none-some ty (ap (λ t. own_type (sort_of_thing scope t)) (sym (lost_date scope last p more)) ∙ own)
lost_own scope last untold more ty lost own =
    none-some ty (ap (λ t. own_type (sort_of_thing scope t)) (sym (lost_untold scope last more)) ∙ own)

-- ---- what a read checks

type_plain : (scope : Scope) (t : TypeTree) (ty : Ty) → own_type (sort_of_type scope t) ≡ Some ty → t ≡ plain ty
type_plain scope (plain own) ty e = ap plain (same_Some own ty e)
type_plain scope (array low high of p) ty e = absurd (none-some ty e)
type_plain scope (structure vars) ty e = absurd (none-some ty e)
type_plain scope (named name p) ty e = lead (is_some (type_named scope.project name.key)) e
  where
    lead : (b : Truth) → own_type (if b then whole else broken) ≡ Some ty → named name p ≡ plain ty
    lead true f = absurd (none-some ty f)
    lead false f = absurd (none-some ty f)
type_plain scope unread ty e = absurd (none-some ty e)

and_both : (a b : Truth) → a && b ≡ true → (a ≡ true) × (b ≡ true)
and_both true b e = (refl, e)
and_both false b e = absurd (false≢true e)

none_before : (n : ℕ) → 0 + n ≡ n
none_before n = omega arith

module _ (source : Source) (block : BlockTree) (rules : KeepsRules source.project) where
  abbrev scope : Scope
  scope = scope_of source block

  plain_counted : (ty : Ty) (o : Origin) (ms : List Move) (p : Place) → PartIs source.project (plain ty) o
      → length (unset_checks (storage_at source block o) ms p) ≡ one_if (is_hidden o)
  plain_counted ty (in_instance l) ms p h =
      subst (λ t. length (unset_checks (cell_where Cell t l.first) ms p) ≡ 0) (sym h.0) refl
  plain_counted ty (in_table l) ms p h =
      subst (λ t. length (unset_checks (cell_where Cell t (table_variable source block l.first)) ms p) ≡ 0) (sym h.0) refl
  plain_counted ty (in_activation l) ms p h =
      subst (λ t. length (unset_checks (cell_where Brief t (brief_variable source block l.first)) ms p) ≡ 1) (sym h.0) refl
  plain_counted ty (at_spot (visible n)) ms p h = absurd h.1
  plain_counted ty (at_spot (brief own n)) ms p h = refl
  plain_counted ty (at_spot (bit n b)) ms p h = refl
  plain_counted ty (at_spot (bytes own n count)) ms p h = refl
  plain_counted ty (at_spot (fixed v)) ms p h = absurd h.1
  plain_counted ty (at_spot nowhere) ms p h = absurd h.1

  constant_counted : (o : Origin) (ms : List Move) (p : Place) → ConstantIs o
      → length (unset_checks (storage_at source block o) ms p) ≡ one_if (is_hidden o)
  constant_counted (in_instance l) ms p h = absurd h
  constant_counted (in_table l) ms p h = absurd h
  constant_counted (in_activation l) ms p h = absurd h
  constant_counted (at_spot (visible n)) ms p h = absurd h
  constant_counted (at_spot (brief own n)) ms p h = absurd h
  constant_counted (at_spot (bit n b)) ms p h = absurd h
  constant_counted (at_spot (bytes own n count)) ms p h = absurd h
  constant_counted (at_spot (fixed v)) ms p h = refl
  constant_counted (at_spot nowhere) ms p h = absurd h

  unset_counted : (t : Thing) (ty : Ty) (o : Origin) (ms : List Move) (p : Place) → Stands source.project t o → HasOwn scope t ty
      → length (unset_checks (storage_at source block o) ms p) ≡ one_if (is_hidden o)
  unset_counted (part x) ty o ms p h own =
      plain_counted ty o ms p (subst (λ y. PartIs source.project y o) (type_plain scope x ty own) h)
  unset_counted (constant x) ty o ms p h own = constant_counted o ms p h
  unset_counted (a_block b) ty o ms p h own = lead (is_void b) own
    where
      lead : (x : Truth) → own_type (if x then broken else whole) ≡ Some ty
          → length (unset_checks (storage_at source block o) ms p) ≡ one_if (is_hidden o)
      lead true f = absurd (none-some ty f)
      lead false f = absurd (none-some ty f)
  unset_counted (no_name q) ty o ms p h own = absurd (none-some ty own)
  unset_counted (no_array q) ty o ms p h own = absurd (none-some ty own)
  unset_counted (a_date q) ty o ms p h own = absurd (none-some ty own)
  unset_counted untold ty o ms p h own = absurd (none-some ty own)

  -- ---- the way along the steps

  -- each index makes as many checks as are counted
  abbrev IndexCounted : StepTree → Type 0
  IndexCounted (field name p) = ⊤
  IndexCounted (index e p) = length (lowered source block nothing e).checks ≡ checks_of scope e

  abbrev IndexesCounted : StepTrees → Type 0
  IndexesCounted no_steps = ⊤
  IndexesCounted (steps step more) = IndexCounted step × IndexesCounted more

  literal_free : (e : ExprTree) (x : Written) → literal_of e ≡ Some x → checks_of scope e ≡ 0
  literal_free (lit ty v p) x is = refl
  literal_free (read o) x is = absurd (none-some x is)
  literal_free (unary op p arg) x is = lead (literal_of arg) refl is (λ y j. literal_free arg y j)
    where
      lead : (o : Option Written) → literal_of arg ≡ o → signed op o ≡ Some x
          → ((y : Written) → literal_of arg ≡ Some y → checks_of scope arg ≡ 0) → checks_of scope arg ≡ 0
      lead None j f below = absurd (none-some x f)
      lead (Some y) j f below = below y j
  literal_free (binary op p left right) x is = absurd (none-some x is)
  literal_free (std function p args) x is = absurd (none-some x is)
  literal_free (paren p inner) x is = literal_free inner x is

  record StepCounted (a : Access) (t : Thing) (step : StepTree) : Type 0 where
    count : length (stepped source block a step).checks ≡ checks_of_step scope step
    stands : StandsAs source.project (thing_at scope t step) a.origin (stepped source block a step).access.origin

  abbrev accessed_by : Access → Place → ExprTree → Lowered → Option Written → Accessed
  accessed_by a p e l o = elim o [
    | Some x ↦ to_known source.project a x.value
    | None ↦ to_checked source.project a p (as_type Dint scope nothing e l)
  ]

  moved_counted : (a : Access) (p : Place) (e : ExprTree) (l : Lowered) (of : TypeTree) (x : Elements) (o : Option Elements)
      → o ≡ Some x → PartIs source.project of x.head → is_hidden x.head ≡ is_hidden a.origin
      → (length (l.checks ++ (to_moved source.project a p (as_type Dint scope nothing e l).term o).checks) ≡ length l.checks + 1)
      × StandsAs source.project (part of) a.origin (to_moved source.project a p (as_type Dint scope nothing e l).term o).access.origin
  moved_counted a p e l of x None is head hidden = absurd (none-some x is)
  moved_counted a p e l of x (Some y) is head hidden =
      let same = same_Some y x is in (
        length-append l.checks _,
        (
          subst (λ (z : Elements). PartIs source.project of z.head) (sym same) head,
          inl (ap (λ (z : Elements). is_hidden z.head) same ∙ hidden),
        ),
      )

  index_facts : (a : Access) (e : ExprTree) (p : Place) (low high : ℤ) (of : TypeTree) (q : Place)
      → PartIs source.project (array low high of q) a.origin → lies_between low high (sort_of scope e) ≡ true
      → length (lowered source block nothing e).checks ≡ checks_of scope e → (o : Option Written) → literal_of e ≡ o
      → (length (accessed_by a p e (lowered source block nothing e) o).checks ≡ checks_of scope e + one_if (is_none o))
      × StandsAs source.project (part of) a.origin (accessed_by a p e (lowered source block nothing e) o).access.origin
  index_facts a e p low high of q at_array within counted (Some x) j =
      let z = literal_free e x j in
      let inside = written_between low high x (subst (λ s. lies_between low high s ≡ true) (literal_sort scope e x j) within) in
      let k = known_stands scope rules low high of q x.value a.origin inside at_array in
      (omega (arith, z), (k.0, inl k.1))
  index_facts a e p low high of q at_array within counted None j =
      let b = elements_stand scope rules low high of q a.origin at_array in
      let m = moved_counted a p e (lowered source block nothing e) of b.elements (elements_placed a.origin) b.are b.head b.hidden in
      (m.0 ∙ ap (λ (n : ℕ). n + 1) counted, m.1)

  index_counted : (a : Access) (t : Thing) (e : ExprTree) (p : Place) (low high : ℤ) (of : TypeTree) (q : Place)
      → t ≡ part (array low high of q) → Stands source.project t a.origin → is_indexed scope t (index e p) ≡ true
      → length (lowered source block nothing e).checks ≡ checks_of scope e → StepCounted a t (index e p)
  index_counted a t e p low high of q array_is h is counted =
      let within = (and_both (is_index_type (own_type (taken nothing (sort_of scope e)))) (lies_between low high (sort_of scope e))
      (subst (λ y. is_index y (sort_of scope e) ≡ true) array_is is)).1 in
      let f = index_facts a e p low high of q (subst (λ y. Stands source.project y a.origin) array_is h) within counted (literal_of e) refl in record {
        count = f.0;
        stands = subst (λ y. StandsAs source.project (thing_at scope y (index e p)) a.origin (stepped source block a (index e p)).access.origin)
            (sym array_is) f.1;
      }

  step_counted : (a : Access) (l2 : Place) (t : Thing) (step : StepTree) (more : StepTrees) (ty : Ty) → Stands source.project t a.origin
      → is_indexed scope t step ≡ true → HasOwn scope (thing_behind scope l2 (thing_at scope t step) more) ty → IndexCounted step
      → StepCounted a t step
  step_counted a l2 t (field name p) more ty h is own counted =
      record { count = refl; stands = field_stands scope rules t a.origin name.key p h }
  step_counted a l2 t (index e p) more ty h is own counted =
      let x = arrayed scope l2 (first_place e) t more ty own in
      index_counted a t e p x.low x.high x.of x.place x.is h is counted

  record WayCounted (a : Access) (last : Place) (t : Thing) (more : StepTrees) : Type 0 where
    count : length (reached source block a more).checks ≡ checks_of_steps scope more
    stands : Stands source.project (thing_behind scope last t more) (reached source block a more).access.origin
    hidden : is_hidden (reached source block a more).access.origin ≡ is_hidden a.origin

  way_joined : (step : StepTree) (more : StepTrees) (a : Access) (last : Place) (t : Thing) (ty : Ty) → Stands source.project (dated last t) a.origin
      → is_indexed scope (dated last t) step ≡ true
      → HasOwn scope (thing_behind scope (last_behind last step) (thing_at scope (dated last t) step) more) ty → IndexCounted step
      → (Stands source.project (dated (last_behind last step) (thing_at scope (dated last t) step)) (stepped source block a step).access.origin
      → WayCounted (stepped source block a step).access (last_behind last step) (thing_at scope (dated last t) step) more)
      → WayCounted a last t (steps step more)
  way_joined step more a last t ty h is own counted rest =
      let s = step_counted a (last_behind last step) (dated last t) step more ty h is own counted in
      let r = rest (dated_stands scope rules (last_behind last step) (thing_at scope (dated last t) step)
      (stepped source block a step).access.origin s.stands.0) in record {
        count = (let e = length-append (stepped source block a step).checks (reached source block (stepped source block a step).access more).checks in
            let c = s.count in let d = r.count in omega (arith, e, c, d));
        stands = r.stands;
        hidden = r.hidden ∙ either s.stands.1;
      }
    where
      either : (is_hidden (stepped source block a step).access.origin ≡ is_hidden a.origin) ⊎ IsLost (thing_at scope (dated last t) step)
          → is_hidden (stepped source block a step).access.origin ≡ is_hidden a.origin
      either (inl e) = e
      either (inr lost) = absurd (lost_own scope (last_behind last step) (thing_at scope (dated last t) step) more ty lost own)

  way_counted : (more : StepTrees) (a : Access) (last : Place) (t : Thing) (ty : Ty) → Stands source.project (dated last t) a.origin
      → are_indexed scope last t more ≡ true → HasOwn scope (thing_behind scope last t more) ty → IndexesCounted more → WayCounted a last t more
  way_counted no_steps a last t ty h is own counted = record { count = refl; stands = h; hidden = refl }
  way_counted (steps step more) a last t ty h is own counted =
      let both = and_both (is_indexed scope (dated last t) step)
      (are_indexed scope (last_behind last step) (thing_at scope (dated last t) step) more) is in
      way_joined step more a last t ty h both.0 own counted.0
      (λ n. way_counted more (stepped source block a step).access (last_behind last step) (thing_at scope (dated last t) step) ty n both.1 own counted.1)

  -- ---- names

  abbrev RootCounts : Thing → Origin → Truth → Type 0
  RootCounts t o hidden = Stands source.project t o × (is_hidden o ≡ hidden)

  laid_found : (test : Section → Truth) (vars : List VarTree) (key : List ℕ) (first : ℕ) (v : VarTree) → first_var vars key ≡ Some v
      → test (section_of v) ≡ true
      → (l : Laid) × (laid_among source.project test vars key first ≡ Some l) × (l.ty ≡ declared_type_of v)
  laid_found test [] key first v is passes = absurd (none-some v is)
  laid_found test (var name section ty start p ∷ more) key first v is passes =
      lead (bytes_eq key name.key) is (test section) refl (λ n f. laid_found test more key n v f passes)
    where
      it : VarTree
      it = var name section ty start p

      n : ℕ
      n = first + size_in source.project ty

      lead : (c : Truth) → (if c then Some it else first_var more key) ≡ Some v → (b : Truth) → test section ≡ b
          → ((k : ℕ) → first_var more key ≡ Some v
          → (l : Laid) × (laid_among source.project test more key k ≡ Some l) × (l.ty ≡ declared_type_of v))
          → (l : Laid)
          × ((if b then (if c then Some (record { ty = ty; first = first }) else laid_among source.project test more key n)
          else laid_among source.project test more key first) ≡ Some l)
          × (l.ty ≡ declared_type_of v)
      lead true f true e rest = (record { ty = ty; first = first }, refl, ap declared_type_of (same_Some it v f))
      lead true f false e rest =
          absurd (true≢false (sym passes ∙ ap (λ x. test (section_of x)) (sym (same_Some it v f)) ∙ e))
      lead false f true e rest = rest n f
      lead false f false e rest = rest first f

  const_not_brief : (s : Section) → is_const s ≡ true → is_brief_in block s ≡ false
  const_not_brief Input e = absurd (false≢true e)
  const_not_brief Output e = absurd (false≢true e)
  const_not_brief InOut e = absurd (false≢true e)
  const_not_brief Static e = absurd (false≢true e)
  const_not_brief Temp e = absurd (false≢true e)
  const_not_brief Const e = lead (is_fb block.kind)
    where
      lead : (f : Truth) → (if f then false else false) ≡ false
      lead true = refl
      lead false = refl

  of_instance : (s : Section) → is_const s ≡ false → is_brief_in block s ≡ false → is_of_instance s ≡ true
  of_instance Input c e = refl
  of_instance Output c e = refl
  of_instance InOut c e = refl
  of_instance Static c e = refl
  of_instance Temp c e = lead (is_fb block.kind) e
    where
      lead : (f : Truth) → (if f then true else true) ≡ false → false ≡ true
      lead true x = absurd (true≢false x)
      lead false x = absurd (true≢false x)
  of_instance Const c e = absurd (true≢false c)

  module _ (shows : Shows) (laid : IsLaidOut source block) where
    known_vars : AreKnown source.project block.vars
    known_vars = block_known source.project rules block laid.there

    var_counted : (key : List ℕ) (v : VarTree) → first_var block.vars key ≡ Some v
        → RootCounts (thing_of_var v) (placed_variable source block key v) (is_brief_in block (section_of v))
    var_counted key v is = by (is_const (section_of v)) refl (is_brief_in block (section_of v)) refl
      where
        T : TypeTree
        T = declared_type_of v

        found : (make : Laid → Origin) → ((l : Laid) → (l.ty ≡ T) × IsKnown source.project T → PartIs source.project T (make l))
            → (test : Section → Truth) → (h : Truth) → ((l : Laid) → is_hidden (make l) ≡ h)
            → (l : Laid) × (laid_among source.project test block.vars key 0 ≡ Some l) × (l.ty ≡ T)
            → RootCounts (part T) (laid_where make (laid_among source.project test block.vars key 0)) h
        found make stands test h hidden x =
            subst (λ o. RootCounts (part T) (laid_where make o) h) (sym x.1) (
              stands x.0 (
                x.2,
                subst (IsKnown source.project) x.2
                    (laid_bounds source.project test block.vars key 0 x.0 known_vars x.1).2,
              ),
              hidden x.0,
            )

        by : (c : Truth) → is_const (section_of v) ≡ c → (b : Truth) → is_brief_in block (section_of v) ≡ b
            → RootCounts (if c then constant T else part T)
            (if c then at_spot (fixed (start_value (start_of v)))
            else (if b then laid_where in_activation (laid_among source.project (is_brief_in block) block.vars key 0)
            else laid_where in_instance (laid_among source.project is_of_instance block.vars key 0))) b
        by true c b e = (tt, sym (const_not_brief (section_of v) c) ∙ e)
        by false c true e = found in_activation (λ l h. h) (is_brief_in block) true (λ l. refl) (laid_found (is_brief_in block) block.vars key 0 v is e)
        by false c false e = found in_instance (λ l h. h) is_of_instance false (λ l. refl)
            (laid_found is_of_instance block.vars key 0 v is (of_instance (section_of v) c e))

    block_counted : (key : List ℕ) (b : BlockTree) → first_block source.project.blocks key ≡ Some b
        → RootCounts (a_block b) (placed_block source b) false
    block_counted key b is = by (is_db b.kind) refl
      where
        o : Truth → Origin
        o d = if d then in_table (record { ty = data_type b; first = data_block_first source b.name.key }) else at_spot nowhere

        by : (d : Truth) → is_db b.kind ≡ d → (is_db b.kind ≡ true → PartIs source.project (data_type b) (o d)) × (is_hidden (o d) ≡ false)
        by true e = (λ f. (refl, (data_laid_out shows source laid.table rules key b is f).known), refl)
        by false e = (λ f. absurd (true≢false (sym f ∙ e)), refl)

    address_counted : (ty : Ty) (area : Area) (bits byte n : ℕ)
        → RootCounts (part (plain ty)) (at_spot (address_spot source ty area bits byte n)) false
    address_counted ty area bits byte n = lead (nat_le bits 1)
      where
        lead : (b : Truth) → RootCounts (part (plain ty))
            (at_spot (if b then bit (byte_number source area byte) n else bytes ty (byte_number source area byte) (bits / 8))) false
        lead true = ((tt, tt), refl)
        lead false = ((tt, tt), refl)

    symbol_suits : (ty : Ty) (o : OperandTree) → SuitsAddress ty o
        → RootCounts (part (plain ty)) (at_spot (symbol_at source ty o)) false
    symbol_suits ty (operand (InArea area bits byte n) more p) suits = address_counted ty area bits byte n
    symbol_suits ty (operand (Local name hash q) more p) suits = absurd suits
    symbol_suits ty (operand (Named name) more p) suits = absurd suits

    symbol_counted : (key : List ℕ) (p : Place) (o : Option SymbolTree) → first_symbol source.project.symbols key ≡ o
        → RootCounts (symbol_where o p) (placed_symbol source o) false
    symbol_counted key p None is = (tt, refl)
    symbol_counted key p (Some s) is =
        symbol_suits s.ty s.at (symbol_found (λ x. SuitsAddress x.ty x.at) source.project.symbols key s laid.symbols is)

    word_counted : (key : List ℕ) (hash : Truth) (p : Place)
        → RootCounts (thing_of_word scope key hash p) (placed_word source block key hash) (is_brief_word block key hash)
    word_counted key hash p = variable (first_var block.vars key) refl
      where
        blocked : (o : Option BlockTree) → first_block source.project.blocks key ≡ o
            → RootCounts (thing_of_block o (no_name p)) (placed_block_or source o (at_spot nowhere)) false
        blocked None is = (tt, refl)
        blocked (Some b) is = block_counted key b is

        hashed : (h : Truth)
            → RootCounts (if h then no_name p else thing_of_block (first_block source.project.blocks key) (no_name p))
            (if h then at_spot nowhere else placed_block_or source (first_block source.project.blocks key) (at_spot nowhere)) false
        hashed true = (tt, refl)
        hashed false = blocked (first_block source.project.blocks key) refl

        valued : (o : Option Ty)
            → RootCounts (thing_of_value o (if hash then no_name p else thing_of_block (first_block source.project.blocks key) (no_name p)))
            (placed_value_or source block o
            (if hash then at_spot nowhere else placed_block_or source (first_block source.project.blocks key) (at_spot nowhere))) (is_some o)
        valued None = hashed hash
        valued (Some ty) = ((tt, tt), refl)

        variable : (o : Option VarTree) → first_var block.vars key ≡ o
            → RootCounts (thing_of_variable o (thing_of_value (own_value block key hash)
            (if hash then no_name p else thing_of_block (first_block source.project.blocks key) (no_name p))))
            (placed_variable_or source block key o (placed_value_or source block (own_value block key hash)
            (if hash then at_spot nowhere else placed_block_or source (first_block source.project.blocks key) (at_spot nowhere))))
            (is_brief_variable block o (is_some (own_value block key hash)))
        variable None is = valued (own_value block key hash)
        variable (Some v) is = var_counted key v is

    name_counted : (key : List ℕ) (p : Place)
        → RootCounts (thing_of_name scope key p) (placed_name source block key) (is_some (quoted_value block key))
    name_counted key p = valued (quoted_value block key)
      where
        blocked : (o : Option BlockTree) → first_block source.project.blocks key ≡ o
            → RootCounts (thing_of_block o (symbol_where (first_symbol source.project.symbols key) p))
            (placed_block_or source o (placed_symbol source (first_symbol source.project.symbols key))) false
        blocked None is = symbol_counted key p (first_symbol source.project.symbols key) refl
        blocked (Some b) is = block_counted key b is

        valued : (o : Option Ty)
            → RootCounts (thing_of_value o (thing_of_block (first_block source.project.blocks key)
            (symbol_where (first_symbol source.project.symbols key) p)))
            (placed_value_or source block o (placed_block_or source (first_block source.project.blocks key)
            (placed_symbol source (first_symbol source.project.symbols key)))) (is_some o)
        valued None = blocked (first_block source.project.blocks key) refl
        valued (Some ty) = ((tt, tt), refl)

    root_counted : (root : Root) (p : Place) → RootCounts (thing_of_root scope root p) (placed source block root) (is_brief_root block root)
    root_counted (Local name hash q) p = word_counted name.key hash q
    root_counted (Named name) p = name_counted name.key p
    root_counted (InArea area bits byte n) p = lead (is_address bits byte n)
      where
        there : RootCounts (part (plain (type_of_bits bits))) (at_spot (address_spot source (type_of_bits bits) area bits byte n)) false
        there = address_counted (type_of_bits bits) area bits byte n

        lead : (b : Truth) → RootCounts (if b then part (plain (type_of_bits bits)) else untold)
            (at_spot (address_spot source (type_of_bits bits) area bits byte n)) false
        lead true = there
        lead false = (tt, there.1)

    -- ---- operands

    record OperandCounted (root : Root) (more : StepTrees) (p : Place) : Type 0 where
      target : length (accessed source block (operand root more p)).checks ≡ checks_of_steps scope more
      reads : (ty : Ty) (at : Place)
          → length (read_at source block ty (accessed source block (operand root more p)).access at).checks ≡ one_if (is_brief_root block root)

    operand_counted : (root : Root) (more : StepTrees) (p : Place) (ty : Ty) → own_type (sort_of_operand scope (operand root more p)) ≡ Some ty
        → IndexesCounted more → OperandCounted root more p
    operand_counted root more p ty own counted =
        let r = right_of scope root more p ty own in
        let b = root_counted root p in
        let start : Access = record { origin = placed source block root; moves = [] } in
        let way = way_counted more start (root_place root p) (thing_of_root scope root p) ty
        (dated_stands scope rules (root_place root p) (thing_of_root scope root p) (placed source block root) b.0) r.indexed r.own counted in record {
          target = way.count;
          reads = λ t at.
              unset_counted (thing_behind scope (root_place root p) (thing_of_root scope root p) more) ty
              (reached source block start more).access.origin (reached source block start more).access.moves at way.stands r.own
              ∙ ap one_if (way.hidden ∙ b.1);
        }

    -- ---- expressions

    divisor_counted : (op : BinaryOp) (p : Place) (ty : Ty) (t : Term) → length (divisor_checks op p ty t) ≡ one_if (divides op)
    divisor_counted op p ty t = lead (divides op)
      where
        lead : (d : Truth) → length (if d then zero_check p ty t ∷ [] else []) ≡ (if d then 1 else 0)
        lead true = refl
        lead false = refl

    operand_own : (want : Want) (o : OperandTree) → HasType scope (record { want = want; expr = read o })
        → own_type (sort_of_operand scope o) ≡ Some (part_type scope want (read o))
    operand_own want o has = sym (operand_taken scope want o) ∙ some_told (type_of scope want (read o)) has

    abbrev Counts : Want → ExprTree → Type 0
    Counts want e = length (lowered source block want e).checks ≡ checks_of scope e

    unary_counted : (want : Want) (op : UnaryOp) (p : Place) (arg : ExprTree) (o : Option Written) → signed op (literal_of arg) ≡ o → (ty : Ty)
        → AreGood scope (if is_some o then [] else parts_of scope nothing arg) → (AreGood scope (parts_of scope nothing arg) → Counts nothing arg)
        → length (literal_or want o (around op ty (lowered source block nothing arg))).checks ≡ checks_of scope arg
    unary_counted want op p arg (Some x) is ty good below = sym (literal_free (unary op p arg) x is)
    unary_counted want op p arg None is ty good below = below good

    paren_counted : (want : Want) (inner : ExprTree) (o : Option Written) → literal_of inner ≡ o
        → AreGood scope (if is_some o then [] else parts_of scope want inner) → (AreGood scope (parts_of scope want inner) → Counts want inner)
        → Counts want inner
    paren_counted want inner (Some x) is good below =
        ap (λ (l : Lowered). length l.checks) (literal_lowered source block want inner x is) ∙ sym (literal_free inner x is)
    paren_counted want inner None is good below = below good

    both_counted : (xs ys : List Check) (a b : ℕ) → length xs ≡ a → length ys ≡ b → length (xs ++ ys) ≡ a + b
    both_counted xs ys a b p q = let e = length-append xs ys in omega (arith, e, p, q)

    mutual
      counted : (want : Want) (e : ExprTree) → AreGood scope (parts_of scope want e) → Counts want e
      counted want (lit ty v p) g = refl
      counted want (read (operand root more p)) g =
          let own = operand_own want (operand root more p) g.0.0 in
          let c = operand_counted root more p (part_type scope want (read (operand root more p))) own (indexes_counted more g.1) in
          both_counted (accessed source block (operand root more p)).checks
          (read_at source block (part_type scope want (read (operand root more p))) (accessed source block (operand root more p)).access p).checks
          (checks_of_steps scope more) (one_if (is_brief_root block root)) c.target
          (c.reads (part_type scope want (read (operand root more p))) p)
      counted want (unary op p arg) g =
          unary_counted want op p arg (signed op (literal_of arg)) refl (part_type scope nothing arg) g.1 (λ h. counted nothing arg h)
      counted want (binary op p left right) g =
          let wanted = want_beside scope left right in
          let l = lowered source block wanted left in
          let r = lowered source block wanted right in
          both_counted (l.checks ++ r.checks) (divisor_checks op p (met_type scope left right) (met_term scope left right right r))
          (checks_of scope left + checks_of scope right) (one_if (divides op))
          (both_counted l.checks r.checks (checks_of scope left) (checks_of scope right)
          (counted wanted left (good_front scope (parts_of scope wanted left) (parts_of scope wanted right) g.1))
          (counted wanted right (good_back scope (parts_of scope wanted left) (parts_of scope wanted right) g.1)))
          (divisor_counted op p (met_type scope left right) (met_term scope left right right r))
      counted want (std function p args) g = counted_each (wants_of function (sorts_of scope args)) args g.1
      counted want (paren p inner) g = paren_counted want inner (literal_of inner) refl g.1 (λ h. counted want inner h)

      counted_each : (wants : List Want) (args : ExprTrees) → AreGood scope (parts_of_args scope wants args)
          → length (arguments source block wants args).checks ≡ checks_of_each scope args
      counted_each wants no_exprs g = refl
      counted_each [] (exprs e more) g =
          both_counted (lowered source block nothing e).checks (arguments source block [] more).checks (checks_of scope e) (checks_of_each scope more)
          (counted nothing e (good_front scope (parts_of scope nothing e) (parts_of_args scope [] more) g))
          (counted_each [] more (good_back scope (parts_of scope nothing e) (parts_of_args scope [] more) g))
      counted_each (want ∷ wants) (exprs e more) g =
          both_counted (lowered source block want e).checks (arguments source block wants more).checks (checks_of scope e) (checks_of_each scope more)
          (counted want e (good_front scope (parts_of scope want e) (parts_of_args scope wants more) g))
          (counted_each wants more (good_back scope (parts_of scope want e) (parts_of_args scope wants more) g))

      indexes_counted : (more : StepTrees) → AreGood scope (parts_of_steps scope more) → IndexesCounted more
      indexes_counted no_steps g = tt
      indexes_counted (steps step more) g = (
        index_is_counted step (good_front scope (parts_of_step scope step) (parts_of_steps scope more) g),
        indexes_counted more (good_back scope (parts_of_step scope step) (parts_of_steps scope more) g),
      )

      index_is_counted : (step : StepTree) → AreGood scope (parts_of_step scope step) → IndexCounted step
      index_is_counted (field name p) g = tt
      index_is_counted (index e p) g = counted nothing e g

-- ---- the law

fit_good : PartsHaveTypes → (source : Source) (block : BlockTree) (want : Want) (e : ExprTree) (ty : Ty) → IsFit source block want e ty
    → AreGood (scope_of source block) (parts_of (scope_of source block) want e)
fit_good types source block want e ty fit =
    good_all (scope_of source block) (parts_of (scope_of source block) want e)
    (types (scope_of source block) want e (some_is (type_of (scope_of source block) want e) ty fit.has_type)) fit.parts.literals

target_counted : PartsHaveTypes → Shows → (source : Source) (block : BlockTree) (o : OperandTree) (ty : Ty) → IsLaidOut source block
    → IsFitOperand source block o ty → length (accessed source block o).checks ≡ checks_of_target (scope_of source block) o
target_counted types shows source block (operand root more p) ty laid fit =
    (operand_counted source block laid.rules shows laid root more p ty fit.has_type
    (indexes_counted source block laid.rules shows laid more
    (good_all scope (parts_of_steps scope more)
    (types scope nothing (read (operand root more p))
    (some_is _ ty (operand_taken scope nothing (operand root more p) ∙ fit.has_type))).1 fit.indexes.literals))).target
  where
    scope : Scope
    scope = scope_of source block

pub checks_are_counted : PartsHaveTypes → Shows → ChecksAreCounted
checks_are_counted types shows = record {
  expr = λ source block want e ty laid fit.
      counted source block laid.rules shows laid want e (fit_good types source block want e ty fit);
  target = λ source block o ty laid fit. target_counted types shows source block o ty laid fit;
}
