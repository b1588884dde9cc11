-- Operands: where they lead, what is read there, and so the values of all expressions.
use Rattle.std.proofs.Common.{◌≡◌, ℕ, ◌+◌, ◌-◌, ℤ, List, [], ◌∷◌, ◌++◌, Contains, Bool as Truth, true, false, ◌&&◌, not, Option, Some, None, refl, sym, ap, subst, ◌∙◌}
use Rattle.std.specs.Prelude.{⊤, is_some, if◌then◌else◌}
use Rattle.std.specs.List.{AllByRecursion}
use Rattle.std.proofs.lemmas.Bool.{false≢true, true≢false}
use Rattle.std.proofs.lemmas.Option.{none-some, same_Some}
use Rattle.pv_word.specs.declared.types.Ty.{Ty}
use Rattle.pv_word.specs.declared.types.Ty.TheVariants.{Bool}
use Rattle.pv_word.specs.Types.{InRange, width_of}
use Rattle.pv_place.specs.declared.place.Place.{Place}
use Rattle.pv_types.specs.Tree.{TypeTree, plain, array, structure, named, unread}
use Rattle.pv_tree.specs.declared.expr.Area.{Area}
use Rattle.pv_tree.specs.declared.expr.Area.TheVariants.{I, Q, M}
use Rattle.pv_tree.specs.declared.expr.Root.{Root}
use Rattle.pv_tree.specs.declared.expr.Root.TheVariants.{Local, Named, Area as InArea}
use Rattle.pv_tree.specs.declared.expr.UnaryOp.{UnaryOp}
use Rattle.pv_tree.specs.Tree.{ExprTree, lit, read, unary, binary, std, paren, ExprTrees, no_exprs, exprs, OperandTree, operand, StepTree, field, index, StepTrees, no_steps, steps, BlockTree}
use Rattle.pv_tree.specs.LiteralTypes.{Want, nothing, this}
use Rattle.pv_tree.specs.Sorts.{own_type, taken, widens, wants_of, whole, broken}
use Rattle.pv_tree.specs.Scopes.{SymbolTree, Scope, has_key, first_symbol, type_named}
use Rattle.pv_tree.specs.Things.{Thing, part, constant, a_block, no_name, no_array, a_date, untold, dated, type_of_bits, last_byte, is_address, place_of_operand, thing_behind, thing_of_root, root_place}
use Rattle.pv_tree.specs.Types.{Written, signed, literal_of, sort_of_type, sort_of_thing, is_void, sort_of_operand, sorts_of, is_indexed, are_indexed, type_of}
use Rattle.pv_tree.specs.Parts.{Part, parts_of, parts_of_args, parts_of_operand, parts_of_steps, parts_of_step, operands_read, reads_of_parts}
use Rattle.pv_tree.specs.Rules.Addresses.{is_wrong_root}
use Rattle.pv_tree.specs.RuleLaws.{HasType}
use Rattle.pv_mean.specs.AreaBytes.{is_same_area, from_on}
use Rattle.pv_mean.specs.Sources.{Source}
use Rattle.pv_mean.specs.Frames.{Frame}
use Rattle.pv_mean.specs.Endings.{Tried, got, trap, and_then}
use Rattle.pv_mean.specs.Spots.{Spot, read_spot, write_spot}
use Rattle.pv_mean.specs.Activations.{Activation, address_spot, symbol_at, root_begins, spot_of}
use Rattle.pv_mean.specs.Values.{value, locate, behind, step_behind}
use Rattle.pv_sizes.specs.Checks.{is_brief}
use Rattle.pv_flow.specs.Terms.{Valuation, value_of, holds_in}
use Rattle.pv_flow.specs.Calls.{set_through}
use Rattle.pv_variables.specs.Origins.{placed}
use Rattle.pv_access.specs.Accesses.{Check, assigning, choosing}
use Rattle.pv_access.specs.Correct.{checked, through}
use Rattle.pv_lower.specs.Storages.{Access, storage_at}
use Rattle.pv_lower.specs.Lowered.{Accessed, scope_of, part_type, typed, want_beside, read_at, lowered, lowered_as, accessed, stepped}
use Rattle.pv_laws_types.specs.Typed.{IsTyped, SpotHas, SuitsAddress}
use Rattle.pv_laws_types.proofs.ForCallers.{ReadsLie, widens_lies, reads_lie, typed_spot, dated_means, root_means, block_known, AreKnown, Means}
use Rattle.pv_laws_lower.specs.Below.{BelowLaws}
use Rattle.pv_laws_lower.specs.Fit.{bytes_in, HasBytes, IsThere, IsAddressed, IsLaidOut, LiteralLies, IsFit, IsFitOperand}
use Rattle.pv_laws_lower.specs.Agrees.{Agrees, outcome, spot_in, spot_found}
use Rattle.pv_laws_lower.specs.Correct.{ValuesHold, AssignedHold, PlacesHold, SpotsAreRead, SpotsAreWritten, SpotsAreWrittenWhere, sets_of}
use Rattle.pv_laws_lower.proofs.Checked.{then_checked, checked_map, passed_over, passes_with, got_there}
use Rattle.pv_laws_lower.proofs.Sorts.{some_told, unwrapped}
use Rattle.pv_laws_lower.proofs.Functions.{at_value}
use Rattle.pv_laws_lower.proofs.Values.{IsGood, AreGood, OperandReads, ReadsIn, ReadsInEach, part_lies, value_is}
use Rattle.pv_laws_lower.proofs.Walked.{begun, lost_untold, HasOwn, IndexReads, IndexesRead, Arrives, arrives}
use Rattle.pv_laws_lower.proofs.Regions.{SpotLies, IsKept, step_kept}
use Rattle.pv_laws_lower.proofs.Areas.{address_lies}
use Rattle.pv_laws_lower.proofs.Lists.{all_front, all_back, all_both}
use Rattle.pv_laws_lower.proofs.Roots.{root_there, AddressLies, root_lies}
use Rattle.pv_laws_lower.proofs.Shown.{Sees, sees_all, shown}
use Rattle.pv_laws_lower.proofs.Staying.{cells_stay, cells_stay_where}
use Rattle.pv_laws_lower.proofs.Written.{access_written, access_chosen}

-- ---- what parts fit

-- where an operand begins in a brief cell, brief cells are asked for
abbrev pub Asks : Type 0 → Scope → OperandTree → Type 0
Asks asks scope o = is_brief scope o ≡ true → asks

abbrev pub AskEach : Type 0 → Scope → List Part → Type 0
AskEach asks scope ps = AllByRecursion (λ (p : Part). AllByRecursion (Asks asks scope) (operands_read p.expr)) ps

abbrev pub IsNamable : Type 0 → Source → Scope → OperandTree → Type 0
IsNamable asks source scope o = IsAddressed source.bytes o × Asks asks scope o

abbrev pub IsFull : Type 0 → Source → Scope → Part → Type 0
IsFull asks source scope p = IsGood scope p × AllByRecursion (IsNamable asks source scope) (operands_read p.expr)

abbrev pub AreFull : Type 0 → Source → Scope → List Part → Type 0
AreFull asks source scope ps = AllByRecursion (IsFull asks source scope) ps

pub good_all : (scope : Scope) (ps : List Part) → AllByRecursion (HasType scope) ps → AllByRecursion LiteralLies ps → AreGood scope ps
good_all scope [] t l = tt
good_all scope (p ∷ ps) t l = ((t.0, l.0), good_all scope ps t.1 l.1)

full_all : (asks : Type 0) (source : Source) (scope : Scope) (ps : List Part) → AreGood scope ps
    → AllByRecursion (IsAddressed source.bytes) (reads_of_parts ps) → AskEach asks scope ps → AreFull asks source scope ps
full_all asks source scope [] g a b = tt
full_all asks source scope (p ∷ ps) g a b = (
  (
    g.0,
    all_both (IsAddressed source.bytes) (Asks asks scope) (IsNamable asks source scope) (operands_read p.expr) (λ o x y. (x, y))
        (all_front (IsAddressed source.bytes) (operands_read p.expr) (reads_of_parts ps) a) b.0,
  ),
  full_all asks source scope ps g.1 (all_back (IsAddressed source.bytes) (operands_read p.expr) (reads_of_parts ps) a) b.1,
)

full_good : (asks : Type 0) (source : Source) (scope : Scope) (ps : List Part) → AreFull asks source scope ps → AreGood scope ps
full_good asks source scope [] a = tt
full_good asks source scope (p ∷ ps) a = (a.0.0, full_good asks source scope ps a.1)

-- where all brief cells are there, each may be asked for
asked_each : (scope : Scope) (os : List OperandTree) → AllByRecursion (Asks ⊤ scope) os
asked_each scope [] = tt
asked_each scope (o ∷ os) = (λ e. tt, asked_each scope os)

asked_all : (scope : Scope) (ps : List Part) → AskEach ⊤ scope ps
asked_all scope [] = tt
asked_all scope (p ∷ ps) = (asked_each scope (operands_read p.expr), asked_all scope ps)

pub some_is : (o : Option Ty) (ty : Ty) → o ≡ Some ty → is_some o ≡ true
some_is o ty e = ap is_some e

-- ---- operands that are right

-- what has a type has right indexes and begins at an address, if at one
pub record IsRight (scope : Scope) (root : Root) (more : StepTrees) (place : Place) (ty : Ty) : Type 0 where
  pub indexed : are_indexed scope (root_place root place) (thing_of_root scope root place) more ≡ true
  pub own : HasOwn scope (thing_behind scope (root_place root place) (thing_of_root scope root place) more) ty
  pub root_right : is_wrong_root root ≡ false

wrong_lost : (scope : Scope) (root : Root) (place : Place) → is_wrong_root root ≡ true → thing_of_root scope root place ≡ untold
wrong_lost scope (Local name hash at_place) place e = absurd (false≢true e)
wrong_lost scope (Named name) place e = absurd (false≢true e)
wrong_lost scope (InArea area bits byte n) place e = lead (is_address bits byte n) e
  where
    lead : (b : Truth) → not b ≡ true → (if b then part (plain (type_of_bits bits)) else untold) ≡ untold
    lead true f = absurd (false≢true f)
    lead false f = refl

own_right : (scope : Scope) (root : Root) (more : StepTrees) (place : Place) (ty : Ty)
    → HasOwn scope (thing_behind scope (root_place root place) (thing_of_root scope root place) more) ty → (b : Truth) → is_wrong_root root ≡ b
    → is_wrong_root root ≡ false
own_right scope root more place ty own false e = e
own_right scope root more place ty own true e =
    absurd (none-some ty (sym (ap (λ t. own_type (sort_of_thing scope t))
    (ap (λ t. thing_behind scope (root_place root place) t more) (wrong_lost scope root place e)
    ∙ lost_untold scope (root_place root place) more)) ∙ own))

pub right_of : (scope : Scope) (root : Root) (more : StepTrees) (place : Place) (ty : Ty)
    → own_type (sort_of_operand scope (operand root more place)) ≡ Some ty → IsRight scope root more place ty
right_of scope root more place ty e =
    by (are_indexed scope (root_place root place) (thing_of_root scope root place) more) refl e
  where
    x : Thing
    x = thing_behind scope (root_place root place) (thing_of_root scope root place) more

    by : (b : Truth) → are_indexed scope (root_place root place) (thing_of_root scope root place) more ≡ b
        → own_type (if b then sort_of_thing scope x else broken) ≡ Some ty → IsRight scope root more place ty
    by true i f = record { indexed = i; own = f; root_right = own_right scope root more place ty f (is_wrong_root root) refl }
    by false i f = absurd (none-some ty f)

-- what is wanted of an operand that is read doesn't matter
type_taken : (scope : Scope) (want : Want) (t : TypeTree) → own_type (taken want (sort_of_type scope t)) ≡ own_type (sort_of_type scope t)
type_taken scope want (plain ty) = refl
type_taken scope want (array low high of p) = refl
type_taken scope want (structure vars) = refl
type_taken scope want (named name p) = lead (is_some (type_named scope.project name.key))
  where
    lead : (b : Truth) → own_type (taken want (if b then whole else broken)) ≡ own_type (if b then whole else broken)
    lead true = refl
    lead false = refl
type_taken scope want unread = refl

thing_taken : (scope : Scope) (want : Want) (t : Thing) → own_type (taken want (sort_of_thing scope t)) ≡ own_type (sort_of_thing scope t)
thing_taken scope want (part ty) = type_taken scope want ty
thing_taken scope want (constant ty) = type_taken scope want ty
thing_taken scope want (a_block b) = lead (is_void b)
  where
    lead : (x : Truth) → own_type (taken want (if x then broken else whole)) ≡ own_type (if x then broken else whole)
    lead true = refl
    lead false = refl
thing_taken scope want (no_name p) = refl
thing_taken scope want (no_array p) = refl
thing_taken scope want (a_date p) = refl
thing_taken scope want untold = refl

pub operand_taken : (scope : Scope) (want : Want) (o : OperandTree) → own_type (taken want (sort_of_operand scope o)) ≡ own_type (sort_of_operand scope o)
operand_taken scope want (operand root more p) = lead (are_indexed scope (root_place root p) (thing_of_root scope root p) more)
  where
    x : Thing
    x = thing_behind scope (root_place root p) (thing_of_root scope root p) more

    lead : (b : Truth)
        → own_type (taken want (if b then sort_of_thing scope x else broken)) ≡ own_type (if b then sort_of_thing scope x else broken)
    lead true = thing_taken scope want x
    lead false = refl

-- ---- operands

module _ (laws : BelowLaws) (asks : Type 0) (source : Source) (act : Activation) (place : ℕ → ℕ) (frame : Frame) (v : Valuation)
    (work : Sees asks source act place frame v)
    (symbols : (key : List ℕ) (s : SymbolTree) → first_symbol source.project.symbols key ≡ Some s
    → SpotLies asks source act.block (symbol_at source s.ty s.at) [])
    (addresses : (root : Root) (more : StepTrees) (p : Place) → IsAddressed source.bytes (operand root more p) → is_wrong_root root ≡ false
    → AddressLies asks laws.table.shows source act.block work.laid.table work.laid.rules
    (block_known source.project work.laid.rules act.block work.work.block) symbols root) where
  abbrev w : Valuation
  w = through place v

  abbrev scope : Scope
  scope = scope_of source act.block

  known : AreKnown source.project act.block.vars
  known = block_known source.project work.laid.rules act.block work.work.block

  typed_here : IsTyped source act frame
  typed_here = record {
    rules = work.laid.rules;
    symbols = work.laid.symbols;
    table = work.laid.table;
    work = work.work;
    cells = work.cells;
  }

  reads : ReadsLie source act frame
  reads = reads_lie laws.table.shows source act frame typed_here

  abbrev Kept : Access → Type 0
  Kept a = IsKept asks source act.block w a

  -- ---- where an operand leads

  kept_on : (a : Access) (last : Place) (t : Thing) (step : StepTree) → Means source act (dated last t) (begun w act.first a) → Kept a
      → AreGood scope (parts_of_step scope step) → is_indexed scope (dated last t) step ≡ true
      → step_behind source act frame (begun w act.first a) step ≡ got (begun w act.first (stepped source act.block a step).access)
      → checked w (stepped source act.block a step).checks (begun w act.first (stepped source act.block a step).access)
      ≡ got (begun w act.first (stepped source act.block a step).access)
      → IndexReads source act frame w step
      → Kept (stepped source act.block a step).access
  kept_on a last t step means kept good is behind_it passed indexes =
      step_kept asks source act.block work.laid.rules laws.terms.indexes w a step (begun w act.first (stepped source act.block a step).access) passed kept

  abbrev start : Root → Access
  start root = record { origin = placed source act.block root; moves = [] }

  operand_arrives : (root : Root) (more : StepTrees) (p : Place) (ty : Ty) → IsRight scope root more p ty
      → IsNamable asks source scope (operand root more p) → AreGood scope (parts_of_steps scope more)
      → IndexesRead source act frame w more
      → Arrives laws.terms laws.fields laws.elements source act frame w reads Kept kept_on (start root) (root_place root p) (thing_of_root scope root p) more
  operand_arrives root more p ty right address good indexes =
      arrives laws.terms laws.fields laws.elements source act frame w reads Kept kept_on work.laid.rules more (start root) (root_place root p)
      (thing_of_root scope root p) ty
      (subst (Means source act (dated (root_place root p) (thing_of_root scope root p))) (sym (root_there laws.names source act w root))
      (dated_means source work.laid.rules act (root_place root p) (thing_of_root scope root p) (root_begins source act root)
      (root_means laws.table.shows source work.laid.table work.laid.rules work.laid.symbols act work.work root p right.root_right)))
      (record {
        inside = tt;
        lies = root_lies asks laws.table.shows source act.block work.laid.table work.laid.rules known symbols root
            (addresses root more p address.0 right.root_right) address.1;
      })
      right.indexed right.own good indexes

  record OperandIs (o : OperandTree) : Type 0 where
    located : locate source act frame o ≡ spot_found w act.first (accessed source act.block o)
    kept : (spot : Spot) → locate source act frame o ≡ got spot → Kept (accessed source act.block o).access

  operand_is : (root : Root) (more : StepTrees) (p : Place) (ty : Ty) → own_type (sort_of_operand scope (operand root more p)) ≡ Some ty
      → IsNamable asks source scope (operand root more p) → AreGood scope (parts_of_steps scope more)
      → IndexesRead source act frame w more → OperandIs (operand root more p)
  operand_is root more p ty has address good indexes = record {
    located = found;
    kept = λ spot e. it.stays (passes_with w acc.checks (spot_in w act.first acc.access) spot (begun w act.first acc.access) (sym found ∙ e));
  }
    where
      acc : Accessed
      acc = accessed source act.block (operand root more p)

      it : Arrives laws.terms laws.fields laws.elements source act frame w reads Kept kept_on (start root) (root_place root p)
          (thing_of_root scope root p) more
      it = operand_arrives root more p ty (right_of scope root more p ty has) address good indexes

      found : locate source act frame (operand root more p) ≡ spot_found w act.first acc
      found =
          ap (λ b. and_then (behind source act frame b more) (λ c. got (spot_of c))) (sym (root_there laws.names source act w root))
          ∙ ap (λ t. and_then t (λ c. got (spot_of c))) it.same
          ∙ sym (checked_map w spot_of acc.checks (begun w act.first acc.access))

  -- ---- what is read there

  read_is : (want : Want) (o : OperandTree) (ty : Ty) (at : Place) → own_type (taken want (sort_of_operand scope o)) ≡ Some ty → OperandIs o
      → (spot : Spot) → locate source act frame o ≡ got spot
      → read_spot frame at spot ≡ outcome w (read_at source act.block ty (accessed source act.block o).access at)
  read_is want o ty at has it spot e =
      let acc = accessed source act.block o in
      let kept = it.kept spot e in
      let there = got_there w acc.checks (spot_in w act.first acc.access) spot (sym it.located ∙ e) in
      let of_type = typed_spot laws.table.shows source work.laid.table work.laid.rules work.laid.symbols act work.work frame want o spot ty has e in
      ap (read_spot frame at) (sym there)
      ∙ laws.reads frame w at ty (storage_at source act.block acc.access.origin) acc.access.moves (spot_in w act.first acc.access) kept.inside
      (shown asks source act place frame v work acc.access ty kept (subst (SpotHas source act ty) (sym there) of_type))

  operand_reads : (o : OperandTree) → OperandIs o → OperandReads source act frame w o
  operand_reads o it want has =
      let acc = accessed source act.block o in
      let ty = part_type scope want (read o) in
      let r = read_at source act.block ty acc.access (place_of_operand o) in
      let spot = spot_in w act.first acc.access in
      ap (λ t. and_then t (λ s. read_spot frame (place_of_operand o) s)) it.located
      ∙ passed_over w acc.checks spot spot (λ s. read_spot frame (place_of_operand o) s) (λ s. outcome w r)
      (λ p. read_is want o ty (place_of_operand o) (some_told (type_of scope want (read o)) has) it spot
      (it.located ∙ p))
      ∙ sym (then_checked w acc.checks r.checks spot (value_of w r.term))

  -- ---- all operands of an expression

  no_reads : (e : ExprTree) (x : Written) → literal_of e ≡ Some x → ReadsIn source act frame w e
  no_reads (lit ty n p) x is = tt
  no_reads (read o) x is = absurd (none-some x is)
  no_reads (unary op p arg) x is = lead (literal_of arg) refl is (λ y j. no_reads arg y j)
    where
      lead : (o : Option Written) → literal_of arg ≡ o → signed op o ≡ Some x
          → ((y : Written) → literal_of arg ≡ Some y → ReadsIn source act frame w arg) → ReadsIn source act frame w arg
      lead None j f below = absurd (none-some x f)
      lead (Some y) j f below = below y j
  no_reads (binary op p left right) x is = absurd (none-some x is)
  no_reads (std function p args) x is = absurd (none-some x is)
  no_reads (paren p inner) x is = no_reads inner x is

  -- where a literal has no parts of its own
  either_reads : (e : ExprTree) (o : Option Written) → ((x : Written) → o ≡ Some x → ReadsIn source act frame w e)
      → AreFull asks source scope (if is_some o then [] else parts_of scope nothing e)
      → (AreFull asks source scope (parts_of scope nothing e) → ReadsIn source act frame w e) → ReadsIn source act frame w e
  either_reads e (Some x) literal full below = literal x refl
  either_reads e None literal full below = below full

  wanted_reads : (want : Want) (e : ExprTree) (o : Option Written) → ((x : Written) → o ≡ Some x → ReadsIn source act frame w e)
      → AreFull asks source scope (if is_some o then [] else parts_of scope want e)
      → (AreFull asks source scope (parts_of scope want e) → ReadsIn source act frame w e) → ReadsIn source act frame w e
  wanted_reads want e (Some x) literal full below = literal x refl
  wanted_reads want e None literal full below = below full

  signed_reads : (op : UnaryOp) (arg : ExprTree) (x : Written) → signed op (literal_of arg) ≡ Some x → ReadsIn source act frame w arg
  signed_reads op arg x is = lead (literal_of arg) refl is
    where
      lead : (o : Option Written) → literal_of arg ≡ o → signed op o ≡ Some x → ReadsIn source act frame w arg
      lead None j f = absurd (none-some x f)
      lead (Some y) j f = no_reads arg y j

  abbrev Fronts : List Part → List Part → Type 0
  Fronts xs ys = AreFull asks source scope (xs ++ ys)

  front : (xs ys : List Part) → Fronts xs ys → AreFull asks source scope xs
  front xs ys a = all_front (IsFull asks source scope) xs ys a

  back : (xs ys : List Part) → Fronts xs ys → AreFull asks source scope ys
  back xs ys a = all_back (IsFull asks source scope) xs ys a

  own_of : (want : Want) (o : OperandTree) → HasType scope (record { want = want; expr = read o })
      → own_type (taken want (sort_of_operand scope o)) ≡ own_type (sort_of_operand scope o)
      → own_type (sort_of_operand scope o) ≡ Some (part_type scope want (read o))
  own_of want o has same = sym same ∙ some_told (type_of scope want (read o)) has

  mutual
    reads_in : (want : Want) (e : ExprTree) → AreFull asks source scope (parts_of scope want e) → ReadsIn source act frame w e
    reads_in want (lit ty n p) f = tt
    reads_in want (read (operand root more p)) f =
        operand_reads (operand root more p)
        (operand_is root more p (part_type scope want (read (operand root more p)))
        (own_of want (operand root more p) f.0.0.0 (operand_taken scope want (operand root more p))) f.0.1.0
        (full_good asks source scope (parts_of_steps scope more) f.1) (steps_read more f.1))
    reads_in want (unary op p arg) f =
        either_reads arg (signed op (literal_of arg)) (signed_reads op arg) f.1 (λ g. reads_in nothing arg g)
    reads_in want (binary op p left right) f =
        let wanted = want_beside scope left right in (
          reads_in wanted left (front (parts_of scope wanted left) (parts_of scope wanted right) f.1),
          reads_in wanted right (back (parts_of scope wanted left) (parts_of scope wanted right) f.1),
        )
    reads_in want (std function p args) f = reads_in_each (wants_of function (sorts_of scope args)) args f.1
    reads_in want (paren p inner) f =
        wanted_reads want inner (literal_of inner) (no_reads inner) f.1 (λ g. reads_in want inner g)

    reads_in_each : (wants : List Want) (args : ExprTrees) → AreFull asks source scope (parts_of_args scope wants args)
        → ReadsInEach source act frame w args
    reads_in_each wants no_exprs f = tt
    reads_in_each [] (exprs e more) f = (
      reads_in nothing e (front (parts_of scope nothing e) (parts_of_args scope [] more) f),
      reads_in_each [] more (back (parts_of scope nothing e) (parts_of_args scope [] more) f),
    )
    reads_in_each (want ∷ wants) (exprs e more) f = (
      reads_in want e (front (parts_of scope want e) (parts_of_args scope wants more) f),
      reads_in_each wants more (back (parts_of scope want e) (parts_of_args scope wants more) f),
    )

    steps_read : (more : StepTrees) → AreFull asks source scope (parts_of_steps scope more) → IndexesRead source act frame w more
    steps_read no_steps f = tt
    steps_read (steps step more) f = (
      step_read step (front (parts_of_step scope step) (parts_of_steps scope more) f),
      steps_read more (back (parts_of_step scope step) (parts_of_steps scope more) f),
    )

    step_read : (step : StepTree) → AreFull asks source scope (parts_of_step scope step) → IndexReads source act frame w step
    step_read (field name p) f = tt
    step_read (index e p) f = reads_in nothing e f

  -- ---- the laws

  full_of : (want : Want) (e : ExprTree) (ty : Ty) → IsFit source act.block want e ty → AskEach asks scope (parts_of scope want e)
      → AreFull asks source scope (parts_of scope want e)
  full_of want e ty fit asked =
      full_all asks source scope (parts_of scope want e)
      (good_all scope (parts_of scope want e) (laws.types scope want e (some_is (type_of scope want e) ty fit.has_type)) fit.parts.literals)
      fit.parts.addresses asked

  pub values_hold : (want : Want) (e : ExprTree) (ty : Ty) → IsFit source act.block want e ty → AskEach asks scope (parts_of scope want e)
      → value source act frame e ≡ outcome w (lowered source act.block want e)
  values_hold want e ty fit asked =
      let full = full_of want e ty fit asked in
      value_is laws.terms source act frame w reads want e (full_good asks source scope (parts_of scope want e) full) (reads_in want e full)

  -- what checks come to with one of two numbers that are the same where they pass
  passed_same : (xs : List Check) (a b : ℤ) → (checked w xs a ≡ got a → a ≡ b) → checked w xs a ≡ checked w xs b
  passed_same xs a b same =
      sym (once (checked w xs a)) ∙ passed_over w xs a b got got (λ p. ap got (same p)) ∙ once (checked w xs b)
    where
      once : (t : Tried ℤ) → and_then t got ≡ t
      once (got x) = refl
      once (trap kind p) = refl

  own_is : (e : ExprTree) (own ty : Ty) → IsFit source act.block (this ty) e own → part_type scope (this ty) e ≡ own
  own_is e own ty fit = unwrapped (type_of scope (this ty) e) own fit.has_type

  pub assigned_hold : (e : ExprTree) (own ty : Ty) → IsFit source act.block (this ty) e own → widens own ty ≡ true
      → AskEach asks scope (parts_of scope (this ty) e) → value source act frame e ≡ outcome w (lowered_as source act.block ty e)
  assigned_hold e own ty fit wide asked =
      let l = lowered source act.block (this ty) e in
      let same = values_hold (this ty) e own fit asked in
      let good = full_good asks source scope (parts_of scope (this ty) e) (full_of (this ty) e own fit asked) in
      same
      ∙ passed_same l.checks (value_of w l.term) (value_of w (lowered_as source act.block ty e).term)
      (λ p. let lies = subst (λ t. InRange t (value_of w l.term)) (own_is e own ty fit)
      (part_lies laws.terms source act frame w reads (this ty) e good same p) in
      sym (at_value laws.terms.conversions w ty (typed scope (this ty) e l)
      (part_lies laws.terms source act frame w reads (this ty) e good same p) (widens_lies own ty wide (value_of w l.term) lies)))

  -- where it and its indexes may ask for brief cells
  abbrev pub AsksAll : OperandTree → Type 0
  AsksAll o = Asks asks scope o × AskEach asks scope (parts_of_operand scope o)

  operand_fits : (o : OperandTree) (ty : Ty) → IsFitOperand source act.block o ty → AsksAll o → OperandIs o
  operand_fits (operand root more p) ty fit asked =
      let good = good_all scope (parts_of_steps scope more)
      (laws.types scope nothing (read (operand root more p)) (some_is _ ty (operand_taken scope nothing (operand root more p) ∙ fit.has_type))).1
      fit.indexes.literals in
      let full = full_all asks source scope (parts_of_steps scope more) good fit.indexes.addresses asked.1 in
      operand_is root more p ty fit.has_type (fit.address, asked.0) good (steps_read more full)

  pub places_hold : (o : OperandTree) (ty : Ty) → IsFitOperand source act.block o ty → AsksAll o
      → locate source act frame o ≡ spot_found w act.first (accessed source act.block o)
  places_hold o ty fit asked = (operand_fits o ty fit asked).located

  pub spots_are_read : (o : OperandTree) (ty : Ty) (spot : Spot) (at : Place) → IsFitOperand source act.block o ty → AsksAll o
      → locate source act frame o ≡ got spot
      → read_spot frame at spot ≡ outcome w (read_at source act.block ty (accessed source act.block o).access at)
  spots_are_read o ty spot at fit asked e =
      read_is nothing o ty at (operand_taken scope nothing o ∙ fit.has_type) (operand_fits o ty fit asked) spot e

  -- what is named, where it is
  pub record IsNamed (o : OperandTree) (ty : Ty) (spot : Spot) : Type 0 where
    pub kept : Kept (accessed source act.block o).access
    pub there : spot_in w act.first (accessed source act.block o).access ≡ spot
    pub has : SpotHas source act ty (spot_in w act.first (accessed source act.block o).access)

  pub is_named : (o : OperandTree) (ty : Ty) (spot : Spot) → IsFitOperand source act.block o ty → AsksAll o
      → locate source act frame o ≡ got spot → IsNamed o ty spot
  is_named o ty spot fit asked e =
      let it = operand_fits o ty fit asked in
      let acc = accessed source act.block o in
      let there = got_there w acc.checks (spot_in w act.first acc.access) spot (sym it.located ∙ e) in record {
        kept = it.kept spot e;
        there = there;
        has = subst (SpotHas source act ty) (sym there)
            (typed_spot laws.table.shows source work.laid.table work.laid.rules work.laid.symbols act work.work frame nothing o spot ty
            (operand_taken scope nothing o ∙ fit.has_type) e);
      }

-- ---- symbols and addresses

same_area : (area : Area) → is_same_area area area ≡ true
same_area I = refl
same_area Q = refl
same_area M = refl

pub symbol_found : (P : SymbolTree → Type 0) (symbols : List SymbolTree) (key : List ℕ) (s : SymbolTree) → AllByRecursion P symbols
    → first_symbol symbols key ≡ Some s → P s
symbol_found P [] key s all is = absurd (none-some s is)
symbol_found P (x ∷ more) key s all is = lead (has_key key x.name) is (λ e. symbol_found P more key s all.1 e)
  where
    lead : (same : Truth) → (if same then Some x else first_symbol more key) ≡ Some s → (first_symbol more key ≡ Some s → P s) → P s
    lead true e behind_it = subst P (same_Some x s e) all.0
    lead false e behind_it = behind_it e

not_wrong : (b : Truth) → not b ≡ false → b ≡ true
not_wrong true e = refl
not_wrong false e = absurd (true≢false e)

module _ (laws : BelowLaws) (asks : Type 0) (source : Source) (block : BlockTree) (laid : IsLaidOut source block) where
  -- each byte that the address names has a cell
  bytes_have : (area : Area) (bits byte n : ℕ) (more : StepTrees) (p : Place) → is_address bits byte n ≡ true
      → HasBytes source.bytes (operand (InArea area bits byte n) more p)
      → (k : ℕ) → Contains (from_on byte (last_byte bits byte - byte + 1)) k → Contains (bytes_in source.bytes area) k
  bytes_have area bits byte n more p right has k c =
      has area k (subst (λ b. Contains (if b then from_on byte (last_byte bits byte - byte + 1) else []) k)
      (sym (ap (λ b. b && is_address bits byte n) (same_area area) ∙ right)) c)

  at_address : (ty : Ty) (area : Area) (bits byte n : ℕ) (more : StepTrees) (p : Place) → not (is_address bits byte n) ≡ false
      → bits ≡ width_of ty → HasBytes source.bytes (operand (InArea area bits byte n) more p)
      → SpotLies asks source block (address_spot source ty area bits byte n) []
  at_address ty area bits byte n more p wrong wide has =
      let right = not_wrong (is_address bits byte n) wrong in
      address_lies asks laws.table source laid.table laid.patterns laid.named block ty area bits byte n right wide
      (bytes_have area bits byte n more p right has)

  symbol_lies : (ty : Ty) (o : OperandTree) → SuitsAddress ty o → IsThere source.bytes o → SpotLies asks source block (symbol_at source ty o) []
  symbol_lies ty (operand (InArea area bits byte n) more p) suits there =
      at_address ty area bits byte n more p there.right suits there.cells
  symbol_lies ty (operand (Local name hash q) more p) suits there = absurd suits
  symbol_lies ty (operand (Named name) more p) suits there = absurd suits

  pub symbols_lie : (key : List ℕ) (s : SymbolTree) → first_symbol source.project.symbols key ≡ Some s
      → SpotLies asks source block (symbol_at source s.ty s.at) []
  symbols_lie key s is =
      symbol_lies s.ty s.at (symbol_found (λ x. SuitsAddress x.ty x.at) source.project.symbols key s laid.symbols is)
      (symbol_found (λ x. IsThere source.bytes x.at) source.project.symbols key s laid.symbol_addresses is)

  pub addresses_lie : (known : AreKnown source.project block.vars) (root : Root) (more : StepTrees) (p : Place)
      → IsAddressed source.bytes (operand root more p) → is_wrong_root root ≡ false
      → AddressLies asks laws.table.shows source block laid.table laid.rules known symbols_lie root
  addresses_lie _ (InArea area bits byte n) more p address wrong =
      at_address (type_of_bits bits) area bits byte n more p wrong address.wide address.cells
  addresses_lie _ (Local name hash q) more p address wrong = tt
  addresses_lie _ (Named name) more p address wrong = tt

-- ---- the laws

-- by what is seen
module _ (laws : BelowLaws) (asks : Type 0) (source : Source) (act : Activation) (place : ℕ → ℕ) (frame : Frame) (v : Valuation)
    (work : Sees asks source act place frame v) where
  pub values_seen : (want : Want) (e : ExprTree) (ty : Ty) → IsFit source act.block want e ty
      → AskEach asks (scope_of source act.block) (parts_of (scope_of source act.block) want e)
      → value source act frame e ≡ outcome (through place v) (lowered source act.block want e)
  values_seen want e ty fit asked =
      values_hold laws asks source act place frame v work (symbols_lie laws asks source act.block work.laid)
      (addresses_lie laws asks source act.block work.laid (block_known source.project work.laid.rules act.block work.work.block)) want e ty fit asked

  assigned_seen : (e : ExprTree) (own ty : Ty) → IsFit source act.block (this ty) e own → widens own ty ≡ true
      → AskEach asks (scope_of source act.block) (parts_of (scope_of source act.block) (this ty) e)
      → value source act frame e ≡ outcome (through place v) (lowered_as source act.block ty e)
  assigned_seen e own ty fit wide asked =
      assigned_hold laws asks source act place frame v work (symbols_lie laws asks source act.block work.laid)
      (addresses_lie laws asks source act.block work.laid (block_known source.project work.laid.rules act.block work.work.block)) e own ty fit wide asked

  abbrev MayAsk : OperandTree → Type 0
  MayAsk o = Asks asks (scope_of source act.block) o × AskEach asks (scope_of source act.block) (parts_of_operand (scope_of source act.block) o)

  places_seen : (o : OperandTree) (ty : Ty) → IsFitOperand source act.block o ty → MayAsk o
      → locate source act frame o ≡ spot_found (through place v) act.first (accessed source act.block o)
  places_seen o ty fit asked =
      places_hold laws asks source act place frame v work (symbols_lie laws asks source act.block work.laid)
      (addresses_lie laws asks source act.block work.laid (block_known source.project work.laid.rules act.block work.work.block)) o ty fit asked

  reads_seen : (o : OperandTree) (ty : Ty) (spot : Spot) (at : Place) → IsFitOperand source act.block o ty → MayAsk o
      → locate source act frame o ≡ got spot
      → read_spot frame at spot ≡ outcome (through place v) (read_at source act.block ty (accessed source act.block o).access at)
  reads_seen o ty spot at fit asked e =
      spots_are_read laws asks source act place frame v work (symbols_lie laws asks source act.block work.laid)
      (addresses_lie laws asks source act.block work.laid (block_known source.project work.laid.rules act.block work.work.block)) o ty spot at fit asked e

  abbrev NamedThere : OperandTree → Ty → Spot → Type 0
  NamedThere o ty spot = IsNamed laws asks source act place frame v work (symbols_lie laws asks source act.block work.laid)
      (addresses_lie laws asks source act.block work.laid (block_known source.project work.laid.rules act.block work.work.block)) o ty spot

  named_seen : (o : OperandTree) (ty : Ty) (spot : Spot) → IsFitOperand source act.block o ty → MayAsk o → locate source act frame o ≡ got spot
      → NamedThere o ty spot
  named_seen o ty spot fit asked e =
      is_named laws asks source act place frame v work (symbols_lie laws asks source act.block work.laid)
      (addresses_lie laws asks source act.block work.laid (block_known source.project work.laid.rules act.block work.work.block)) o ty spot fit asked e

-- in a frame with the brief cells
module _ (laws : BelowLaws) where
  operand_asked : (scope : Scope) (o : OperandTree) → Asks ⊤ scope o × AskEach ⊤ scope (parts_of_operand scope o)
  operand_asked scope o = (λ e. tt, asked_all scope (parts_of_operand scope o))

  pub all_values_hold : ValuesHold
  all_values_hold source act place frame v want e ty work fit =
      values_seen laws ⊤ source act place frame v (sees_all source act place frame v work) want e ty fit
      (asked_all (scope_of source act.block) (parts_of (scope_of source act.block) want e))

  pub all_assigned_hold : AssignedHold
  all_assigned_hold source act place frame v e own ty work fit wide =
      assigned_seen laws ⊤ source act place frame v (sees_all source act place frame v work) e own ty fit wide
      (asked_all (scope_of source act.block) (parts_of (scope_of source act.block) (this ty) e))

  pub all_places_hold : PlacesHold
  all_places_hold source act place frame v o ty work fit =
      places_seen laws ⊤ source act place frame v (sees_all source act place frame v work) o ty fit (operand_asked (scope_of source act.block) o)

  pub all_spots_are_read : SpotsAreRead
  all_spots_are_read source act place frame v o ty spot at work fit e =
      reads_seen laws ⊤ source act place frame v (sees_all source act place frame v work) o ty spot at fit (operand_asked (scope_of source act.block) o) e

  pub all_spots_are_written : SpotsAreWritten
  all_spots_are_written source act place frame v o ty spot t work full fit e range =
      let n = named_seen laws ⊤ source act place frame v (sees_all source act place frame v work) o ty spot fit
      (operand_asked (scope_of source act.block) o) e in (
        subst (λ (s : Spot). Agrees source act place (write_spot source frame s (value_of (through place v) t))
            (set_through place (through place v) (sets_of source act.block o (assigning t)) v)) n.there
            (access_written source act place frame v work full laws.apart laws.writes (accessed source act.block o).access ty t n.kept range n.has),
        cells_stay source act frame spot (value_of (through place v) t) full,
      )

  pub all_spots_are_written_where : SpotsAreWrittenWhere
  all_spots_are_written_where source act place frame v o spot on t work full fit e range =
      let n = named_seen laws ⊤ source act place frame v (sees_all source act place frame v work) o Bool spot fit
      (operand_asked (scope_of source act.block) o) e in (
        subst (λ (s : Spot). Agrees source act place
            (if holds_in (through place v) on then write_spot source frame s (value_of (through place v) t) else frame)
            (set_through place (through place v) (sets_of source act.block o (choosing on t)) v)) n.there
            (access_chosen source act place frame v work full laws.apart laws.choices (accessed source act.block o).access on t n.kept range n.has),
        cells_stay_where source act frame spot (value_of (through place v) t) (holds_in (through place v) on) full,
      )
