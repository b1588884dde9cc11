-- In a project that keeps the rules an operand whose indexes are literals, each within its bounds, names a spot; and where it begins
-- with no brief cell that is one which a term reads.
use Rattle.std.proofs.Common.{◌≡◌, inl, inr, ℕ, ◌+◌, ◌*◌, ◌<◌, ◌≤◌, ℤ, ◌≤ℤ◌, List, [], ◌∷◌, Bool, true, false, cond, ◌&&◌, Option, Some, None, IsTrue, refl, sym, ap, subst, ◌∙◌, arith}
use Rattle.std.specs.Prelude.{⊤, ◌⊎◌, ◌^◌, ◌-ℤ◌, unsigned_abs, int_le, is_some, bytes_eq, if◌then◌else◌, option_and_then}
use Rattle.std.specs.List.{AllByRecursion}
use Rattle.std.proofs.lemmas.Bool.{true≢false, false≢true}
use Rattle.std.proofs.lemmas.Int.{ints}
use Rattle.std.proofs.lemmas.Option.{none-some}
use Rattle.std.proofs.Math.Nat.{mul-le-mul_right}
use Rattle.pv_word.specs.declared.types.Ty.{Ty}
use Rattle.pv_word.specs.declared.types.Ty.TheVariants.{Bool as BoolType, Byte, Word, Dword, Int, Dint, Time}
use Rattle.pv_word.specs.Types.{width_of}
use Rattle.pv_place.specs.declared.place.Place.{Place}
use Rattle.pv_types.specs.Tree.{TypeTree, plain, array, structure, named, unread, VarTree}
use Rattle.pv_types.specs.View.{section_of, start_of}
use Rattle.pv_types.specs.Leaves.{start_value}
use Rattle.pv_tree.specs.declared.expr.Area.{Area as In}
use Rattle.pv_tree.specs.declared.expr.Root.{Root}
use Rattle.pv_tree.specs.declared.expr.Root.TheVariants.{Local, Named, Area}
use Rattle.pv_tree.specs.Tree.{BlockTree, ExprTree, lit, read, unary, binary, std, paren, OperandTree, operand, StepTree, field, index, StepTrees, no_steps, steps}
use Rattle.pv_tree.specs.LiteralTypes.{Want, nothing}
use Rattle.pv_tree.specs.Sorts.{Sort, one_of, own_type, taken, broken, common_type, result_of_unary}
use Rattle.pv_tree.specs.Scopes.{SymbolTree, Scope, is_const, is_of_instance, is_stl, has_key, value_key, own_value, first_block, first_var, first_symbol, type_named}
use Rattle.pv_tree.specs.Things.{Thing, part, constant, a_block, no_name, no_array, a_date, untold, first_place, is_date, dated, thing_at, last_behind, thing_behind, thing_of, thing_of_root, root_place, no_array_where, element_of_thing, quoted_value, type_of_bits}
use Rattle.pv_tree.specs.Types.{Written, literal_of, sort_of_written, sort_where, sort_of, sort_of_thing, is_index_type, lies_in, lies_between, sort_of_operand, is_indexed, are_indexed}
use Rattle.pv_tree.specs.Rules.{KeepsRules}
use Rattle.pv_tree.specs.Rules.Addresses.{is_wrong_operand}
use Rattle.pv_mean.specs.Layout.{Laid, size_in, field_laid, element_from, is_brief_in, is_db, data_type, laid_among}
use Rattle.pv_mean.specs.Sources.{Source, data_block_first}
use Rattle.pv_mean.specs.Frames.{Frame}
use Rattle.pv_mean.specs.Endings.{Tried, got, Value, and_then}
use Rattle.pv_mean.specs.Spots.{Spot, visible, fixed, nowhere}
use Rattle.pv_mean.specs.Activations.{Activation, scope_in, Begins, in_visible, in_brief, at, spot_by, spot_of, visible_where, brief_where, address_spot, symbol_at, variable_begins, variable_or, value_or, block_or, symbol_or_none, root_begins}
use Rattle.pv_mean.specs.Scans.{entry_activation}
use Rattle.pv_mean.specs.Values.{literal_or, value, locate, behind, step_behind, field_begins, element_where, element_begins, unary_result, result_type}
use Rattle.pv_pattern.specs.Reads.{AreFixedSteps, IsFixedOperand}
use Rattle.pv_pattern.specs.Texts.{is_brief_root, is_brief_var, is_brief_operand}
use Rattle.pv_resolve.specs.Rooms.{HasRoom, IsRoomy, BeginsRoomy}
use Rattle.pv_resolve.proofs.ForCallers.{begins_field, element_roomy, root_roomy}
use Rattle.pv_laws_types.specs.Typed.{HasTable, IsAtWork, SymbolsSuit, SuitsAddress}
use Rattle.pv_laws_types.proofs.ForCallers.{Means, dated_means, behind_means, root_means, Shows}
use Rattle.pv_laws_room.specs.Reached.{IsShortRoot, IsShortOperand}
use Rattle.pv_pattern_read.specs.Readable.{IsReadable}

-- ---- where a pattern's operands begin

-- no brief cell begins there, and a spot is one that a term reads
abbrev pub IsFine : Begins → Type 0
IsFine (in_visible laid) = ⊤
IsFine (in_brief laid) = ⊥
IsFine (at spot) = IsReadable spot

-- what is laid out there lies within what a table may have
pub record IsNear (source : Source) (b : Begins) : Type 0 where
  pub roomy : BeginsRoomy source.project 0 b
  pub fine : IsFine b

fine_where : (o : Option Laid) → IsFine (visible_where o)
fine_where None = tt
fine_where (Some laid) = tt

fine_field : (source : Source) (b : Begins) (key : List ℕ) → IsFine b → IsFine (field_begins source b key)
fine_field source (in_visible laid) key h = fine_where (field_laid source.project laid key)
fine_field source (in_brief laid) key h = absurd h
fine_field source (at spot) key h = tt

near_field : (source : Source) → KeepsRules source.project → (b : Begins) (key : List ℕ) → IsNear source b → IsNear source (field_begins source b key)
near_field source keeps b key h = record {
  roomy = begins_field source keeps 0 b key h.roomy;
  fine = fine_field source b key h.fine;
}

-- ---- elements

inside_order : (low high i : ℤ) → int_le low i && int_le i high ≡ true → (low ≤ℤ i) × (i ≤ℤ high)
inside_order low high i e = (grind (arith, ints), grind (arith, ints))

less_far : (low high i : ℤ) → low ≤ℤ i → i ≤ℤ high → unsigned_abs (i -ℤ low) ≤ unsigned_abs (high -ℤ low)
less_far low high i l r = grind (arith, ints)

-- the element at an index within the bounds
record Got (source : Source) (b : Begins) (i : ℤ) (place : Place) : Type 0 where
  next : Begins
  is : element_begins source b i place ≡ got next
  near : IsNear source next

element_near : (source : Source) (laid : Laid) (low high : ℤ) (of : TypeTree) (p : Place) (i : ℤ) (place : Place) → laid.ty ≡ array low high of p
    → IsRoomy source.project 0 laid → int_le low i && int_le i high ≡ true → Got source (in_visible laid) i place
element_near source laid low high of p i place ty roomy inside =
    let s = size_in source.project of in
    let k = unsigned_abs (i -ℤ low) in
    let it : Laid = record { ty = of; first = laid.first + k * s } in
    let there = element_roomy source.project 0 low high of p laid.first
    (subst (λ t. IsRoomy source.project 0 (record { ty = t; first = laid.first })) ty roomy) in
    let o = inside_order low high i inside in
    let few = mul-le-mul_right s (less_far low high i o.0 o.1) in
    record {
      next = in_visible it;
      is = ap (λ t. element_where in_visible (element_from source.project t laid.first i) place) ty
          ∙ ap (λ b. element_where in_visible (if b then Some it else None) place) inside;
      near = record {
        roomy = record { sound = there.roomy.sound; within = (let w = there.roomy.within in omega (arith, w, few)) };
        fine = tt;
      };
    }

-- ---- literals

pub literal_value : (source : Source) (act : Activation) (frame : Frame) (e : ExprTree) (w : Written) → literal_of e ≡ Some w
    → value source act frame e ≡ got w.value
literal_value source act frame (lit ty v place) w is =
    let same : (record { ty = ty; value = v }) ≡ w = cc in ap (λ (x : Written). let y : Value = got x.value in y) same
literal_value source act frame (read o) w is = absurd (none-some w is)
literal_value source act frame (unary op place arg) w is =
    ap (λ o. literal_or o (and_then (value source act frame arg)
    (λ a. got (unary_result op (result_type (scope_in source act) (unary op place arg)) a)))) is
literal_value source act frame (binary op place left right) w is = absurd (none-some w is)
literal_value source act frame (std function place args) w is = absurd (none-some w is)
literal_value source act frame (paren place inner) w is = literal_value source act frame inner w is

literal_sort : (scope : Scope) (e : ExprTree) (w : Written) → literal_of e ≡ Some w → sort_of scope e ≡ sort_of_written w.ty w.value
literal_sort scope (lit ty v place) w is =
    let same : (record { ty = ty; value = v }) ≡ w = cc in ap (λ (x : Written). sort_of_written x.ty x.value) same
literal_sort scope (read o) w is = absurd (none-some w is)
literal_sort scope (unary op place arg) w is =
    ap (λ o. sort_where o (one_of (option_and_then (result_of_unary op) (common_type (taken nothing (sort_of scope arg) ∷ []))))) is
literal_sort scope (binary op place left right) w is = absurd (none-some w is)
literal_sort scope (std function place args) w is = absurd (none-some w is)
literal_sort scope (paren place inner) w is = literal_sort scope inner w is

written_between : (low high : ℤ) (ty : Option Ty) (v : ℤ) → lies_between low high (sort_of_written ty v) ≡ true
    → int_le low v && int_le v high ≡ true
written_between low high None v e = e
written_between low high (Some ty) v e = e

pub some_of : {X : Type 0} (o : Option X) → IsTrue (is_some o) → (x : X) × (o ≡ Some x)
some_of None e = absurd (false≢true e)
some_of (Some x) e = (x, refl)

-- ---- what means nothing

abbrev pub IsStuck : Thing → Type 0
IsStuck (part ty) = ⊥
IsStuck (constant ty) = ⊥
IsStuck (a_block b) = ⊥
IsStuck (no_name place) = ⊤
IsStuck (no_array place) = ⊤
IsStuck (a_date place) = ⊤
IsStuck untold = ⊤

stuck_step : (scope : Scope) (last : Place) (t : Thing) (step : StepTree) → IsStuck t → IsStuck (thing_at scope (dated last t) step)
stuck_step scope last (part ty) step h = absurd h
stuck_step scope last (constant ty) step h = absurd h
stuck_step scope last (a_block b) step h = absurd h
stuck_step scope last (no_name place) (field name o_place) h = tt
stuck_step scope last (no_name place) (index e o_place) h = tt
stuck_step scope last (no_array place) (field name o_place) h = tt
stuck_step scope last (no_array place) (index e o_place) h = tt
stuck_step scope last (a_date place) (field name o_place) h = tt
stuck_step scope last (a_date place) (index e o_place) h = tt
stuck_step scope last untold (field name o_place) h = tt
stuck_step scope last untold (index e o_place) h = tt

stuck_end : (last : Place) (t : Thing) → IsStuck t → IsStuck (dated last t)
stuck_end last (part ty) h = absurd h
stuck_end last (constant ty) h = absurd h
stuck_end last (a_block b) h = absurd h
stuck_end last (no_name place) h = tt
stuck_end last (no_array place) h = tt
stuck_end last (a_date place) h = tt
stuck_end last untold h = tt

stuck_stays : (scope : Scope) (last : Place) (t : Thing) (more : StepTrees) → IsStuck t → IsStuck (thing_behind scope last t more)
stuck_stays scope last t no_steps h = stuck_end last t h
stuck_stays scope last t (steps step more) h =
    stuck_stays scope (last_behind last step) (thing_at scope (dated last t) step) more (stuck_step scope last t step h)

stuck_sort : (scope : Scope) (want : Want) (t : Thing) (ty : Ty) → IsStuck t → own_type (taken want (sort_of_thing scope t)) ≡ Some ty → ⊥
stuck_sort scope want (part t) ty h e = h
stuck_sort scope want (constant t) ty h e = h
stuck_sort scope want (a_block b) ty h e = h
stuck_sort scope want (no_name place) ty h e = none-some ty e
stuck_sort scope want (no_array place) ty h e = none-some ty e
stuck_sort scope want (a_date place) ty h e = none-some ty e
stuck_sort scope want untold ty h e = none-some ty e

date_twice : (last : Place) (low high : ℤ) (of : TypeTree) (p : Place) (b : Bool) → is_date of ≡ b
    → dated last (if b then a_date last else part (array low high of p)) ≡ (if b then a_date last else part (array low high of p))
date_twice last low high of p true e = refl
date_twice last low high of p false e = ap (λ b. if b then a_date last else part (array low high of p)) e

dated_twice : (last : Place) (t : Thing) → dated last (dated last t) ≡ dated last t
dated_twice last (part (plain ty)) = refl
dated_twice last (part (array low high of p)) = date_twice last low high of p (is_date of) refl
dated_twice last (part (structure vars)) = refl
dated_twice last (part (named name p)) = refl
dated_twice last (part unread) = refl
dated_twice last (constant ty) = refl
dated_twice last (a_block b) = refl
dated_twice last (no_name place) = refl
dated_twice last (no_array place) = refl
dated_twice last (a_date place) = refl
dated_twice last untold = refl

both_true : (a b : Bool) → a && b ≡ true → (a ≡ true) × (b ≡ true)
both_true true true e = (refl, refl)
both_true true false e = absurd (false≢true e)
both_true false b e = absurd (false≢true e)

-- ---- along steps

record Stepped (source : Source) (frame : Frame) (b : Begins) (step : StepTree) : Type 0 where
  next : Begins
  is : step_behind source (entry_activation source) frame b step ≡ got next
  near : IsNear source next

pub record Reached (source : Source) (frame : Frame) (b : Begins) (more : StepTrees) : Type 0 where
  pub last : Begins
  pub is : behind source (entry_activation source) frame b more ≡ got last
  pub near : IsNear source last

module _ (source : Source) (keeps : KeepsRules source.project) (frame : Frame) where
  abbrev act : Activation
  act = entry_activation source

  abbrev scope : Scope
  scope = scope_in source act

  -- an index of an array that is laid out there
  array_step : (low high : ℤ) (of : TypeTree) (p : Place) (b : Begins) (e : ExprTree) (place : Place) (w : Written) → literal_of e ≡ Some w
      → Means source act (part (array low high of p)) b → IsNear source b → lies_between low high (sort_of scope e) ≡ true
      → Stepped source frame b (index e place)
  array_step low high of p (in_visible laid) e place w is m near inside =
      let g = element_near source laid low high of p w.value place m.typed near.roomy
      (written_between low high w.ty w.value (subst (λ s. lies_between low high s ≡ true) (literal_sort scope e w is) inside)) in
      record {
        next = g.next;
        is = ap (λ v. and_then v (λ i. element_begins source (in_visible laid) i place)) (literal_value source act frame e w is) ∙ g.is;
        near = g.near;
      }
  array_step low high of p (in_brief laid) e place w is m near inside = absurd near.fine
  array_step low high of p (at spot) e place w is m near inside = absurd m

  index_step : (t : Thing) (b : Begins) (e : ExprTree) (place : Place) (w : Written) → literal_of e ≡ Some w → Means source act t b
      → IsNear source b → lies_in t (sort_of scope e) ≡ true → (IsStuck (element_of_thing scope t (first_place e)) → ⊥)
      → Stepped source frame b (index e place)
  index_step (part (plain ty)) b e place w is m near inside free = absurd (free tt)
  index_step (part (array low high of p)) b e place w is m near inside free = array_step low high of p b e place w is m near inside
  index_step (part (structure vars)) b e place w is m near inside free = absurd (free tt)
  index_step (part (named name p)) b e place w is m near inside free = absurd (free (unnamed (type_named scope.project name.key)))
    where
      unnamed : (o : Option BlockTree) → IsStuck (no_array_where o (first_place e))
      unnamed None = tt
      unnamed (Some x) = tt
  index_step (part unread) b e place w is m near inside free = absurd (free tt)
  index_step (constant ty) b e place w is m near inside free = absurd (free tt)
  index_step (a_block x) b e place w is m near inside free = absurd (free tt)
  index_step (no_name p) b e place w is m near inside free = absurd (free tt)
  index_step (no_array p) b e place w is m near inside free = absurd (free tt)
  index_step (a_date p) b e place w is m near inside free = absurd (free tt)
  index_step untold b e place w is m near inside free = absurd (free tt)

  one_step : (t : Thing) (b : Begins) (step : StepTree) → AreFixedSteps (steps step no_steps) → Means source act t b → IsNear source b
      → is_indexed scope t step ≡ true → (IsStuck (thing_at scope t step) → ⊥) → Stepped source frame b step
  one_step t b (field name place) known m near indexed free = record {
    next = field_begins source b name.key;
    is = refl;
    near = near_field source keeps b name.key near;
  }
  one_step t b (index e place) known m near indexed free =
      let w = some_of (literal_of e) known.0 in
      index_step t b e place w.0 w.1 m near
      (both_true (is_index_type (own_type (taken nothing (sort_of scope e)))) (lies_in t (sort_of scope e)) indexed).1 free

  pub reached : (more : StepTrees) (last : Place) (t : Thing) (b : Begins) → AreFixedSteps more → Means source act (dated last t) b
      → IsNear source b → are_indexed scope last t more ≡ true → (IsStuck (thing_behind scope last t more) → ⊥) → Reached source frame b more
  reached no_steps last t b known m near indexed free = record { last = b; is = refl; near = near }
  reached (steps step more) last t b known m near indexed free =
      let both = both_true (is_indexed scope (dated last t) step)
      (are_indexed scope (last_behind last step) (thing_at scope (dated last t) step) more) indexed in
      let s = one_step (dated last t) b step (known.0, tt) m near both.0
      (λ stuck. free (stuck_stays scope (last_behind last step) (thing_at scope (dated last t) step) more stuck)) in
      let means : Means source act (dated (last_behind last step) (thing_at scope (dated last t) step)) s.next =
      subst (λ x. Means source act (dated (last_behind last step) (thing_at scope x step)) s.next) (dated_twice last t)
      (behind_means source keeps act frame (steps step no_steps) last (dated last t) b s.next m
      (ap (λ (x : Tried Begins). and_then x (λ c. got c)) s.is)) in
      let r = reached more (last_behind last step) (thing_at scope (dated last t) step) s.next known.1 means s.near both.1 free in
      record {
        last = r.last;
        is = ap (λ x. and_then x (λ c. behind source act frame c more)) s.is ∙ r.is;
        near = r.near;
      }

-- ---- the spot

readable_by : (ty : TypeTree) (n : ℕ) → n < 2 ^ 32 → IsReadable (spot_by (λ own k. visible k) ty n)
readable_by (plain ty) n lt = lt
readable_by (array low high of p) n lt = tt
readable_by (structure vars) n lt = tt
readable_by (named name p) n lt = tt
readable_by unread n lt = tt

pub readable_end : (source : Source) (b : Begins) → IsNear source b → IsReadable (spot_of b)
readable_end source (in_visible laid) h = readable_by laid.ty laid.first (let w = h.roomy.within in omega (arith, w))
readable_end source (in_brief laid) h = absurd h.fine
readable_end source (at spot) h = h.fine

-- ---- what operands begin with

address_readable : (source : Source) (ty : Ty) (area : In) (bits byte n : ℕ)
    → (bits ≡ 1) ⊎ ((bits ≡ 8) ⊎ ((bits ≡ 16) ⊎ (bits ≡ 32))) → IsReadable (address_spot source ty area bits byte n)
address_readable source ty area bits byte n (inl e) = subst (λ k. IsReadable (address_spot source ty area k byte n)) (sym e) tt
address_readable source ty area bits byte n (inr (inl e)) = subst (λ k. IsReadable (address_spot source ty area k byte n)) (sym e) (inl refl)
address_readable source ty area bits byte n (inr (inr (inl e))) =
    subst (λ k. IsReadable (address_spot source ty area k byte n)) (sym e) (inr (inl refl))
address_readable source ty area bits byte n (inr (inr (inr e))) =
    subst (λ k. IsReadable (address_spot source ty area k byte n)) (sym e) (inr (inr refl))

width_short : (ty : Ty) (bits : ℕ) → bits ≡ width_of ty → (bits ≡ 1) ⊎ ((bits ≡ 8) ⊎ ((bits ≡ 16) ⊎ (bits ≡ 32)))
width_short BoolType bits e = inl e
width_short Byte bits e = inr (inl e)
width_short Word bits e = inr (inr (inl e))
width_short Dword bits e = inr (inr (inr e))
width_short Int bits e = inr (inr (inl e))
width_short Dint bits e = inr (inr (inr e))
width_short Time bits e = inr (inr (inr e))

symbol_readable : (source : Source) (ty : Ty) (o : OperandTree) → SuitsAddress ty o → IsReadable (symbol_at source ty o)
symbol_readable source ty (operand (Area area bits byte n) more place) h = address_readable source ty area bits byte n (width_short ty bits h)
symbol_readable source ty (operand (Local name hash o_place) more place) h = tt
symbol_readable source ty (operand (Named name) more place) h = tt

same_some : {X : Type 0} (x y : X) → Some x ≡ Some y → x ≡ y
same_some x y e = cc

symbol_suits : (symbols : List SymbolTree) (key : List ℕ) (s : SymbolTree) → AllByRecursion (λ x. SuitsAddress x.ty x.at) symbols
    → first_symbol symbols key ≡ Some s → SuitsAddress s.ty s.at
symbol_suits [] key s all is = absurd (none-some s is)
symbol_suits (x ∷ more) key s all is = lead (has_key key x.name) is (λ e. symbol_suits more key s all.1 e)
  where
    lead : (same : Bool) → cond same (Some x) (first_symbol more key) ≡ Some s
        → (first_symbol more key ≡ Some s → SuitsAddress s.ty s.at) → SuitsAddress s.ty s.at
    lead true e behind = subst (λ (y : SymbolTree). SuitsAddress y.ty y.at) (same_some x s e) all.0
    lead false e behind = behind e

fine_symbol : (source : Source) → SymbolsSuit source.project → (key : List ℕ) (o : Option SymbolTree)
    → first_symbol source.project.symbols key ≡ o → IsFine (symbol_or_none source o)
fine_symbol source suits key None is = tt
fine_symbol source suits key (Some s) is = symbol_readable source s.ty s.at (symbol_suits source.project.symbols key s suits is)

fine_if : (db : Bool) (laid : Laid) → IsFine (if db then in_visible laid else at nowhere)
fine_if true laid = tt
fine_if false laid = tt

fine_block : (source : Source) (o : Option BlockTree) (other : Begins) → IsFine other → IsFine (block_or source o other)
fine_block source None other h = h
fine_block source (Some x) other h = fine_if (is_db x.kind) (record { ty = data_type x; first = data_block_first source x.name.key })

no_value : (block : BlockTree) (key : List ℕ) (hash : Bool) → block.value ≡ None → own_value block key hash ≡ None
no_value block key hash none = lead (is_stl block.body) (bytes_eq key value_key) hash (has_key key block.name)
  where
    lead : (stl keyed hashed own : Bool)
        → (if stl then (if keyed then block.value else None) else (if hashed then None else (if own then block.value else None))) ≡ None
    lead true true hashed own = none
    lead true false hashed own = refl
    lead false keyed true own = refl
    lead false keyed false true = none
    lead false keyed false false = refl

no_quoted : (block : BlockTree) (key : List ℕ) → block.value ≡ None → quoted_value block key ≡ None
no_quoted block key none = lead (is_stl block.body)
  where
    lead : (stl : Bool) → (if stl then None else own_value block key false) ≡ None
    lead true = refl
    lead false = no_value block key false none

fine_choice : (constant brief_one : Bool) (v : ℤ) (x y : Option Laid) → brief_one ≡ false
    → IsFine (if constant then at (fixed v) else (if brief_one then brief_where x else visible_where y))
fine_choice true b v x y e = tt
fine_choice false true v x y e = absurd (true≢false e)
fine_choice false false v x y e = fine_where y

fine_variable : (source : Source) (key : List ℕ) (v : VarTree) → is_brief_in source.entry (section_of v) ≡ false
    → IsFine (variable_begins source (entry_activation source) key v)
fine_variable source key v none =
    fine_choice (is_const (section_of v)) (is_brief_in source.entry (section_of v)) (start_value (start_of v))
    (laid_among source.project (is_brief_in source.entry) source.entry.vars key 0)
    (laid_among source.project is_of_instance source.entry.vars key 0) none

fine_root : (source : Source) → SymbolsSuit source.project → source.entry.value ≡ None → (root : Root) → IsShortRoot root
    → is_brief_root (scope_in source (entry_activation source)) root ≡ false → IsFine (root_begins source (entry_activation source) root)
fine_root source suits none (Local name hash place) short visible_only = lead (first_var source.entry.vars name.key) visible_only
  where
    hashed : (b : Bool) → IsFine (if b then at nowhere else block_or source (first_block source.project.blocks name.key) (at nowhere))
    hashed true = tt
    hashed false = fine_block source (first_block source.project.blocks name.key) (at nowhere) tt

    lead : (o : Option VarTree) → is_brief_var source.entry o ≡ false
        → IsFine (variable_or source (entry_activation source) name.key o
        (value_or source (entry_activation source) (own_value source.entry name.key hash)
        (if hash then at nowhere else block_or source (first_block source.project.blocks name.key) (at nowhere))))
    lead None e = subst (λ o. IsFine (value_or source (entry_activation source) o
        (if hash then at nowhere else block_or source (first_block source.project.blocks name.key) (at nowhere))))
        (sym (no_value source.entry name.key hash none)) (hashed hash)
    lead (Some v) e = fine_variable source name.key v e
fine_root source suits none (Named name) short visible_only =
    subst (λ o. IsFine (value_or source (entry_activation source) o
    (block_or source (first_block source.project.blocks name.key) (symbol_or_none source (first_symbol source.project.symbols name.key)))))
    (sym (no_quoted source.entry name.key none))
    (fine_block source (first_block source.project.blocks name.key) (symbol_or_none source (first_symbol source.project.symbols name.key))
    (fine_symbol source suits name.key (first_symbol source.project.symbols name.key) refl))
fine_root source suits none (Area area bits byte n) short visible_only = address_readable source (type_of_bits bits) area bits byte n short

-- ---- operands

-- the operand names a spot that a term reads
pub record NamesSpot (source : Source) (frame : Frame) (o : OperandTree) : Type 0 where
  pub spot : Spot
  pub named : locate source (entry_activation source) frame o ≡ got spot
  pub readable : IsReadable spot

chosen : (around : Scope) (want : Want) (b : Bool) (s : Sort) (ty : Ty) → own_type (taken want (if b then s else broken)) ≡ Some ty
    → (b ≡ true) × (own_type (taken want s) ≡ Some ty)
chosen around want true s ty e = (refl, e)
chosen around want false s ty e = absurd (none-some ty e)

pub names_spot : Shows → (source : Source) (frame : Frame) → HasRoom source source.entry → HasTable source → SymbolsSuit source.project
    → IsAtWork source (entry_activation source) → source.entry.value ≡ None → (want : Want) (o : OperandTree) (ty : Ty)
    → own_type (taken want (sort_of_operand (scope_in source (entry_activation source)) o)) ≡ Some ty → is_wrong_operand o ≡ false
    → IsFixedOperand o → IsShortOperand o → is_brief_operand (scope_in source (entry_activation source)) o ≡ false → NamesSpot source frame o
names_spot shows source frame room table suits work none want (operand root more place) ty typed right known short visible_only =
    let begun = entry_activation source in
    let here : Scope = scope_in source begun in
    let t = thing_of_root here root place in
    let c = chosen here want (are_indexed here (root_place root place) t more) (sort_of_thing here (thing_of here (operand root more place))) ty typed in
    let r = reached source room.rules frame more (root_place root place) t (root_begins source begun root) known
    (dated_means source room.rules begun (root_place root place) t (root_begins source begun root)
    (root_means shows source table room.rules suits begun work root place right))
    (record { roomy = root_roomy source source.entry room root; fine = fine_root source suits none root short visible_only })
    c.0 (λ stuck. stuck_sort here want (thing_of here (operand root more place)) ty stuck c.1) in
    record {
      spot = spot_of r.last;
      named = ap (λ x. and_then x (λ b. got (spot_of b))) r.is;
      readable = readable_end source r.last r.near;
    }
