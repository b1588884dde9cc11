-- Values of expressions, by what is read: an expression traps exactly where its first check that is true is that trap, and else has its
-- term's value, where each operand that is read in it does.
use Rattle.std.proofs.Common.{◌≡◌, ◌⊎◌, inl, inr, ℤ, pos, List, [], ◌∷◌, ◌++◌, map, Bool as Truth, true, false, Option, Some, None, IsTrue, refl, sym, ap, subst, ◌∙◌}
use Rattle.std.specs.Prelude.{⊤, option_and_then, unwrap_or, unsigned_abs, is_some, if◌then◌else◌}
use Rattle.std.specs.List.{AllByRecursion}
use Rattle.std.proofs.lemmas.Option.{none-some, same_Some}
use Rattle.pv_word.specs.declared.types.Ty.{Ty}
use Rattle.pv_word.specs.declared.types.Ty.TheVariants.{Dint}
use Rattle.pv_word.specs.Types.{InRange}
use Rattle.pv_place.specs.declared.place.Place.{Place}
use Rattle.pv_types.specs.Tree.{TypeTree, plain, array, structure, named, unread}
use Rattle.pv_tree.specs.declared.expr.UnaryOp.{UnaryOp}
use Rattle.pv_tree.specs.declared.expr.UnaryOp.TheVariants.{Plus, Minus, Not}
use Rattle.pv_tree.specs.declared.expr.BinaryOp.{BinaryOp}
use Rattle.pv_tree.specs.declared.expr.BinaryOp.TheVariants as two
use Rattle.pv_tree.specs.declared.expr.StdFunction.{StdFunction}
use Rattle.pv_tree.specs.declared.expr.StdFunction.TheVariants.{Shl, Shr}
use Rattle.pv_tree.specs.Tree.{ExprTree, lit, read, unary, binary, std, paren, ExprTrees, no_exprs, exprs, OperandTree, operand}
use Rattle.pv_tree.specs.LiteralTypes.{Want, nothing, is_whole_number}
use Rattle.pv_tree.specs.Sorts.{Sort, whole, broken, own_type, one_of, taken, taken_each, beside, common_type, type_where, has_pattern, adds, is_count, result_of_unary, result_of_binary, wants_of, arguments_of, result_of_function, is_shifted, shift_result}
use Rattle.pv_tree.specs.Scopes.{Scope, type_named}
use Rattle.pv_tree.specs.Things.{Thing, part, constant, a_block, no_name, no_array, a_date, untold, place_of_operand, thing_of, thing_of_root, root_place}
use Rattle.pv_tree.specs.Types.{Written, signed, literal_of, sort_where, sort_of_type, sort_of_thing, is_void, sort_of, sorts_of, sort_of_operand, are_indexed, type_of}
use Rattle.pv_tree.specs.Parts.{Part, parts_of, parts_of_args}
use Rattle.pv_tree.specs.RuleLaws.{HasType}
use Rattle.pv_mean.specs.Sources.{Source}
use Rattle.pv_mean.specs.Frames.{Frame}
use Rattle.pv_mean.specs.Endings.{Tried, got, Value, and_then}
use Rattle.pv_mean.specs.Spots.{read_spot}
use Rattle.pv_mean.specs.Activations.{Activation}
use Rattle.pv_mean.specs.Values.{unary_result, binary_result, function_result, argument, arguments_behind, result_type, literal_or as or_else, value, values, locate}
use Rattle.pv_flow.specs.Terms.{Term, Valuation, value_of}
use Rattle.pv_access.specs.Accesses.{Check}
use Rattle.pv_access.specs.Correct.{checked}
use Rattle.pv_lower.specs.Lowered.{Lowered, Arguments, scope_of, part_type, want_beside, met_type, met_term, typed, count_of, count_in, literal_or, around, read_of, lowered, arguments, accessed}
use Rattle.pv_laws_types.proofs.ForCallers.{PartsLie, ReadsLie, value_lies}
use Rattle.pv_laws_lower.specs.Below.{TermLaws}
use Rattle.pv_laws_lower.specs.Fit.{WrittenLies, LiteralLies}
use Rattle.pv_laws_lower.specs.Agrees.{outcome}
use Rattle.pv_laws_lower.proofs.Checked.{then_checked, same_then, checked_map, passed_over, passes_with, both_passed}
use Rattle.pv_lower.proofs.ForCallers.{literal_lowered}
use Rattle.pv_laws_lower.proofs.Operating.{unary_outcome, binary_outcome}
use Rattle.pv_laws_lower.proofs.Sorts.{LieIn, HaveTypes, common_all, common_alone, one_told, own_told, common_told, met_told, some_told, unwrapped}
use Rattle.pv_laws_lower.proofs.Functions.{values_of, types_of_terms, EachLies, at_value, function_is}

-- ---- what is known of parts

-- it has a type, and a literal lies in the one that it takes
abbrev pub IsGood : Scope → Part → Type 0
IsGood scope p = HasType scope p × LiteralLies p

abbrev pub AreGood : Scope → List Part → Type 0
AreGood scope ps = AllByRecursion (IsGood scope) ps

pub good_front : (scope : Scope) (xs ys : List Part) → AreGood scope (xs ++ ys) → AreGood scope xs
good_front scope [] ys a = tt
good_front scope (x ∷ xs) ys a = (a.0, good_front scope xs ys a.1)

pub good_back : (scope : Scope) (xs ys : List Part) → AreGood scope (xs ++ ys) → AreGood scope ys
good_back scope [] ys a = a
good_back scope (x ∷ xs) ys a = good_back scope xs ys a.1

one_lies : (p : Part) (o : Option Written) → literal_of p.expr ≡ o → WrittenLies p.want o → PartsLie (p ∷ [])
one_lies p None is h = rw is (tt, tt)
one_lies p (Some x) is h = rw is (h, tt)

pub good_lie : (scope : Scope) (ps : List Part) → AreGood scope ps → PartsLie ps
good_lie scope [] a = tt
good_lie scope (p ∷ ps) a = ((one_lies p (literal_of p.expr) refl a.0.1).0, good_lie scope ps a.1)

-- an expression is the first of its parts
pub head_good : (scope : Scope) (want : Want) (e : ExprTree) → AreGood scope (parts_of scope want e)
    → IsTrue (is_some (type_of scope want e))
head_good scope want (lit ty v place) a = a.0.0
head_good scope want (read o) a = a.0.0
head_good scope want (unary op place arg) a = a.0.0
head_good scope want (binary op place left right) a = a.0.0
head_good scope want (std function place args) a = a.0.0
head_good scope want (paren place inner) a = a.0.0

pub typed_as : (scope : Scope) (want : Want) (e : ExprTree) → AreGood scope (parts_of scope want e)
    → type_of scope want e ≡ Some (part_type scope want e)
typed_as scope want e a = some_told (type_of scope want e) (head_good scope want e a)

-- ---- operators of a type

result_same : (op : BinaryOp) (met ty : Ty) → result_of_binary op met ≡ Some ty → (place : Place) (a b : ℤ)
    → binary_result op ty place a b ≡ binary_result op met place a b
result_same two.Mul met ty e place a b =
    ap (λ t. binary_result two.Mul t place a b) (sym (same_Some met ty (common_told is_whole_number (Some met) ty e)))
result_same two.Div met ty e place a b =
    ap (λ t. binary_result two.Div t place a b) (sym (same_Some met ty (common_told is_whole_number (Some met) ty e)))
result_same two.Mod met ty e place a b =
    ap (λ t. binary_result two.Mod t place a b) (sym (same_Some met ty (common_told is_whole_number (Some met) ty e)))
result_same two.Add met ty e place a b =
    ap (λ t. binary_result two.Add t place a b) (sym (same_Some met ty (common_told adds (Some met) ty e)))
result_same two.Sub met ty e place a b =
    ap (λ t. binary_result two.Sub t place a b) (sym (same_Some met ty (common_told adds (Some met) ty e)))
result_same two.Less met ty e place a b = refl
result_same two.Greater met ty e place a b = refl
result_same two.LessEqual met ty e place a b = refl
result_same two.GreaterEqual met ty e place a b = refl
result_same two.Equal met ty e place a b = refl
result_same two.NotEqual met ty e place a b = refl
result_same two.And met ty e place a b =
    ap (λ t. binary_result two.And t place a b) (sym (same_Some met ty (common_told has_pattern (Some met) ty e)))
result_same two.Xor met ty e place a b =
    ap (λ t. binary_result two.Xor t place a b) (sym (same_Some met ty (common_told has_pattern (Some met) ty e)))
result_same two.Or met ty e place a b =
    ap (λ t. binary_result two.Or t place a b) (sym (same_Some met ty (common_told has_pattern (Some met) ty e)))

-- an operator before its operand has the operand's type
unary_same : (op : UnaryOp) (o : Option Ty) (ty : Ty) → option_and_then (result_of_unary op) o ≡ Some ty → o ≡ Some ty
unary_same Plus o ty e = common_told is_whole_number o ty e
unary_same Minus o ty e = common_told is_whole_number o ty e
unary_same Not o ty e = common_told has_pattern o ty e

-- ---- what is no literal is no count

result_no_count : (want : Want) (o : Option Ty) → is_count (taken want (one_of o)) ≡ false
result_no_count want None = refl
result_no_count want (Some ty) = refl

type_no_count : (scope : Scope) (want : Want) (t : TypeTree) → is_count (taken want (sort_of_type scope t)) ≡ false
type_no_count scope want (plain ty) = refl
type_no_count scope want (array low high of place) = refl
type_no_count scope want (structure vars) = refl
type_no_count scope want (named name place) = lead (is_some (type_named scope.project name.key))
  where
    lead : (b : Truth) → is_count (taken want (if b then whole else broken)) ≡ false
    lead true = refl
    lead false = refl
type_no_count scope want unread = refl

thing_no_count : (scope : Scope) (want : Want) (t : Thing) → is_count (taken want (sort_of_thing scope t)) ≡ false
thing_no_count scope want (part ty) = type_no_count scope want ty
thing_no_count scope want (constant ty) = type_no_count scope want ty
thing_no_count scope want (a_block b) = lead (is_void b)
  where
    lead : (x : Truth) → is_count (taken want (if x then broken else whole)) ≡ false
    lead true = refl
    lead false = refl
thing_no_count scope want (no_name place) = refl
thing_no_count scope want (no_array place) = refl
thing_no_count scope want (a_date place) = refl
thing_no_count scope want untold = refl

operand_no_count : (scope : Scope) (want : Want) (o : OperandTree) → is_count (taken want (sort_of_operand scope o)) ≡ false
operand_no_count scope want (operand root more place) =
    lead (are_indexed scope (root_place root place) (thing_of_root scope root place) more)
  where
    lead : (b : Truth)
        → is_count (taken want (if b then sort_of_thing scope (thing_of scope (operand root more place)) else broken)) ≡ false
    lead true = thing_no_count scope want (thing_of scope (operand root more place))
    lead false = refl

no_count : (scope : Scope) (want : Want) (e : ExprTree) → literal_of e ≡ None → is_count (taken want (sort_of scope e)) ≡ false
no_count scope want (lit ty v place) e = absurd (none-some _ (sym e))
no_count scope want (read o) e = operand_no_count scope want o
no_count scope want (unary op place arg) e =
    ap (λ o. is_count (taken want (sort_where o result))) e ∙ result_no_count want _
  where
    result : Sort
    result = one_of (option_and_then (result_of_unary op) (common_type (taken nothing (sort_of scope arg) ∷ [])))
no_count scope want (binary op place left right) e = result_no_count want _
no_count scope want (std function place args) e = result_no_count want _
no_count scope want (paren place inner) e = no_count scope want inner e

-- ---- what is read

module _ (source : Source) (act : Activation) (frame : Frame) (w : Valuation) where
  abbrev pub OperandReads : OperandTree → Type 0
  OperandReads o = (want : Want) → IsTrue (is_some (type_of (scope_of source act.block) want (read o)))
      → and_then (locate source act frame o) (λ spot. read_spot frame (place_of_operand o) spot)
      ≡ outcome w (read_of source act.block (part_type (scope_of source act.block) want (read o)) o (accessed source act.block o))

  -- each operand that is read in an expression, apart from those in its indexes
  abbrev mutual
    pub ReadsIn : ExprTree → Type 0
    ReadsIn (lit ty v place) = ⊤
    ReadsIn (read o) = OperandReads o
    ReadsIn (unary op place arg) = ReadsIn arg
    ReadsIn (binary op place left right) = ReadsIn left × ReadsIn right
    ReadsIn (std function place args) = ReadsInEach args
    ReadsIn (paren place inner) = ReadsIn inner

    pub ReadsInEach : ExprTrees → Type 0
    ReadsInEach no_exprs = ⊤
    ReadsInEach (exprs e more) = ReadsIn e × ReadsInEach more

module _ (laws : TermLaws) (source : Source) (act : Activation) (frame : Frame) (w : Valuation) (reads : ReadsLie source act frame) where
  abbrev scope : Scope
  scope = scope_of source act.block

  -- ---- literals

  pub literal_valued : (e : ExprTree) (x : Written) → literal_of e ≡ Some x → value source act frame e ≡ got x.value
  literal_valued (lit ty v place) x e = ap (λ (y : Written). got y.value) (same_Some (record { ty = ty; value = v }) x e)
  literal_valued (read o) x e = absurd (none-some x e)
  literal_valued (unary op place arg) x e =
      ap (λ o. or_else o (and_then (value source act frame arg) (λ a. got (unary_result op (result_type scope (unary op place arg)) a)))) e
  literal_valued (binary op place left right) x e = absurd (none-some x e)
  literal_valued (std function place args) x e = absurd (none-some x e)
  literal_valued (paren place inner) x e = literal_valued inner x e

  literal_is : (want : Want) (e : ExprTree) (x : Written) → literal_of e ≡ Some x
      → value source act frame e ≡ outcome w (lowered source act.block want e)
  literal_is want e x is = literal_valued e x is ∙ ap (outcome w) (sym (literal_lowered source act.block want e x is))

  -- ---- where checks pass a value lies in its type

  abbrev pub Same : Want → ExprTree → Type 0
  Same want e = value source act frame e ≡ outcome w (lowered source act.block want e)

  pub part_lies : (want : Want) (e : ExprTree) → AreGood scope (parts_of scope want e) → Same want e
      → checked w (lowered source act.block want e).checks (value_of w (lowered source act.block want e).term)
      ≡ got (value_of w (lowered source act.block want e).term)
      → InRange (part_type scope want e) (value_of w (lowered source act.block want e).term)
  part_lies want e good same passed =
      value_lies source act frame reads want e (good_lie scope (parts_of scope want e) good) (part_type scope want e)
      (value_of w (lowered source act.block want e).term) (typed_as scope want e good) (same ∙ passed)

  -- ---- operators

  unary_is : (want : Want) (op : UnaryOp) (place : Place) (arg : ExprTree) → IsGood scope (record { want = want; expr = unary op place arg })
      → (o : Option Written) → signed op (literal_of arg) ≡ o
      → AreGood scope (if is_some o then [] else parts_of scope nothing arg)
      → (AreGood scope (parts_of scope nothing arg) → Same nothing arg)
      → or_else o (and_then (value source act frame arg) (λ a. got (unary_result op (result_type scope (unary op place arg)) a)))
      ≡ outcome w (literal_or want o (around op (part_type scope nothing arg) (lowered source act.block nothing arg)))
  unary_is want op place arg good (Some x) is parts below = refl
  unary_is want op place arg good None is parts below =
      ap (λ t. and_then t (λ a. got (unary_result op (result_type scope e) a))) (below parts)
      ∙ ap (λ ty. and_then (outcome w l) (λ a. got (unary_result op ty a))) same
      ∙ sym (unary_outcome laws.unaries w op (part_type scope nothing arg) l)
    where
      e : ExprTree
      e = unary op place arg

      l : Lowered
      l = lowered source act.block nothing arg

      met : Option Ty
      met = common_type (taken nothing (sort_of scope arg) ∷ [])

      sort_is : sort_of scope e ≡ one_of (option_and_then (result_of_unary op) met)
      sort_is = ap (λ o. sort_where o (one_of (option_and_then (result_of_unary op) met))) is

      ty : Ty
      ty = part_type scope want e

      told : option_and_then (result_of_unary op) met ≡ Some ty
      told = one_told want (option_and_then (result_of_unary op) met) ty
          (ap (λ s. own_type (taken want s)) (sym sort_is) ∙ some_told (type_of scope want e) good.0)

      same : result_type scope e ≡ part_type scope nothing arg
      same =
          ap (λ s. unwrap_or (own_type s) Dint) sort_is
          ∙ unwrapped (own_type (one_of (option_and_then (result_of_unary op) met))) ty
          (own_told (option_and_then (result_of_unary op) met) ty told)
          ∙ sym (unwrapped (type_of scope nothing arg) ty
          (sym (common_alone (taken nothing (sort_of scope arg))) ∙ unary_same op met ty told))

  binary_is : (want : Want) (op : BinaryOp) (place : Place) (left right : ExprTree)
      → IsGood scope (record { want = want; expr = binary op place left right })
      → AreGood scope (parts_of scope (want_beside scope left right) left) → AreGood scope (parts_of scope (want_beside scope left right) right)
      → Same (want_beside scope left right) left → Same (want_beside scope left right) right
      → Same want (binary op place left right)
  binary_is want op place left right good gl gr sl sr =
      ap (λ t. and_then t (λ a. and_then (value source act frame right) (λ b. binary_result op rt place a b))) sl
      ∙ ap (λ t. and_then (outcome w l) (λ a. and_then t (λ b. binary_result op rt place a b))) sr
      ∙ passed_over w l.checks (value_of w l.term) (value_of w ml) (λ a. and_then (outcome w r) (λ b. binary_result op rt place a b))
      (λ a. and_then (checked w r.checks (value_of w mr)) (λ b. binary_result op met place a b))
      (λ pl. passed_over w r.checks (value_of w r.term) (value_of w mr) (λ b. binary_result op rt place (value_of w l.term) b)
      (λ b. binary_result op met place (value_of w ml) b)
      (λ pr. result_same op met rt fits place (value_of w l.term) (value_of w r.term)
      ∙ ap (λ x. binary_result op met place x (value_of w r.term)) (sym (same_left pl))
      ∙ ap (λ y. binary_result op met place (value_of w ml) y) (sym (same_right pr))))
      ∙ sym (binary_outcome laws.binaries w op place met l.checks r.checks ml mr)
    where
      wanted : Want
      wanted = want_beside scope left right

      l : Lowered
      l = lowered source act.block wanted left

      r : Lowered
      r = lowered source act.block wanted right

      ml : Term
      ml = met_term scope left right left l

      mr : Term
      mr = met_term scope left right right r

      met : Ty
      met = met_type scope left right

      common : Option Ty
      common = common_type (beside (sort_of scope left ∷ sort_of scope right ∷ []))

      rt : Ty
      rt = result_type scope (binary op place left right)

      pt : Ty
      pt = part_type scope want (binary op place left right)

      told : option_and_then (result_of_binary op) common ≡ Some pt
      told = one_told want (option_and_then (result_of_binary op) common) pt (some_told (type_of scope want (binary op place left right)) good.0)

      is_met : common ≡ Some met
      is_met = met_told (result_of_binary op) common pt told

      rt_is : pt ≡ rt
      rt_is = sym (unwrapped (own_type (one_of (option_and_then (result_of_binary op) common))) pt
          (own_told (option_and_then (result_of_binary op) common) pt told))

      fits : result_of_binary op met ≡ Some rt
      fits = sym (ap (option_and_then (result_of_binary op)) is_met) ∙ told ∙ ap Some rt_is

      lie : AllByRecursion (λ t. LieIn t met) (part_type scope wanted left ∷ part_type scope wanted right ∷ [])
      lie = common_all (beside (sort_of scope left ∷ sort_of scope right ∷ []))
          (part_type scope wanted left ∷ part_type scope wanted right ∷ []) met
          (typed_as scope wanted left gl, (typed_as scope wanted right gr, tt)) is_met

      same_left : checked w l.checks (value_of w l.term) ≡ got (value_of w l.term) → value_of w ml ≡ value_of w l.term
      same_left pl =
          let lies = part_lies wanted left gl sl pl in
          at_value laws.conversions w met (typed scope wanted left l) lies (lie.0 (value_of w l.term) lies)

      same_right : checked w r.checks (value_of w r.term) ≡ got (value_of w r.term) → value_of w mr ≡ value_of w r.term
      same_right pr =
          let lies = part_lies wanted right gr sr pr in
          at_value laws.conversions w met (typed scope wanted right r) lies (lie.1.0 (value_of w r.term) lies)

  -- ---- arguments

  abbrev args_of : List Want → ExprTrees → Arguments
  args_of wants args = arguments source act.block wants args

  abbrev pub SameEach : List Want → ExprTrees → Type 0
  SameEach wants args = values source act frame args ≡ checked w (args_of wants args).checks (values_of w (args_of wants args).terms)

  pair_is : (xs ys : List Check) (x : Value) (y : Tried (List ℤ)) (a : ℤ) (rest : List ℤ) → x ≡ checked w xs a → y ≡ checked w ys rest
      → and_then x (λ v. and_then y (λ vs. got (v ∷ vs))) ≡ checked w (xs ++ ys) (a ∷ rest)
  pair_is xs ys x y a rest p q =
      ap (λ t. and_then t (λ v. and_then y (λ vs. got (v ∷ vs)))) p
      ∙ ap (λ t. and_then (checked w xs a) (λ v. and_then t (λ vs. got (v ∷ vs)))) q
      ∙ same_then w xs a (λ v. and_then (checked w ys rest) (λ vs. got (v ∷ vs))) (λ v. checked w ys (a ∷ rest))
      (sym (checked_map w (λ vs. a ∷ vs) ys rest))
      ∙ sym (then_checked w xs ys a (a ∷ rest))

  types_are : (wants : List Want) (args : ExprTrees) → AreGood scope (parts_of_args scope wants args)
      → HaveTypes (taken_each wants (sorts_of scope args)) (types_of_terms (args_of wants args).terms)
  types_are wants no_exprs g = tt
  types_are [] (exprs e more) g = (
    typed_as scope nothing e (good_front scope (parts_of scope nothing e) (parts_of_args scope [] more) g),
    types_are [] more (good_back scope (parts_of scope nothing e) (parts_of_args scope [] more) g),
  )
  types_are (want ∷ wants) (exprs e more) g = (
    typed_as scope want e (good_front scope (parts_of scope want e) (parts_of_args scope wants more) g),
    types_are wants more (good_back scope (parts_of scope want e) (parts_of_args scope wants more) g),
  )

  abbrev pub Passed : List Check → Type 0
  Passed xs = checked w xs (pos 0) ≡ got (pos 0)

  -- ---- shifts

  no_shift : (s n : Sort) (more : List Sort) (ty : Ty) → is_count n ≡ false → shift_result (s ∷ n ∷ more) ≡ Some ty → ⊥
  no_shift s n [] ty isnt e =
      none-some ty (sym (ap (λ c. if c then option_and_then (type_where is_shifted) (own_type s) else None) isnt) ∙ e)
  no_shift s n (x ∷ more) ty isnt e = none-some ty e

  counts : (a b : Want) (wants : List Want) (args : ExprTrees) (ty : Ty)
      → shift_result (taken_each (a ∷ b ∷ wants) (sorts_of scope args)) ≡ Some ty
      → unsigned_abs (argument (arguments_behind (values_of w (args_of (a ∷ b ∷ wants) args).terms))) ≡ count_in args
  counts a b wants no_exprs ty e = refl
  counts a b wants (exprs first no_exprs) ty e = refl
  counts a b wants (exprs first (exprs second more)) ty e = by (literal_of second) refl
    where
      by : (o : Option Written) → literal_of second ≡ o
          → unsigned_abs (value_of w (lowered source act.block b second).term) ≡ count_of (literal_of second)
      by (Some x) is =
          ap (λ (l : Lowered). unsigned_abs (value_of w l.term)) (literal_lowered source act.block b second x is)
          ∙ sym (ap count_of is)
      by None is = absurd (no_shift (taken a (sort_of scope first)) (taken b (sort_of scope second))
          (taken_each wants (sorts_of scope more)) ty (no_count scope b second is) e)

  -- what a shift wants of its arguments: nothing
  shift_counts : (args : ExprTrees) (ty : Ty)
      → shift_result (taken_each (map (λ s. nothing) (sorts_of scope args)) (sorts_of scope args)) ≡ Some ty
      → unsigned_abs (argument (arguments_behind (values_of w (args_of (map (λ s. nothing) (sorts_of scope args)) args).terms))) ≡ count_in args
  shift_counts no_exprs ty e = refl
  shift_counts (exprs first no_exprs) ty e = refl
  shift_counts (exprs first (exprs second more)) ty e =
      counts nothing nothing (map (λ s. nothing) (sorts_of scope more)) (exprs first (exprs second more)) ty e

  function_counts : (f : StdFunction) (args : ExprTrees) (ty : Ty) → result_of_function f (arguments_of f (sorts_of scope args)) ≡ Some ty
      → (f ≡ Shl) ⊎ (f ≡ Shr)
      → unsigned_abs (argument (arguments_behind (values_of w (args_of (wants_of f (sorts_of scope args)) args).terms))) ≡ count_in args
  function_counts f args ty e (inl is) =
      subst (λ g. unsigned_abs (argument (arguments_behind (values_of w (args_of (wants_of g (sorts_of scope args)) args).terms))) ≡ count_in args)
      (sym is) (shift_counts args ty (subst (λ g. result_of_function g (arguments_of g (sorts_of scope args)) ≡ Some ty) is e))
  function_counts f args ty e (inr is) =
      subst (λ g. unsigned_abs (argument (arguments_behind (values_of w (args_of (wants_of g (sorts_of scope args)) args).terms))) ≡ count_in args)
      (sym is) (shift_counts args ty (subst (λ g. result_of_function g (arguments_of g (sorts_of scope args)) ≡ Some ty) is e))

  std_is : (want : Want) (f : StdFunction) (place : Place) (args : ExprTrees) → IsGood scope (record { want = want; expr = std f place args })
      → AreGood scope (parts_of_args scope (wants_of f (sorts_of scope args)) args)
      → SameEach (wants_of f (sorts_of scope args)) args
      → (Passed (args_of (wants_of f (sorts_of scope args)) args).checks
      → EachLies w (args_of (wants_of f (sorts_of scope args)) args).terms)
      → Same want (std f place args)
  std_is want f place args good parts same lie =
      ap (λ t. and_then t (λ vs. got (function_result f rt vs))) same
      ∙ passed_over w a.checks (values_of w a.terms) (values_of w a.terms) (λ vs. got (function_result f rt vs))
      (λ vs. got result)
      (λ p. ap got (ap (λ t. function_result f t (values_of w a.terms)) (sym rt_is)
      ∙ function_is laws.conversions w laws.functions (count_in args) f (arguments_of f (sorts_of scope args)) a.terms pt
      (types_are (wants_of f (sorts_of scope args)) args parts) (lie (passes_with w a.checks (values_of w a.terms) (values_of w a.terms) (pos 0) p))
      (function_counts f args pt told) told))
      ∙ sym (checked_map w (λ (vs : List ℤ). result) a.checks (values_of w a.terms))
    where
      a : Arguments
      a = args_of (wants_of f (sorts_of scope args)) args

      rt : Ty
      rt = result_type scope (std f place args)

      pt : Ty
      pt = part_type scope want (std f place args)

      result : ℤ
      result = value_of w (lowered source act.block want (std f place args)).term

      told : result_of_function f (arguments_of f (sorts_of scope args)) ≡ Some pt
      told = one_told want (result_of_function f (arguments_of f (sorts_of scope args))) pt
          (some_told (type_of scope want (std f place args)) good.0)

      rt_is : pt ≡ rt
      rt_is = sym (unwrapped (own_type (one_of (result_of_function f (arguments_of f (sorts_of scope args))))) pt
          (own_told (result_of_function f (arguments_of f (sorts_of scope args))) pt told))

  lies_both : (want : Want) (e : ExprTree) (ys : List Check) → AreGood scope (parts_of scope want e) → Same want e
      → Passed ((lowered source act.block want e).checks ++ ys)
      → InRange (part_type scope want e) (value_of w (lowered source act.block want e).term) × Passed ys
  lies_both want e ys good same p =
      let l = lowered source act.block want e in
      let b = both_passed w l.checks ys (pos 0) (pos 0) p in
      (part_lies want e good same (passes_with w l.checks (pos 0) (pos 0) (value_of w l.term) b.0), b.1)

  paren_is : (want : Want) (place : Place) (inner : ExprTree) → (o : Option Written) → literal_of inner ≡ o
      → AreGood scope (if is_some o then [] else parts_of scope want inner)
      → (AreGood scope (parts_of scope want inner) → Same want inner) → Same want inner
  paren_is want place inner (Some x) is parts below = literal_is want inner x is
  paren_is want place inner None is parts below = below parts

  -- ---- all together

  mutual
    pub value_is : (want : Want) (e : ExprTree) → AreGood scope (parts_of scope want e) → ReadsIn source act frame w e → Same want e
    value_is want (lit ty v place) g h = refl
    value_is want (read o) g h = h want g.0.0
    value_is want (unary op place arg) g h =
        unary_is want op place arg g.0 (signed op (literal_of arg)) refl g.1 (λ a. value_is nothing arg a h)
    value_is want (binary op place left right) g h =
        let wanted = want_beside scope left right in
        let gl = good_front scope (parts_of scope wanted left) (parts_of scope wanted right) g.1 in
        let gr = good_back scope (parts_of scope wanted left) (parts_of scope wanted right) g.1 in
        binary_is want op place left right g.0 gl gr (value_is wanted left gl h.0) (value_is wanted right gr h.1)
    value_is want (std function place args) g h =
        let wants = wants_of function (sorts_of scope args) in
        std_is want function place args g.0 g.1 (values_are wants args g.1 h) (λ p. values_lie wants args g.1 h p)
    value_is want (paren place inner) g h = paren_is want place inner (literal_of inner) refl g.1 (λ a. value_is want inner a h)

    values_are : (wants : List Want) (args : ExprTrees) → AreGood scope (parts_of_args scope wants args) → ReadsInEach source act frame w args
        → SameEach wants args
    values_are wants no_exprs g h = refl
    values_are [] (exprs e more) g h =
        let l = lowered source act.block nothing e in
        let a = args_of [] more in
        pair_is l.checks a.checks (value source act frame e) (values source act frame more) (value_of w l.term) (values_of w a.terms)
        (value_is nothing e (good_front scope (parts_of scope nothing e) (parts_of_args scope [] more) g) h.0)
        (values_are [] more (good_back scope (parts_of scope nothing e) (parts_of_args scope [] more) g) h.1)
    values_are (want ∷ wants) (exprs e more) g h =
        let l = lowered source act.block want e in
        let a = args_of wants more in
        pair_is l.checks a.checks (value source act frame e) (values source act frame more) (value_of w l.term) (values_of w a.terms)
        (value_is want e (good_front scope (parts_of scope want e) (parts_of_args scope wants more) g) h.0)
        (values_are wants more (good_back scope (parts_of scope want e) (parts_of_args scope wants more) g) h.1)

    values_lie : (wants : List Want) (args : ExprTrees) → AreGood scope (parts_of_args scope wants args) → ReadsInEach source act frame w args
        → Passed (args_of wants args).checks → EachLies w (args_of wants args).terms
    values_lie wants no_exprs g h p = tt
    values_lie [] (exprs e more) g h p =
        let ge = good_front scope (parts_of scope nothing e) (parts_of_args scope [] more) g in
        let gm = good_back scope (parts_of scope nothing e) (parts_of_args scope [] more) g in
        let b = lies_both nothing e (args_of [] more).checks ge (value_is nothing e ge h.0) p in
        (b.0, values_lie [] more gm h.1 b.1)
    values_lie (want ∷ wants) (exprs e more) g h p =
        let ge = good_front scope (parts_of scope want e) (parts_of_args scope wants more) g in
        let gm = good_back scope (parts_of scope want e) (parts_of_args scope wants more) g in
        let b = lies_both want e (args_of wants more).checks ge (value_is want e ge h.0) p in
        (b.0, values_lie wants more gm h.1 b.1)
