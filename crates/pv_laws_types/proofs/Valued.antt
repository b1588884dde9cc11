-- The value of an expression that has a type lies in it, where each literal in it lies in the type that it takes and what is read lies
-- in its own: operators wrap to the type of their result, and of functions MIN, MAX, LIMIT and SEL alone hand on a value as it is,
-- whose type widens to that of the result.
use Rattle.std.proofs.Common.{◌≡◌, ℤ, pos, List, [], ◌∷◌, ◌++◌, Bool, true, false, cond, Option, Some, None, refl, sym, ap, subst, ◌∙◌, arith}
use Rattle.std.specs.Prelude.{⊤, neg_ℤ, is_some, option_and_then, unwrap_or, int_le}
use Rattle.std.specs.Ordering.{int_eq}
use Rattle.std.specs.List.{AllByRecursion}
use Rattle.std.proofs.lemmas.Bool.{false≢true}
use Rattle.std.proofs.lemmas.Int.{ints}
use Rattle.std.proofs.lemmas.Option.{none-some}
use Rattle.pv_word.specs.declared.types.Ty.{Ty}
use Rattle.pv_word.specs.declared.types.Ty.TheVariants.{Bool as BoolType, Byte, Word, Dword, Int, Dint, Time}
use Rattle.pv_word.specs.Types.{InRange, wrap_of, width_of, is_signed_of}
use Rattle.pv_word.specs.Division.{quotient, remainder}
use Rattle.pv_word.proofs.ForCallers.{wide, wrap-in_range}
use Rattle.pv_place.specs.declared.place.Place.{Place}
use Rattle.pv_place.specs.declared.trap.TrapKind.TheVariants.{DivideByZero}
use Rattle.pv_tree.specs.declared.expr.UnaryOp.{UnaryOp}
use Rattle.pv_tree.specs.declared.expr.UnaryOp.TheVariants.{Plus, Minus, Not}
use Rattle.pv_tree.specs.declared.expr.BinaryOp.{BinaryOp}
use Rattle.pv_tree.specs.declared.expr.BinaryOp.TheVariants.{Mul, Div, Mod, Add, Sub, Less, Greater, LessEqual, GreaterEqual, Equal, NotEqual, And, Xor, Or}
use Rattle.pv_tree.specs.declared.expr.StdFunction.{StdFunction}
use Rattle.pv_tree.specs.declared.expr.StdFunction.TheVariants.{Convert, Abs, Min, Max, Limit, Sel, Shl, Shr}
use Rattle.pv_tree.specs.Tree.{ExprTree, lit, read, unary, binary, std, paren, ExprTrees, no_exprs, exprs, OperandTree}
use Rattle.pv_tree.specs.LiteralTypes.{Want, nothing, is_whole_number, type_of_number, type_of_literal}
use Rattle.pv_tree.specs.Sorts.{Sort, own_type, one_of, taken, taken_each, widens, wider, widest_from, widest, beside, types_of_sorts, common_type, type_where, truth_where, is_bool, is_ordered, result_of_unary, result_of_binary, wants_of, arguments_of, result_of_function, choice_result, convert_result}
use Rattle.pv_tree.specs.Scopes.{Scope}
use Rattle.pv_tree.specs.Types.{Written, signed, literal_of, sort_of_written, sort_where, sort_of, sorts_of, sort_of_operand}
use Rattle.pv_tree.specs.Parts.{Part, parts_of, parts_of_args}
use Rattle.pv_mean.specs.Sources.{Source}
use Rattle.pv_mean.specs.Frames.{Frame}
use Rattle.pv_mean.specs.Endings.{Tried, got, trap, Value, and_then}
use Rattle.pv_mean.specs.Activations.{Activation, scope_in}
use Rattle.pv_mean.specs.Values.{number_of, unary_result, divided, binary_result, lesser, greater, argument, arguments_behind, function_result, result_type, literal_or, is_true, value, values}
use Rattle.pv_laws_types.proofs.Rooted.{zero_in}
use Rattle.pv_laws_types.proofs.Spotted.{not_got}

same_some : {X : Type 0} (x y : X) → Some x ≡ Some y → x ≡ y
same_some x y e = cc

same_got : {X : Type 0} (x y : X) → got x ≡ got y → x ≡ y
same_got x y e = cc

-- ---- literals

-- a literal lies in the type that it takes by what is wanted of it
abbrev pub WrittenLies : Want → Option Written → Type 0
WrittenLies want None = ⊤
WrittenLies want (Some w) = InRange (type_of_literal want w.ty w.value) w.value

abbrev pub PartLies : Part → Type 0
PartLies p = WrittenLies p.want (literal_of p.expr)

-- each literal in an expression does
abbrev pub PartsLie : List Part → Type 0
PartsLie ps = AllByRecursion PartLies ps

pub front_lies : (xs ys : List Part) → PartsLie (xs ++ ys) → PartsLie xs
front_lies [] ys a = tt
front_lies (x ∷ xs) ys a = (a.0, front_lies xs ys a.1)

pub back_lies : (xs ys : List Part) → PartsLie (xs ++ ys) → PartsLie ys
back_lies [] ys a = a
back_lies (x ∷ xs) ys a = back_lies xs ys a.1

written_lies : (want : Want) (w : Written) (ty : Ty) → WrittenLies want (Some w) → own_type (taken want (sort_of_written w.ty w.value)) ≡ Some ty
    → InRange ty w.value
written_lies want w ty h e = lead w.ty h e
  where
    lead : (o : Option Ty) → InRange (type_of_literal want o w.value) w.value → own_type (taken want (sort_of_written o w.value)) ≡ Some ty
        → InRange ty w.value
    lead None f g = subst (λ t. InRange t w.value) (same_some (type_of_number want w.value) ty g) f
    lead (Some t) f g = subst (λ x. InRange x w.value) (same_some t ty g) f

-- ---- widening

pub widens_lies : (from to : Ty) → widens from to ≡ true → (v : ℤ) → InRange from v → InRange to v
widens_lies BoolType BoolType e v h = h
widens_lies BoolType Byte e v h = absurd (false≢true e)
widens_lies BoolType Word e v h = absurd (false≢true e)
widens_lies BoolType Dword e v h = absurd (false≢true e)
widens_lies BoolType Int e v h = absurd (false≢true e)
widens_lies BoolType Dint e v h = absurd (false≢true e)
widens_lies BoolType Time e v h = absurd (false≢true e)
widens_lies Byte BoolType e v h = absurd (false≢true e)
widens_lies Byte Byte e v h = h
widens_lies Byte Word e v h = record { from = omega (arith, ints, h.from, h.to); to = omega (arith, ints, h.from, h.to) }
widens_lies Byte Dword e v h = record { from = omega (arith, ints, h.from, h.to); to = omega (arith, ints, h.from, h.to) }
widens_lies Byte Int e v h = absurd (false≢true e)
widens_lies Byte Dint e v h = absurd (false≢true e)
widens_lies Byte Time e v h = absurd (false≢true e)
widens_lies Word BoolType e v h = absurd (false≢true e)
widens_lies Word Byte e v h = absurd (false≢true e)
widens_lies Word Word e v h = h
widens_lies Word Dword e v h = record { from = omega (arith, ints, h.from, h.to); to = omega (arith, ints, h.from, h.to) }
widens_lies Word Int e v h = absurd (false≢true e)
widens_lies Word Dint e v h = absurd (false≢true e)
widens_lies Word Time e v h = absurd (false≢true e)
widens_lies Dword BoolType e v h = absurd (false≢true e)
widens_lies Dword Byte e v h = absurd (false≢true e)
widens_lies Dword Word e v h = absurd (false≢true e)
widens_lies Dword Dword e v h = h
widens_lies Dword Int e v h = absurd (false≢true e)
widens_lies Dword Dint e v h = absurd (false≢true e)
widens_lies Dword Time e v h = absurd (false≢true e)
widens_lies Int BoolType e v h = absurd (false≢true e)
widens_lies Int Byte e v h = absurd (false≢true e)
widens_lies Int Word e v h = absurd (false≢true e)
widens_lies Int Dword e v h = absurd (false≢true e)
widens_lies Int Int e v h = h
widens_lies Int Dint e v h = record { from = omega (arith, ints, h.from, h.to); to = omega (arith, ints, h.from, h.to) }
widens_lies Int Time e v h = absurd (false≢true e)
widens_lies Dint BoolType e v h = absurd (false≢true e)
widens_lies Dint Byte e v h = absurd (false≢true e)
widens_lies Dint Word e v h = absurd (false≢true e)
widens_lies Dint Dword e v h = absurd (false≢true e)
widens_lies Dint Int e v h = absurd (false≢true e)
widens_lies Dint Dint e v h = h
widens_lies Dint Time e v h = absurd (false≢true e)
widens_lies Time BoolType e v h = absurd (false≢true e)
widens_lies Time Byte e v h = absurd (false≢true e)
widens_lies Time Word e v h = absurd (false≢true e)
widens_lies Time Dword e v h = absurd (false≢true e)
widens_lies Time Int e v h = absurd (false≢true e)
widens_lies Time Dint e v h = absurd (false≢true e)
widens_lies Time Time e v h = h

-- the values of one type lie in the other
abbrev LieIn : Ty → Ty → Type 0
LieIn from to = (v : ℤ) → InRange from v → InRange to v

wider_within : (a b c : Ty) → wider a b ≡ Some c → LieIn a c × LieIn b c
wider_within a b c e = lead (widens a b) refl (widens b a) refl e
  where
    lead : (x : Bool) → widens a b ≡ x → (y : Bool) → widens b a ≡ y → cond x (Some b) (cond y (Some a) None) ≡ Some c → LieIn a c × LieIn b c
    lead true p y q f = subst (λ t. LieIn a t × LieIn b t) (same_some b c f) (widens_lies a b p, λ v h. h)
    lead false p true q f = subst (λ t. LieIn a t × LieIn b t) (same_some a c f) (λ v h. h, widens_lies b a q)
    lead false p false q f = absurd (none-some c f)

wider_all : (b c : Ty) → LieIn b c → (types : List Ty) → AllByRecursion (λ t. LieIn t b) types → AllByRecursion (λ t. LieIn t c) types
wider_all b c w [] a = tt
wider_all b c w (t ∷ ts) a = (λ v h. w v (a.0 v h), wider_all b c w ts a.1)

widest_all : (t : Ty) (types : List Ty) (c : Ty) → widest_from t types ≡ Some c → AllByRecursion (λ x. LieIn x c) (t ∷ types)
widest_all t [] c e = (subst (LieIn t) (same_some t c e) (λ v h. h), tt)
widest_all t (next ∷ more) c e = lead (λ b is. widest_all next more b is) (widest_from next more) refl e
  where
    lead : ((b : Ty) → widest_from next more ≡ Some b → AllByRecursion (λ x. LieIn x b) (next ∷ more)) → (o : Option Ty)
        → widest_from next more ≡ o → option_and_then (wider t) o ≡ Some c → AllByRecursion (λ x. LieIn x c) (t ∷ next ∷ more)
    lead below None is f = absurd (none-some c f)
    lead below (Some b) is f =
        let w = wider_within t b c f in (w.0, wider_all b c w.1 (next ∷ more) (below b is))

-- ---- results

one_told : (want : Want) (o : Option Ty) (ty : Ty) → own_type (taken want (one_of o)) ≡ Some ty → o ≡ Some ty
one_told want None ty e = absurd (none-some ty e)
one_told want (Some t) ty e = e

result_is : (scope : Scope) (e : ExprTree) (o : Option Ty) (ty : Ty) → sort_of scope e ≡ one_of o → o ≡ Some ty → result_type scope e ≡ ty
result_is scope e o ty is to = ap (λ s. unwrap_or (own_type s) Dint) (is ∙ ap one_of to)

where_told : (test : Ty → Bool) (t ty : Ty) → type_where test t ≡ Some ty → t ≡ ty
where_told test t ty e = lead (test t) e
  where
    lead : (b : Bool) → cond b (Some t) None ≡ Some ty → t ≡ ty
    lead true f = same_some t ty f
    lead false f = absurd (none-some ty f)

-- the common type is that of the result, where the operator gives its operands' type
common_told : (test : Ty → Bool) (o : Option Ty) (ty : Ty) → option_and_then (type_where test) o ≡ Some ty → o ≡ Some ty
common_told test None ty e = absurd (none-some ty e)
common_told test (Some t) ty e = ap Some (where_told test t ty e)

truth_told : (test : Ty → Bool) (o : Option Ty) (ty : Ty) → option_and_then (truth_where test) o ≡ Some ty → ty ≡ BoolType
truth_told test None ty e = absurd (none-some ty e)
truth_told test (Some t) ty e = lead (test t) e
  where
    lead : (b : Bool) → cond b (Some BoolType) None ≡ Some ty → ty ≡ BoolType
    lead true f = sym (same_some BoolType ty f)
    lead false f = absurd (none-some ty f)

wrap_lies : (ty : Ty) (n : ℤ) → InRange ty (wrap_of ty n)
wrap_lies ty n = wrap-in_range (width_of ty) (is_signed_of ty) n (wide ty)

truth_lies : (b : Bool) → InRange BoolType (number_of b)
truth_lies true = record { from = omega (arith, ints); to = omega (arith, ints) }
truth_lies false = record { from = omega (arith, ints); to = omega (arith, ints) }

-- ---- operators

unary_lies : (op : UnaryOp) (o : Option Ty) (ty : Ty) (a : ℤ) → option_and_then (result_of_unary op) o ≡ Some ty
    → ((t : Ty) → o ≡ Some t → InRange t a) → InRange ty (unary_result op ty a)
unary_lies Plus o ty a e lies = lies ty (common_told is_whole_number o ty e)
unary_lies Minus o ty a e lies = wrap_lies ty (neg_ℤ a)
unary_lies Not o ty a e lies = wrap_lies ty _

got_lies : (ty : Ty) (n v : ℤ) → InRange ty n → got n ≡ got v → InRange ty v
got_lies ty n v h e = subst (InRange ty) (same_got n v e) h

divided_lies : (ty : Ty) (place : Place) (b n v : ℤ) → InRange ty n → divided place b n ≡ got v → InRange ty v
divided_lies ty place b n v h e = lead (int_eq b (pos 0)) e
  where
    lead : (z : Bool) → cond z (trap DivideByZero place) (got n) ≡ got v → InRange ty v
    lead true f = absurd (not_got DivideByZero place v f)
    lead false f = got_lies ty n v h f

truth_got : (ty : Ty) (b : Bool) (v : ℤ) → ty ≡ BoolType → got (number_of b) ≡ got v → InRange ty v
truth_got ty b v is e = subst (λ t. InRange t v) (sym is) (got_lies BoolType (number_of b) v (truth_lies b) e)

binary_lies : (op : BinaryOp) (o : Option Ty) (ty : Ty) (place : Place) (a b v : ℤ) → option_and_then (result_of_binary op) o ≡ Some ty
    → binary_result op ty place a b ≡ got v → InRange ty v
binary_lies Mul o ty place a b v e f = got_lies ty _ v (wrap_lies ty _) f
binary_lies Div o ty place a b v e f = divided_lies ty place b _ v (wrap_lies ty (quotient a b)) f
binary_lies Mod o ty place a b v e f = divided_lies ty place b _ v (wrap_lies ty (remainder a b)) f
binary_lies Add o ty place a b v e f = got_lies ty _ v (wrap_lies ty _) f
binary_lies Sub o ty place a b v e f = got_lies ty _ v (wrap_lies ty _) f
binary_lies Less o ty place a b v e f = truth_got ty _ v (truth_told is_ordered o ty e) f
binary_lies Greater o ty place a b v e f = truth_got ty _ v (truth_told is_ordered o ty e) f
binary_lies LessEqual o ty place a b v e f = truth_got ty _ v (truth_told is_ordered o ty e) f
binary_lies GreaterEqual o ty place a b v e f = truth_got ty _ v (truth_told is_ordered o ty e) f
binary_lies Equal o ty place a b v e f = truth_got ty _ v (truth_told (λ t. true) o ty e) f
binary_lies NotEqual o ty place a b v e f = truth_got ty _ v (truth_told (λ t. true) o ty e) f
binary_lies And o ty place a b v e f = got_lies ty _ v (wrap_lies ty _) f
binary_lies Xor o ty place a b v e f = got_lies ty _ v (wrap_lies ty _) f
binary_lies Or o ty place a b v e f = got_lies ty _ v (wrap_lies ty _) f

-- ---- functions

abbrev AllLie : Ty → List ℤ → Type 0
AllLie ty vs = AllByRecursion (InRange ty) vs

argument_lies : (ty : Ty) (vs : List ℤ) → AllLie ty vs → InRange ty (argument vs)
argument_lies ty [] a = zero_in ty
argument_lies ty (v ∷ vs) a = a.0

behind_lie : (ty : Ty) (vs : List ℤ) → AllLie ty vs → AllLie ty (arguments_behind vs)
behind_lie ty [] a = tt
behind_lie ty (v ∷ vs) a = a.1

cond_lies : (ty : Ty) (b : Bool) (x y : ℤ) → InRange ty x → InRange ty y → InRange ty (cond b x y)
cond_lies ty true x y p q = p
cond_lies ty false x y p q = q

lesser_lies : (ty : Ty) (x y : ℤ) → InRange ty x → InRange ty y → InRange ty (lesser x y)
lesser_lies ty x y p q = cond_lies ty (int_le x y) x y p q

greater_lies : (ty : Ty) (x y : ℤ) → InRange ty x → InRange ty y → InRange ty (greater x y)
greater_lies ty x y p q = cond_lies ty (int_le x y) y x q p

-- an argument of a wanted type that lies in it
abbrev Arguments : List Sort → List ℤ → Type 0
Arguments [] [] = ⊤
Arguments [] (v ∷ vs) = ⊥
Arguments (s ∷ sorts) [] = ⊥
Arguments (s ∷ sorts) (v ∷ vs) = ((t : Ty) → own_type s ≡ Some t → InRange t v) × Arguments sorts vs

-- what has a type by the sorts, with values of the common one
arguments_lie : (c : Ty) (sorts : List Sort) (types : List Ty) (vs : List ℤ) → types_of_sorts sorts ≡ Some types
    → AllByRecursion (λ t. LieIn t c) types → Arguments sorts vs → AllLie c vs
arguments_lie c [] types [] e w a = tt
arguments_lie c [] types (v ∷ vs) e w a = absurd a
arguments_lie c (s ∷ sorts) types [] e w a = absurd a
arguments_lie c (s ∷ sorts) types (v ∷ vs) e w a =
    lead (λ ts j all. arguments_lie c sorts ts vs j all a.1) (own_type s) refl (types_of_sorts sorts) refl e
  where
    lead : ((ts : List Ty) → types_of_sorts sorts ≡ Some ts → AllByRecursion (λ t. LieIn t c) ts → AllLie c vs) → (o : Option Ty)
        → own_type s ≡ o → (p : Option (List Ty)) → types_of_sorts sorts ≡ p
        → option_and_then (λ ty. option_and_then (λ tys. Some (ty ∷ tys)) p) o ≡ Some types → AllLie c (v ∷ vs)
    lead below None i p j f = absurd (none-some types f)
    lead below (Some t) i None j f = absurd (none-some types f)
    lead below (Some t) i (Some ts) j f =
        let all = subst (AllByRecursion (λ x. LieIn x c)) (sym (same_some (t ∷ ts) types f)) w in
        (all.0 v (a.0 t i), below ts j all.1)

common_lie : (c : Ty) (sorts : List Sort) (vs : List ℤ) → common_type sorts ≡ Some c → Arguments sorts vs → AllLie c vs
common_lie c sorts vs e a = lead (types_of_sorts sorts) refl e
  where
    by : (types : List Ty) → widest types ≡ Some c → AllByRecursion (λ t. LieIn t c) types
    by [] f = absurd (none-some c f)
    by (t ∷ ts) f = widest_all t ts c f

    lead : (o : Option (List Ty)) → types_of_sorts sorts ≡ o → option_and_then widest o ≡ Some c → AllLie c vs
    lead None is f = absurd (none-some c f)
    lead (Some types) is f = arguments_lie c sorts types vs is (by types f) a

choice_lies : (sorts : List Sort) (ty : Ty) (vs : List ℤ) → choice_result sorts ≡ Some ty → Arguments sorts vs
    → InRange ty (function_result Sel ty vs)
choice_lies [] ty vs e a = absurd (none-some ty e)
choice_lies (s ∷ more) ty [] e a = absurd a
choice_lies (s ∷ more) ty (v ∷ vs) e a = lead (own_type s) e
  where
    by : (b : Bool) → cond b (common_type more) None ≡ Some ty → InRange ty (function_result Sel ty (v ∷ vs))
    by true f =
        let all = common_lie ty more vs f a.1 in
        cond_lies ty (is_true v) (argument (arguments_behind vs)) (argument vs)
        (argument_lies ty (arguments_behind vs) (behind_lie ty vs all)) (argument_lies ty vs all)
    by false f = absurd (none-some ty f)

    lead : (o : Option Ty) → option_and_then (λ t. cond (is_bool t) (common_type more) None) o ≡ Some ty
        → InRange ty (function_result Sel ty (v ∷ vs))
    lead None f = absurd (none-some ty f)
    lead (Some t) f = by (is_bool t) f

convert_told : (from to : Ty) (sorts : List Sort) (ty : Ty) → convert_result from to sorts ≡ Some ty → to ≡ ty
convert_told from to [] ty e = absurd (none-some ty e)
convert_told from to (s ∷ t ∷ more) ty e = absurd (none-some ty e)
convert_told from to (s ∷ []) ty e = lead (own_type s) e
  where
    by : (b : Bool) → cond b (Some to) None ≡ Some ty → to ≡ ty
    by true f = same_some to ty f
    by false f = absurd (none-some ty f)

    lead : (o : Option Ty) → option_and_then (λ t. cond (widens t from) (Some to) None) o ≡ Some ty → to ≡ ty
    lead None f = absurd (none-some ty f)
    lead (Some t) f = by (widens t from) f

function_lies : (function : StdFunction) (sorts : List Sort) (ty : Ty) (vs : List ℤ)
    → result_of_function function sorts ≡ Some ty → Arguments sorts vs → InRange ty (function_result function ty vs)
function_lies (Convert from to) sorts ty vs e a =
    subst (λ t. InRange t (wrap_of to (argument vs))) (convert_told from to sorts ty e) (wrap_lies to (argument vs))
function_lies Abs sorts ty vs e a = wrap_lies ty _
function_lies Min sorts ty vs e a =
    let all = common_lie ty sorts vs (common_told is_whole_number (common_type sorts) ty e) a in
    lesser_lies ty (argument vs) (argument (arguments_behind vs)) (argument_lies ty vs all)
    (argument_lies ty (arguments_behind vs) (behind_lie ty vs all))
function_lies Max sorts ty vs e a =
    let all = common_lie ty sorts vs (common_told is_whole_number (common_type sorts) ty e) a in
    greater_lies ty (argument vs) (argument (arguments_behind vs)) (argument_lies ty vs all)
    (argument_lies ty (arguments_behind vs) (behind_lie ty vs all))
function_lies Limit sorts ty vs e a =
    let all = common_lie ty sorts vs (common_told is_whole_number (common_type sorts) ty e) a in
    let second = behind_lie ty vs all in
    lesser_lies ty (argument (arguments_behind (arguments_behind vs))) (greater (argument vs) (argument (arguments_behind vs)))
    (argument_lies ty (arguments_behind (arguments_behind vs)) (behind_lie ty (arguments_behind vs) second))
    (greater_lies ty (argument vs) (argument (arguments_behind vs)) (argument_lies ty vs all)
    (argument_lies ty (arguments_behind vs) second))
function_lies Sel sorts ty vs e a = choice_lies sorts ty vs e a
function_lies Shl sorts ty vs e a = wrap_lies ty _
function_lies Shr sorts ty vs e a = wrap_lies ty _

-- ---- expressions

-- what is read of an operand of a type lies in it
abbrev pub ReadsLie : Source → Activation → Frame → Type 0
ReadsLie source act frame = (want : Want) (o : OperandTree) (ty : Ty) (v : ℤ)
    → own_type (taken want (sort_of_operand (scope_in source act) o)) ≡ Some ty → value source act frame (read o) ≡ got v → InRange ty v

module _ (source : Source) (act : Activation) (frame : Frame) (reads : ReadsLie source act frame) where
  abbrev scope : Scope
  scope = scope_in source act

  -- an expression that is a literal has its value
  record IsLiteral (e : ExprTree) (w : Written) : Type 0 where
    sort : sort_of scope e ≡ sort_of_written w.ty w.value
    valued : value source act frame e ≡ got w.value

  literal_is : (e : ExprTree) (w : Written) → literal_of e ≡ Some w → IsLiteral e w
  literal_is (lit ty v place) w e =
      subst (IsLiteral (lit ty v place)) (same_some (record { ty = ty; value = v }) w e) (record { sort = refl; valued = refl })
  literal_is (read o) w e = absurd (none-some w e)
  literal_is (unary op place arg) w e = record {
    sort = ap (λ o. sort_where o (one_of (option_and_then (result_of_unary op) (common_type (taken nothing (sort_of scope arg) ∷ []))))) e;
    valued = ap (λ o. literal_or o (and_then (value source act frame arg)
        (λ a. got (unary_result op (result_type scope (unary op place arg)) a)))) e;
  }
  literal_is (binary op place l r) w e = absurd (none-some w e)
  literal_is (std function place args) w e = absurd (none-some w e)
  literal_is (paren place inner) w e =
      let i = literal_is inner w e in record { sort = i.sort; valued = i.valued }

  abbrev ValueLies : Want → ExprTree → Type 0
  ValueLies want e = (ty : Ty) (v : ℤ) → own_type (taken want (sort_of scope e)) ≡ Some ty → value source act frame e ≡ got v → InRange ty v

  literal_lies : (want : Want) (e : ExprTree) (w : Written) → literal_of e ≡ Some w → WrittenLies want (literal_of e) → ValueLies want e
  literal_lies want e w is h ty v t g =
      let i = literal_is e w is in
      got_lies ty w.value v (written_lies want w ty (subst (WrittenLies want) is h) (ap (λ s. own_type (taken want s)) (sym i.sort) ∙ t))
      (sym i.valued ∙ g)

  both : (want : Want) (e : ExprTree) (more : ExprTrees) (wants : List Want) (vs : List ℤ) → ValueLies want e
      → ((ws : List ℤ) → values source act frame more ≡ got ws → Arguments (taken_each wants (sorts_of scope more)) ws)
      → and_then (value source act frame e) (λ v. and_then (values source act frame more) (λ ws. got (v ∷ ws))) ≡ got vs
      → Arguments (taken want (sort_of scope e) ∷ taken_each wants (sorts_of scope more)) vs
  both want e more wants vs here rest g = lead (value source act frame e) refl g
    where
      behind : (v : ℤ) → value source act frame e ≡ got v → (y : Tried (List ℤ)) → values source act frame more ≡ y
          → and_then y (λ ws. got (v ∷ ws)) ≡ got vs → Arguments (taken want (sort_of scope e) ∷ taken_each wants (sorts_of scope more)) vs
      behind v i (got ws) j f = subst (Arguments (taken want (sort_of scope e) ∷ taken_each wants (sorts_of scope more)))
          (same_got (v ∷ ws) vs f) (λ t own. here t v own i, rest ws j)
      behind v i (trap kind p) j f = absurd (not_got kind p vs f)

      lead : (x : Value) → value source act frame e ≡ x
          → and_then x (λ v. and_then (values source act frame more) (λ ws. got (v ∷ ws))) ≡ got vs
          → Arguments (taken want (sort_of scope e) ∷ taken_each wants (sorts_of scope more)) vs
      lead (got v) i f = behind v i (values source act frame more) refl f
      lead (trap kind p) i f = absurd (not_got kind p vs f)

  mutual
    pub value_lies : (want : Want) (e : ExprTree) → PartsLie (parts_of scope want e) → ValueLies want e
    value_lies want (lit own n place) h ty v t g = literal_lies want (lit own n place) (record { ty = own; value = n }) refl h.0 ty v t g
    value_lies want (read o) h ty v t g = reads want o ty v t g
    value_lies want (unary op place arg) h ty v t g = lead (signed op (literal_of arg)) refl (λ l. value_lies nothing arg l)
      where
        e : ExprTree
        e = unary op place arg

        sorts : Option Ty
        sorts = common_type (taken nothing (sort_of scope arg) ∷ [])

        alone : (o : Option Ty) → own_type (taken nothing (sort_of scope arg)) ≡ o
            → (x : Ty) → option_and_then widest (option_and_then (λ y. option_and_then (λ ys. Some (y ∷ ys)) (Some [])) o) ≡ Some x → o ≡ Some x
        alone None is x f = absurd (none-some x f)
        alone (Some y) is x f = f

        of_arg : (ValueLies nothing arg) → (t' : Value) → value source act frame arg ≡ t' → option_and_then (result_of_unary op) sorts ≡ Some ty
            → and_then t' (λ a. got (unary_result op (result_type scope e) a)) ≡ got v → result_type scope e ≡ ty → InRange ty v
        of_arg below (got a) is r f k =
            got_lies ty (unary_result op ty a) v
            (unary_lies op sorts ty a r (λ x c. below x a (alone (own_type (taken nothing (sort_of scope arg))) refl x c) is))
            (ap (λ z. got (unary_result op z a)) (sym k) ∙ f)
        of_arg below (trap kind p) is r f k = absurd (not_got kind p v f)

        lead : (o : Option Written) → signed op (literal_of arg) ≡ o
            → (PartsLie (parts_of scope nothing arg) → ValueLies nothing arg) → InRange ty v
        lead (Some w) is below = literal_lies want e w is h.0 ty v t g
        lead None is below =
            let s = ap (λ x. sort_where x (one_of (option_and_then (result_of_unary op) sorts))) is in
            let r = one_told want (option_and_then (result_of_unary op) sorts) ty (ap (λ x. own_type (taken want x)) (sym s) ∙ t) in
            of_arg (below (subst (λ x. PartsLie (cond (is_some x) [] (parts_of scope nothing arg))) is h.1)) (value source act frame arg) refl r
            (ap (λ x. literal_or x (and_then (value source act frame arg) (λ a. got (unary_result op (result_type scope e) a)))) (sym is) ∙ g)
            (result_is scope e (option_and_then (result_of_unary op) sorts) ty s r)
    value_lies want (binary op place left right) h ty v t g = first (value source act frame left) g
      where
        e : ExprTree
        e = binary op place left right

        sorts : Option Ty
        sorts = common_type (beside (sort_of scope left ∷ sort_of scope right ∷ []))

        r : option_and_then (result_of_binary op) sorts ≡ Some ty
        r = one_told want (option_and_then (result_of_binary op) sorts) ty t

        k : result_type scope e ≡ ty
        k = result_is scope e (option_and_then (result_of_binary op) sorts) ty refl r

        second : (a : ℤ) (y : Value) → and_then y (λ b. binary_result op (result_type scope e) place a b) ≡ got v → InRange ty v
        second a (got b) f = binary_lies op sorts ty place a b v r (ap (λ z. binary_result op z place a b) (sym k) ∙ f)
        second a (trap kind p) f = absurd (not_got kind p v f)

        first : (x : Value) → and_then x (λ a. and_then (value source act frame right) (λ b. binary_result op (result_type scope e) place a b)) ≡ got v
            → InRange ty v
        first (got a) f = second a (value source act frame right) f
        first (trap kind p) f = absurd (not_got kind p v f)
    value_lies want (std function place args) h ty v t g =
        lead (values source act frame args) refl g (λ vs is. values_lie (wants_of function (sorts_of scope args)) args h.1 vs is)
      where
        e : ExprTree
        e = std function place args

        sorts : List Sort
        sorts = arguments_of function (sorts_of scope args)

        r : result_of_function function sorts ≡ Some ty
        r = one_told want (result_of_function function sorts) ty t

        k : result_type scope e ≡ ty
        k = result_is scope e (result_of_function function sorts) ty refl r

        lead : (x : Tried (List ℤ)) → values source act frame args ≡ x
            → and_then x (λ vs. got (function_result function (result_type scope e) vs)) ≡ got v
            → ((vs : List ℤ) → values source act frame args ≡ got vs → Arguments sorts vs) → InRange ty v
        lead (got vs) is f below =
            got_lies ty (function_result function ty vs) v (function_lies function sorts ty vs r (below vs is))
            (ap (λ z. got (function_result function z vs)) (sym k) ∙ f)
        lead (trap kind p) is f below = absurd (not_got kind p v f)
    value_lies want (paren place inner) h ty v t g = lead (literal_of inner) refl (λ l. value_lies want inner l)
      where
        lead : (o : Option Written) → literal_of inner ≡ o → (PartsLie (parts_of scope want inner) → ValueLies want inner) → InRange ty v
        lead (Some w) is below = literal_lies want (paren place inner) w is h.0 ty v t g
        lead None is below = below (subst (λ x. PartsLie (cond (is_some x) [] (parts_of scope want inner))) is h.1) ty v t g

    values_lie : (wants : List Want) (args : ExprTrees) → PartsLie (parts_of_args scope wants args) → (vs : List ℤ)
        → values source act frame args ≡ got vs → Arguments (taken_each wants (sorts_of scope args)) vs
    values_lie [] no_exprs h vs g = subst (Arguments []) (same_got [] vs g) tt
    values_lie (want ∷ wants) no_exprs h vs g = subst (Arguments []) (same_got [] vs g) tt
    values_lie [] (exprs e more) h vs g =
        both nothing e more [] vs (value_lies nothing e (front_lies (parts_of scope nothing e) (parts_of_args scope [] more) h))
        (λ ws is. values_lie [] more (back_lies (parts_of scope nothing e) (parts_of_args scope [] more) h) ws is) g
    values_lie (want ∷ wants) (exprs e more) h vs g =
        both want e more wants vs (value_lies want e (front_lies (parts_of scope want e) (parts_of_args scope wants more) h))
        (λ ws is. values_lie wants more (back_lies (parts_of scope want e) (parts_of_args scope wants more) h) ws is) g
