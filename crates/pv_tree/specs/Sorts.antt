-- What an expression is to the operators around it, and the types that operators and standard functions take and give.
-- After the manual S7-SCL for S7-300/S7-400, "Expressions, Operations and Addresses" and "Standard Functions of S7-SCL".
use Rattle.std.specs.Prelude.{ℤ, pos, List, [], ◌∷◌, map, Bool as Truth, true, false, ◌&&◌, ◌||◌, not, if◌then◌else◌, Option, Some, None, is_none, option_and_then, filter_map, int_le}
use Rattle.std.specs.List.{list_any}
use Rattle.pv_word.specs.declared.types.Ty.{Ty}
use Rattle.pv_word.specs.declared.types.Ty.TheVariants.{Bool, Byte, Word, Dword, Int, Dint, Time}
use Rattle.pv_tree.specs.declared.expr.UnaryOp.{UnaryOp}
use Rattle.pv_tree.specs.declared.expr.UnaryOp.TheVariants.{Plus, Minus, Not}
use Rattle.pv_tree.specs.declared.expr.BinaryOp.{BinaryOp}
use Rattle.pv_tree.specs.declared.expr.BinaryOp.TheVariants.{Mul, Div, Mod, Add, Sub, Less, Greater, LessEqual, GreaterEqual, Equal, NotEqual, And, Xor, Or}
use Rattle.pv_tree.specs.declared.expr.StdFunction.{StdFunction}
use Rattle.pv_tree.specs.declared.expr.StdFunction.TheVariants.{Convert, Abs, Min, Max, Limit, Sel, Shl, Shr}
use Rattle.pv_tree.specs.LiteralTypes.{is_whole_number, Want, nothing, this, unsure, type_of_number}

-- a literal without a type; a literal of a type, which needn't hold it; another value of a type; a whole array, structure, instance or
-- block; and what breaks a rule, or has no type since something else breaks one
pub data Sort : Type 0 where
  untyped : ℤ → Sort
  typed : Ty → ℤ → Sort
  one : Ty → Sort
  whole : Sort
  broken : Sort

abbrev pub is_whole : Sort → Truth
is_whole (untyped v) = false
is_whole (typed ty v) = false
is_whole (one ty) = false
is_whole whole = true
is_whole broken = false

abbrev pub is_broken : Sort → Truth
is_broken (untyped v) = false
is_broken (typed ty v) = false
is_broken (one ty) = false
is_broken whole = false
is_broken broken = true

-- the type that a part has by itself
abbrev pub own_type : Sort → Option Ty
own_type (untyped v) = None
own_type (typed ty v) = Some ty
own_type (one ty) = Some ty
own_type whole = None
own_type broken = None

-- a value of this type, or what breaks a rule where there is no type
abbrev pub one_of : Option Ty → Sort
one_of None = broken
one_of (Some ty) = one ty

-- a literal without a type takes one by what is wanted of it; all else is as it was
abbrev pub taken : Want → Sort → Sort
taken want (untyped v) = typed (type_of_number want v) v
taken want (typed ty v) = typed ty v
taken want (one ty) = one ty
taken want whole = whole
taken want broken = broken

-- a value of the first type stands where one of the second is wanted: INT widens to DINT, BYTE to WORD, WORD to DWORD
abbrev pub widens : Ty → Ty → Truth
widens Bool Bool = true
widens Byte Byte = true
widens Byte Word = true
widens Byte Dword = true
widens Word Word = true
widens Word Dword = true
widens Dword Dword = true
widens Int Int = true
widens Int Dint = true
widens Dint Dint = true
widens Time Time = true
widens from to = false

-- the one of two types to which the other widens
abbrev pub wider : Ty → Ty → Option Ty
wider a b = if widens a b then Some b else (if widens b a then Some a else None)

-- the one of several types to which all others widen
abbrev pub widest_from : Ty → List Ty → Option Ty
widest_from ty [] = Some ty
widest_from ty (next ∷ more) = option_and_then (wider ty) (widest_from next more)

abbrev pub widest : List Ty → Option Ty
widest [] = None
widest (ty ∷ more) = widest_from ty more

-- what the operands of one operator want of a literal among them: the type of the others
abbrev pub want_where : Option Ty → Want
want_where None = nothing
want_where (Some ty) = this ty

abbrev pub wanted_beside : List Sort → Want
wanted_beside sorts = if list_any (λ s. is_whole s || is_broken s) sorts then unsure else want_where
    (widest (filter_map own_type sorts))

-- the operands of one operator, in which a literal without a type takes that of the others
abbrev pub beside : List Sort → List Sort
beside sorts = map (taken (wanted_beside sorts)) sorts

-- the types of all of them, where each has one
abbrev pub types_of_sorts : List Sort → Option (List Ty)
types_of_sorts [] = Some []
types_of_sorts (s ∷ more) = option_and_then (λ ty. option_and_then (λ tys. Some (ty ∷ tys))
    (types_of_sorts more)) (own_type s)

-- the type to which all of them widen
abbrev pub common_type : List Sort → Option Ty
common_type sorts = option_and_then widest (types_of_sorts sorts)

-- the type, where it passes the test
abbrev pub type_where : (Ty → Truth) → Ty → Option Ty
type_where test ty = if test ty then Some ty else None

-- the types that sums and differences take: INT, DINT and TIME
abbrev pub adds : Ty → Truth
adds Bool = false
adds Byte = false
adds Word = false
adds Dword = false
adds Int = true
adds Dint = true
adds Time = true

-- those that AND, OR, XOR and NOT take, bit by bit
abbrev pub has_pattern : Ty → Truth
has_pattern Bool = true
has_pattern Byte = true
has_pattern Word = true
has_pattern Dword = true
has_pattern Int = false
has_pattern Dint = false
has_pattern Time = false

-- those that SHL and SHR shift
abbrev pub is_shifted : Ty → Truth
is_shifted Bool = false
is_shifted Byte = true
is_shifted Word = true
is_shifted Dword = true
is_shifted Int = false
is_shifted Dint = false
is_shifted Time = false

abbrev pub is_bool : Ty → Truth
is_bool Bool = true
is_bool Byte = false
is_bool Word = false
is_bool Dword = false
is_bool Int = false
is_bool Dint = false
is_bool Time = false

abbrev pub is_ordered : Ty → Truth
is_ordered ty = not (is_bool ty)

-- BOOL, where the operands' type passes the test
abbrev pub truth_where : (Ty → Truth) → Ty → Option Ty
truth_where test ty = if test ty then Some Bool else None

-- the type of a result by the operands' type, where the operator takes that
abbrev pub result_of_unary : UnaryOp → Ty → Option Ty
result_of_unary Plus = type_where is_whole_number
result_of_unary Minus = type_where is_whole_number
result_of_unary Not = type_where has_pattern

abbrev pub result_of_binary : BinaryOp → Ty → Option Ty
result_of_binary Mul = type_where is_whole_number
result_of_binary Div = type_where is_whole_number
result_of_binary Mod = type_where is_whole_number
result_of_binary Add = type_where adds
result_of_binary Sub = type_where adds
result_of_binary Less = truth_where is_ordered
result_of_binary Greater = truth_where is_ordered
result_of_binary LessEqual = truth_where is_ordered
result_of_binary GreaterEqual = truth_where is_ordered
result_of_binary Equal = truth_where (λ ty. true)
result_of_binary NotEqual = truth_where (λ ty. true)
result_of_binary And = type_where has_pattern
result_of_binary Xor = type_where has_pattern
result_of_binary Or = type_where has_pattern

-- a count of bits to shift by: a literal from 0 to 32 that is no BOOL and no TIME
abbrev pub is_count : Sort → Truth
is_count (untyped v) = false
is_count (typed ty v) = (takes_count ty) && (int_le (pos 0) v && int_le v (pos 32))
  where
    takes_count : Ty → Truth
    takes_count ty = is_whole_number ty || is_shifted ty
is_count (one ty) = false
is_count whole = false
is_count broken = false

-- what a function wants of each argument: a conversion the type of its parameter, MIN, MAX, LIMIT and the two choices of SEL the
-- type of the others
abbrev pub wants_of : StdFunction → List Sort → List Want
wants_of (Convert from to) sorts = map (λ s. this from) sorts
wants_of Abs sorts = map (λ s. nothing) sorts
wants_of Min sorts = map (λ s. wanted_beside sorts) sorts
wants_of Max sorts = map (λ s. wanted_beside sorts) sorts
wants_of Limit sorts = map (λ s. wanted_beside sorts) sorts
wants_of Sel [] = []
wants_of Sel (choice ∷ more) = nothing ∷ map (λ s. wanted_beside more) more
wants_of Shl sorts = map (λ s. nothing) sorts
wants_of Shr sorts = map (λ s. nothing) sorts

-- each literal without a type takes one by what is wanted of it
abbrev pub taken_each : List Want → List Sort → List Sort
taken_each wants [] = []
taken_each [] (s ∷ more) = taken nothing s ∷ taken_each [] more
taken_each (want ∷ wants) (s ∷ more) = taken want s ∷ taken_each wants more

abbrev pub arguments_of : StdFunction → List Sort → List Sort
arguments_of function sorts = taken_each (wants_of function sorts) sorts

-- the types of the values of SHL and SHR, of SEL, and of conversions
abbrev pub shift_result : List Sort → Option Ty
shift_result (shifted ∷ count ∷ []) =
    if is_count count then option_and_then (type_where is_shifted) (own_type shifted) else None
shift_result sorts = None

abbrev pub choice_result : List Sort → Option Ty
choice_result (choice ∷ more) =
    option_and_then (λ ty. if is_bool ty then common_type more else None) (own_type choice)
choice_result sorts = None

abbrev pub convert_result : Ty → Ty → List Sort → Option Ty
convert_result from to (arg ∷ []) =
    option_and_then (λ ty. if widens ty from then Some to else None) (own_type arg)
convert_result from to sorts = None

-- the type of a function's value by its arguments, where the function takes them
abbrev pub result_of_function : StdFunction → List Sort → Option Ty
result_of_function (Convert from to) sorts = convert_result from to sorts
result_of_function Abs sorts = option_and_then (type_where is_whole_number) (common_type sorts)
result_of_function Min sorts = option_and_then (type_where is_whole_number) (common_type sorts)
result_of_function Max sorts = option_and_then (type_where is_whole_number) (common_type sorts)
result_of_function Limit sorts = option_and_then (type_where is_whole_number) (common_type sorts)
result_of_function Sel sorts = choice_result sorts
result_of_function Shl sorts = shift_result sorts
result_of_function Shr sorts = shift_result sorts

-- the operands don't fit, though each has a type; a whole array, structure, instance or block fits nowhere
abbrev pub misfits : Option Ty → List Sort → Truth
misfits result sorts = is_none result && (list_any is_whole sorts || not (list_any is_broken sorts))
