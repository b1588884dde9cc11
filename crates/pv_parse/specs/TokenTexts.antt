-- What single tokens say, once the grammar let them stand where they do: operators, functions,
-- truth values, addresses.
use Rattle.std.specs.Prelude.{ℕ, ℤ, pos, Bool, if◌then◌else◌, List, [], ◌∷◌, ◌++◌, map, codes}
use Rattle.std.specs.Str.{str_eq_ignore_ascii_case}
use Rattle.pv_word.specs.declared.types.Ty.{Ty}
use Rattle.pv_word.specs.declared.types.Ty.TheVariants as ty
use Rattle.pv_lex.specs.declared.class.Class.TheVariants as c
use Rattle.pv_lex.specs.Shapes.{begins}
use Rattle.pv_tree.specs.declared.expr.Area.{Area}
use Rattle.pv_tree.specs.declared.expr.Area.TheVariants as area
use Rattle.pv_tree.specs.declared.expr.Root.{Root}
use Rattle.pv_tree.specs.declared.expr.Root.TheVariants as root
use Rattle.pv_tree.specs.declared.expr.BinaryOp.{BinaryOp}
use Rattle.pv_tree.specs.declared.expr.BinaryOp.TheVariants as op
use Rattle.pv_tree.specs.declared.expr.StdFunction.{StdFunction}
use Rattle.pv_tree.specs.declared.expr.StdFunction.TheVariants as function
use Rattle.pv_parse.specs.declared.texts.Entry.{Entry}
use Rattle.pv_tree.specs.Words.{function_word, targets_of}
use Rattle.pv_tree.specs.Literals.{bare_address, address_bits, address_byte, address_bit}

-- the text is the word, in any letter case
abbrev pub is_text : List ℕ → List ℕ → Bool
is_text word bytes = str_eq_ignore_ascii_case bytes word

-- the byte begins the text
abbrev pub starts : ℕ → List ℕ → Bool
starts byte text = begins (c.Byte byte) text

-- the operator of a product that isn't MOD
unfoldable pub times_of : List ℕ → BinaryOp
times_of bytes = if is_text (codes "*") bytes then op.Mul else op.Div

-- the operator that compares by order
unfoldable pub compare_of : List ℕ → BinaryOp
compare_of bytes =
    if is_text (codes "<") bytes then op.Less
    else (if is_text (codes ">") bytes then op.Greater
    else (if is_text (codes "<=") bytes then op.LessEqual else op.GreaterEqual))

-- TRUE as 1, any other as 0
unfoldable pub truth_of : List ℕ → ℤ
truth_of bytes = if is_text (codes "TRUE") bytes then pos 1 else pos 0

-- the conversions of a type
abbrev pub conversions : Ty → List StdFunction
conversions from = map (λ to. function.Convert from to) (targets_of from)

-- all functions
abbrev pub functions : List StdFunction
functions =
    function.Min ∷ function.Max ∷ function.Limit ∷ function.Sel ∷ function.Shl ∷ function.Shr ∷
    (conversions ty.Bool ++ conversions ty.Byte ++ conversions ty.Word ++ conversions ty.Dword
    ++ conversions ty.Int ++ conversions ty.Dint ++ conversions ty.Time)

-- a function and its word
abbrev pub FunctionEntry : Type 0
FunctionEntry = List ℕ × StdFunction

-- the first of the functions that has this word, or ABS
abbrev pub function_among : List FunctionEntry → List ℕ → StdFunction
function_among [] bytes = function.Abs
function_among (f ∷ others) bytes =
    if is_text f.0 bytes then f.1 else function_among others bytes

abbrev pub function_entries : List StdFunction → List FunctionEntry
function_entries list = map (λ f. (function_word f, f)) list

unfoldable pub function_of : List ℕ → StdFunction
function_of bytes = function_among (function_entries functions) bytes

-- an entry of the code's table
abbrev pub entry_of : Entry → FunctionEntry
entry_of e = (e.spelling.now, e.function)

-- the area of an address, without its `%`
abbrev pub area_of_letter : List ℕ → Area
area_of_letter text =
    if begins (c.Either 73 105) text then area.I
    else (if begins (c.Either 81 113) text then area.Q else area.M)

-- the operand that an address begins
unfoldable pub area_of : List ℕ → Root
area_of bytes =
    root.Area (area_of_letter (bare_address bytes)) (address_bits (bare_address bytes))
    (address_byte (bare_address bytes)) (address_bit (bare_address bytes))
