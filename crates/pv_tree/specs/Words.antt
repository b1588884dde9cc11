-- Words: which are reserved, which are numbered names, and the names that tokens spell.
use Rattle.std.specs.Prelude.{◌≡◌, ℕ, Bool, true, false, ◌&&◌, ◌||◌, not, ◌==◌, List, [], ◌∷◌, ◌++◌, map, drop, take, codes, IsTrue, Contains}
use Rattle.std.specs.List.{list_all}
use Rattle.std.specs.Char.{is_ascii_digit}
use Rattle.std.specs.Str.{str_to_ascii_lowercase}
use Rattle.pv_word.specs.declared.types.Ty.{Ty}
use Rattle.pv_word.specs.declared.types.Ty.TheVariants as ty
use Rattle.pv_place.specs.declared.place.Place.{Place}
use Rattle.pv_types.specs.declared.name.Name.{Name}
use Rattle.pv_types.specs.Names.{between_quotes}
use Rattle.pv_lex.specs.declared.token.Kind.TheVariants as k
use Rattle.pv_lex.specs.Shapes.{is_one_of}
use Rattle.pv_tree.specs.declared.expr.StdFunction.{StdFunction}
use Rattle.pv_tree.specs.declared.expr.StdFunction.TheVariants as function
use Rattle.pv_tree.specs.Lexemes.{Lexeme, Form, ◌∣◌, one, IsAt}

-- ---- types and standard functions

-- the word of a simple type
unfoldable pub type_word : Ty → List ℕ
type_word ty.Bool = codes "BOOL"
type_word ty.Byte = codes "BYTE"
type_word ty.Word = codes "WORD"
type_word ty.Dword = codes "DWORD"
type_word ty.Int = codes "INT"
type_word ty.Dint = codes "DINT"
type_word ty.Time = codes "TIME"

-- the types that a type is converted to
abbrev pub targets_of : Ty → List Ty
targets_of ty.Bool = ty.Byte ∷ ty.Word ∷ ty.Dword ∷ []
targets_of ty.Byte = ty.Bool ∷ ty.Word ∷ ty.Dword ∷ ty.Int ∷ ty.Dint ∷ []
targets_of ty.Word = ty.Bool ∷ ty.Byte ∷ ty.Dword ∷ ty.Int ∷ ty.Dint ∷ []
targets_of ty.Dword = ty.Bool ∷ ty.Byte ∷ ty.Word ∷ ty.Int ∷ ty.Dint ∷ []
targets_of ty.Int = ty.Byte ∷ ty.Word ∷ ty.Dword ∷ ty.Dint ∷ []
targets_of ty.Dint = ty.Int ∷ ty.Word ∷ ty.Dword ∷ ty.Time ∷ []
targets_of ty.Time = ty.Dint ∷ []

-- the function is one: of the conversions, not all are
abbrev pub IsFunction : StdFunction → Type 0
IsFunction (function.Convert from to) = Contains (targets_of from) to
IsFunction function = Unit {0}

-- the word of a function
unfoldable pub function_word : StdFunction → List ℕ
function_word (function.Convert from to) = type_word from ++ codes "_TO_" ++ type_word to
function_word function.Abs = codes "ABS"
function_word function.Min = codes "MIN"
function_word function.Max = codes "MAX"
function_word function.Limit = codes "LIMIT"
function_word function.Sel = codes "SEL"
function_word function.Shl = codes "SHL"
function_word function.Shr = codes "SHR"

abbrev pub conversion_words : Ty → List (List ℕ)
conversion_words from = map (λ to. function_word (function.Convert from to)) (targets_of from)

-- the words of all functions
unfoldable pub function_words : List (List ℕ)
function_words =
    codes "ABS" ∷ codes "MIN" ∷ codes "MAX" ∷ codes "LIMIT" ∷ codes "SEL" ∷ codes "SHL" ∷
    codes "SHR" ∷ (conversion_words ty.Bool ++ conversion_words ty.Byte ++ conversion_words ty.Word
    ++ conversion_words ty.Dword ++ conversion_words ty.Int ++ conversion_words ty.Dint
    ++ conversion_words ty.Time)

-- ---- reserved words

-- the words of blocks and declarations
unfoldable pub block_words : List (List ℕ)
block_words =
    codes "FUNCTION_BLOCK" ∷ codes "END_FUNCTION_BLOCK" ∷ codes "FUNCTION" ∷
    codes "END_FUNCTION" ∷ codes "VOID" ∷ codes "ORGANIZATION_BLOCK" ∷
    codes "END_ORGANIZATION_BLOCK" ∷ codes "DATA_BLOCK" ∷ codes "END_DATA_BLOCK" ∷ codes "TYPE" ∷
    codes "END_TYPE" ∷ codes "BEGIN" ∷ codes "OB" ∷ codes "FB" ∷ codes "FC" ∷ codes "DB" ∷
    codes "UDT" ∷ codes "VAR_INPUT" ∷ codes "VAR_OUTPUT" ∷ codes "VAR_IN_OUT" ∷ codes "VAR" ∷
    codes "VAR_TEMP" ∷ codes "END_VAR" ∷ codes "CONST" ∷ codes "END_CONST" ∷ codes "BOOL" ∷
    codes "BYTE" ∷ codes "WORD" ∷ codes "DWORD" ∷ codes "INT" ∷ codes "DINT" ∷ codes "TIME" ∷
    codes "DATE_AND_TIME" ∷ codes "ARRAY" ∷ codes "OF" ∷ codes "STRUCT" ∷ codes "END_STRUCT" ∷
    codes "TRUE" ∷ codes "FALSE" ∷ []

-- the words of statements, of operators, and of networks and calls in STL
unfoldable pub statement_words : List (List ℕ)
statement_words =
    codes "IF" ∷ codes "THEN" ∷ codes "ELSIF" ∷ codes "ELSE" ∷ codes "END_IF" ∷ codes "CASE" ∷
    codes "END_CASE" ∷ codes "FOR" ∷ codes "TO" ∷ codes "BY" ∷ codes "DO" ∷ codes "END_FOR" ∷
    codes "WHILE" ∷ codes "END_WHILE" ∷ codes "REPEAT" ∷ codes "UNTIL" ∷ codes "END_REPEAT" ∷
    codes "EXIT" ∷ codes "CONTINUE" ∷ codes "RETURN" ∷ codes "AND" ∷ codes "OR" ∷ codes "XOR" ∷
    codes "NOT" ∷ codes "MOD" ∷ codes "DIV" ∷ codes "NETWORK" ∷ codes "CALL" ∷ codes "UC" ∷ []

-- a text that is no name, in any letter case: a word that the grammar of SCL or of STL writes out, or
-- the word of a standard function. The words of STL's instructions are names like others, as L and
-- SET, but for the four that are in the lists above: NOT, MOD, CALL and UC
unfoldable pub is_reserved : List ℕ → Bool
is_reserved text =
    is_one_of block_words text || is_one_of statement_words text || is_one_of function_words text

-- ---- numbered names

-- the words that a number makes a name with
unfoldable pub prefixes : List (List ℕ)
prefixes = codes "OB" ∷ codes "FB" ∷ codes "FC" ∷ codes "DB" ∷ codes "UDT" ∷ []

-- digits, at least one
abbrev pub is_digits : List ℕ → Bool
is_digits [] = false
is_digits text = list_all is_ascii_digit text

-- a word of this length is a prefix, and only digits stand behind it
abbrev pub is_numbered_at : ℕ → List ℕ → Bool
is_numbered_at len text = is_one_of prefixes (take len text) && is_digits (drop len text)

-- such a word with its number in it, as FB1
unfoldable pub is_numbered : List ℕ → Bool
is_numbered text = is_numbered_at 2 text || is_numbered_at 3 text

-- ---- names

-- the name that one word is, the one that two words are, joined, and the one that is written in these quotes
abbrev pub plain_name : List ℕ → Name
plain_name bytes =
    record { key = str_to_ascii_lowercase bytes; spelled = bytes; paired = false }

abbrev pub pair_name : List ℕ → Name
pair_name bytes = record { key = str_to_ascii_lowercase bytes; spelled = bytes; paired = true }

abbrev pub quoted_name : List ℕ → Name
quoted_name bytes = record {
  key = str_to_ascii_lowercase (between_quotes bytes);
  spelled = bytes;
  paired = false;
}

-- a word that is the name: any but a numbered one
pub record IsPlain (name : Name) (t : Lexeme) : Type 0 where
  pub kind : t.kind ≡ k.Word
  pub unnumbered : is_numbered t.bytes ≡ false
  pub names : name ≡ plain_name t.bytes

-- a quoted name, and a numbered one in one word
pub record IsQuoted (name : Name) (t : Lexeme) : Type 0 where
  pub kind : t.kind ≡ k.Quoted
  pub names : name ≡ quoted_name t.bytes

pub record IsNumbered (name : Name) (t : Lexeme) : Type 0 where
  pub kind : t.kind ≡ k.Word
  pub numbered : is_numbered t.bytes ≡ true
  pub names : name ≡ plain_name t.bytes

-- a numbered name of two tokens: its text is theirs without what stands between them
pub record IsNumberedPair (name : Name) (place : Place) (tokens : List Lexeme) : Type 0 where
  pub prefix : Lexeme
  pub number : Lexeme
  pub parts : tokens ≡ prefix ∷ number ∷ []
  pub at : prefix.place ≡ place
  pub word : prefix.kind ≡ k.Word
  pub is_prefix : IsTrue (is_one_of prefixes prefix.bytes)
  pub counts : number.kind ≡ k.Number
  pub names : name ≡ pair_name (prefix.bytes ++ number.bytes)

-- a word alone
abbrev pub SpellsWord : Name → Place → Form
SpellsWord name place = one (IsAt (IsPlain name) place)

-- a quoted or a numbered name, with the place of its first token
abbrev pub SpellsFirm : Name → Place → Form
SpellsFirm name place =
    one (IsAt (IsQuoted name) place) ∣ one (IsAt (IsNumbered name) place)
    ∣ IsNumberedPair name place

-- any name
abbrev pub SpellsName : Name → Place → Form
SpellsName name place = SpellsWord name place ∣ SpellsFirm name place

-- ---- well-formed names

-- a quote begins the text
abbrev pub begins_quoted : List ℕ → Bool
begins_quoted [] = false
begins_quoted (b ∷ others) = b == 34

-- the name may stand without `#` or `.` before it: an unquoted one is no reserved word
abbrev pub IsFree : Name → Type 0
IsFree name = IsTrue (begins_quoted name.spelled || not (is_reserved name.key))
