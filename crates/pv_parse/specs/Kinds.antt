-- Kinds of tokens, for the grammars: what a token may be, by its kind and bytes and by whether the
-- token before it is `#` or `.`, behind which any word is a name.
use Rattle.std.specs.Prelude.{◌≡◌, ℕ, Bool, true, false, ◌||◌, if◌then◌else◌, IsTrue, List, [], ◌∷◌, ◌++◌, length, ◌<◌, codes}
use Rattle.pv_word.specs.declared.types.Ty.TheVariants as ty
use Rattle.pv_lex.specs.declared.token.Kind.{Kind}
use Rattle.pv_lex.specs.declared.token.Kind.TheVariants as k
use Rattle.pv_lex.specs.declared.class.Class.TheVariants as c
use Rattle.pv_lex.specs.Shapes.{begins, is_one_of}
use Rattle.pv_tree.specs.Lexemes.{Lexeme}
use Rattle.pv_tree.specs.Words.{prefixes, is_numbered, begins_quoted, conversion_words}
use Rattle.pv_tree.specs.Literals.{bare_address}
use Rattle.pv_tree.specs.Outside.{is_mark}
use Rattle.pv_parse.specs.LookUps.{Entry, look_up, all_are}
use Rattle.pv_parse.specs.KindNumbers as n

-- ---- words

-- the functions of one argument that have no type before their word, and the conversions
unfoldable pub one_functions : List (List ℕ)
one_functions =
    codes "ABS" ∷ (conversion_words ty.Bool ++ conversion_words ty.Byte ++ conversion_words ty.Word
    ++ conversion_words ty.Dword ++ conversion_words ty.Int ++ conversion_words ty.Dint
    ++ conversion_words ty.Time)

-- the fixed words of functions' arguments; words like any other elsewhere
unfoldable pub argument_words : List Entry
argument_words =
    (codes "IN", n.in_word) ∷ (codes "IN0", n.in0_word) ∷ (codes "IN1", n.in1_word) ∷
    (codes "IN2", n.in2_word) ∷ (codes "MN", n.mn_word) ∷ (codes "MX", n.mx_word) ∷
    (codes "G", n.g_word) ∷ (codes "N", n.n_word) ∷ []

-- the instructions' words, by what stands behind them: an operand or `(`; the same or nothing; an
-- operand; an operand or nothing
unfoldable pub bit_ops : List (List ℕ)
bit_ops = codes "A" ∷ codes "AN" ∷ codes "ON" ∷ codes "X" ∷ codes "XN" ∷ []

unfoldable pub or_ops : List (List ℕ)
or_ops = codes "O" ∷ []

unfoldable pub value_ops : List (List ℕ)
value_ops =
    codes "S" ∷ codes "R" ∷ codes "FP" ∷ codes "FN" ∷ codes "L" ∷ codes "T" ∷ codes "NOP" ∷
    codes "BLD" ∷ codes "SLW" ∷ codes "SRW" ∷ codes "SLD" ∷ codes "SRD" ∷ codes "JU" ∷
    codes "JC" ∷ codes "JCB" ∷ codes "JCN" ∷ codes "JNB" ∷ codes "JZ" ∷ codes "JN" ∷ codes "JP" ∷
    codes "JM" ∷ codes "JPZ" ∷ codes "JMZ" ∷ codes "JO" ∷ codes "LOOP" ∷ []

unfoldable pub free_ops : List (List ℕ)
free_ops =
    codes "SET" ∷ codes "CLR" ∷ codes "SAVE" ∷ codes "ITD" ∷ codes "TAK" ∷ codes "PUSH" ∷
    codes "POP" ∷ codes "BE" ∷ codes "BEU" ∷ codes "BEC" ∷ codes "AW" ∷ codes "OW" ∷
    codes "XOW" ∷ codes "AD" ∷ codes "OD" ∷ codes "XOD" ∷ []

unfoldable pub operation_words : List Entry
operation_words =
    all_are n.bit_op bit_ops ++ all_are n.or_op or_ops ++ all_are n.value_op value_ops
    ++ all_are n.free_op free_ops

-- operators, literals and functions
unfoldable pub expression_words : List Entry
expression_words =
    (codes "AND", n.and_word) ∷ (codes "OR", n.or_word) ∷ (codes "XOR", n.xor_word) ∷
    (codes "NOT", n.not_word) ∷ (codes "DIV", n.times) ∷ (codes "MOD", n.mod_word) ∷
    (codes "TRUE", n.truth) ∷ (codes "FALSE", n.truth) ∷ (codes "MIN", n.two_function) ∷
    (codes "MAX", n.two_function) ∷ (codes "LIMIT", n.limit_function) ∷
    (codes "SEL", n.sel_function) ∷ (codes "SHL", n.shift_function) ∷
    (codes "SHR", n.shift_function) ∷ all_are n.one_function one_functions

-- blocks and declarations
unfoldable pub declaration_words : List Entry
declaration_words =
    all_are n.number_prefix prefixes
    ++ (codes "BOOL", n.simple_type) ∷ (codes "BYTE", n.simple_type) ∷
    (codes "WORD", n.simple_type) ∷ (codes "DWORD", n.simple_type) ∷
    (codes "INT", n.simple_type) ∷ (codes "DINT", n.simple_type) ∷ (codes "TIME", n.simple_type) ∷
    (codes "VAR_INPUT", n.section_word) ∷ (codes "VAR_OUTPUT", n.section_word) ∷
    (codes "VAR_IN_OUT", n.section_word) ∷ (codes "VAR", n.section_word) ∷
    (codes "VAR_TEMP", n.section_word) ∷ (codes "DATE_AND_TIME", n.date_and_time) ∷
    (codes "VOID", n.void_word) ∷ (codes "ARRAY", n.array_word) ∷ (codes "OF", n.of_word) ∷
    (codes "STRUCT", n.struct_word) ∷ (codes "END_STRUCT", n.end_struct) ∷
    (codes "END_VAR", n.end_var) ∷ (codes "CONST", n.const_word) ∷
    (codes "END_CONST", n.end_const) ∷ (codes "BEGIN", n.begin_word) ∷
    (codes "FUNCTION_BLOCK", n.function_block) ∷
    (codes "END_FUNCTION_BLOCK", n.end_function_block) ∷ (codes "FUNCTION", n.function_word) ∷
    (codes "END_FUNCTION", n.end_function) ∷ (codes "ORGANIZATION_BLOCK", n.organization_block) ∷
    (codes "END_ORGANIZATION_BLOCK", n.end_organization_block) ∷
    (codes "DATA_BLOCK", n.data_block) ∷ (codes "END_DATA_BLOCK", n.end_data_block) ∷
    (codes "TYPE", n.type_word) ∷ (codes "END_TYPE", n.end_type) ∷ []

-- statements, and networks and calls in STL
unfoldable pub statement_words : List Entry
statement_words =
    (codes "IF", n.if_word) ∷ (codes "THEN", n.then_word) ∷ (codes "ELSIF", n.elsif_word) ∷
    (codes "ELSE", n.else_word) ∷ (codes "END_IF", n.end_if) ∷ (codes "CASE", n.case_word) ∷
    (codes "END_CASE", n.end_case) ∷ (codes "FOR", n.for_word) ∷ (codes "TO", n.to_word) ∷
    (codes "BY", n.by_word) ∷ (codes "DO", n.do_word) ∷ (codes "END_FOR", n.end_for) ∷
    (codes "WHILE", n.while_word) ∷ (codes "END_WHILE", n.end_while) ∷
    (codes "REPEAT", n.repeat_word) ∷ (codes "UNTIL", n.until_word) ∷
    (codes "END_REPEAT", n.end_repeat) ∷ (codes "EXIT", n.single_word) ∷
    (codes "CONTINUE", n.single_word) ∷ (codes "RETURN", n.single_word) ∷
    (codes "NETWORK", n.network_word) ∷ (codes "CALL", n.call_word) ∷ (codes "UC", n.uc_word) ∷ []

-- all words that have a kind of their own
unfoldable pub word_entries : List Entry
word_entries =
    argument_words ++ operation_words ++ expression_words ++ declaration_words ++ statement_words

-- a word that isn't in the table
unfoldable pub other_kind : List ℕ → ℕ
other_kind bytes = if is_numbered bytes then n.numbered else n.plain

-- the kind of a word that isn't directly behind `#` or `.`
unfoldable pub word_kind : List ℕ → ℕ
word_kind bytes = look_up word_entries bytes (other_kind bytes)

-- the kind of one that is
unfoldable pub marked_kind : List ℕ → ℕ
marked_kind bytes =
    if is_one_of prefixes bytes then n.free_prefix
    else (if is_numbered bytes then n.free_numbered else n.free_word)

-- ---- signs

-- the instructions of STL that are signs
unfoldable pub stl_signs : List (List ℕ)
stl_signs =
    codes "==I" ∷ codes "<>I" ∷ codes ">I" ∷ codes "<I" ∷ codes ">=I" ∷ codes "<=I" ∷
    codes "+I" ∷ codes "-I" ∷ codes "*I" ∷ codes "/I" ∷ codes "==D" ∷ codes "<>D" ∷ codes ">D" ∷
    codes "<D" ∷ codes ">=D" ∷ codes "<=D" ∷ codes "+D" ∷ codes "-D" ∷ codes "*D" ∷ codes "/D" ∷ []

-- all signs but `**`
unfoldable pub sign_entries : List Entry
sign_entries =
    (codes ":=", n.assign) ∷ (codes "=>", n.arrow) ∷ (codes "..", n.dots) ∷
    (codes "(", n.paren_open) ∷ (codes ")", n.paren_close) ∷ (codes "[", n.bracket_open) ∷
    (codes "]", n.bracket_close) ∷ (codes ":", n.colon) ∷ (codes ";", n.semicolon) ∷
    (codes ",", n.comma) ∷ (codes ".", n.dot) ∷ (codes "#", n.hash) ∷ (codes "+", n.plus) ∷
    (codes "-", n.minus) ∷ (codes "*", n.times) ∷ (codes "/", n.times) ∷ (codes "=", n.equals) ∷
    (codes "<>", n.unequal) ∷ (codes "<", n.compare_sign) ∷ (codes ">", n.compare_sign) ∷
    (codes "<=", n.compare_sign) ∷ (codes ">=", n.compare_sign) ∷ (codes "&", n.and_word) ∷
    all_are n.stl_sign stl_signs

-- the kind of a sign
unfoldable pub sign_kind : List ℕ → ℕ
sign_kind bytes = look_up sign_entries bytes n.outside

-- ---- tokens

-- the kind of a token of these bytes, directly behind `#` or `.` or not
abbrev pub kind_by : Kind → Bool → List ℕ → ℕ
kind_by k.Word true bytes = marked_kind bytes
kind_by k.Word false bytes = word_kind bytes
kind_by k.Sign marked bytes = sign_kind bytes
kind_by k.Quoted marked bytes = n.quoted
kind_by k.Number marked bytes = n.number
kind_by k.Address marked bytes = n.address
kind_by _ marked bytes = n.outside

abbrev pub kind_of : Bool → Lexeme → ℕ
kind_of marked t = kind_by t.kind marked t.bytes

-- the token is `#` or `.`
abbrev pub marks_by : Kind → List ℕ → Bool
marks_by k.Sign bytes = is_mark bytes
marks_by _ bytes = false

abbrev pub marks : Lexeme → Bool
marks t = marks_by t.kind t.bytes

-- the kinds of tokens, the first of which is directly behind `#` or `.` or not
abbrev pub kinds_of : Bool → List Lexeme → List ℕ
kinds_of marked [] = []
kinds_of marked (t ∷ others) = kind_of marked t ∷ kinds_of (marks t) others

-- whether what stands behind the tokens is directly behind `#` or `.`
abbrev pub marked_behind : Bool → List Lexeme → Bool
marked_behind marked [] = marked
marked_behind marked (t ∷ others) = marked_behind (marks t) others

-- ---- what a token may serve as

-- the letter of an area begins the text
abbrev pub begins_area : List ℕ → Bool
begins_area text =
    begins (c.Either 73 105) text || begins (c.Either 81 113) text || begins (c.Either 77 109) text

-- what a text's tokens are by their kinds: a quoted name begins with a quote, a number has a byte,
-- and an address has the letter of an area
abbrev pub IsSoundBy : Kind → List ℕ → Type 0
IsSoundBy k.Quoted bytes = IsTrue (begins_quoted bytes)
IsSoundBy k.Number bytes = 0 < length bytes
IsSoundBy k.Address bytes = IsTrue (begins_area (bare_address bytes))
IsSoundBy _ bytes = Unit {0}

abbrev pub IsSound : Lexeme → Type 0
IsSound t = IsSoundBy t.kind t.bytes

-- the token has this kind, behind a token that is `#` or `.` or behind one that isn't
pub record HasKind (t : Lexeme) (kind : ℕ) : Type 0 where
  pub marked : Bool
  pub is : kind_of marked t ≡ kind
  pub sound : IsSound t

-- each token has the kind that stands at its place
abbrev pub HaveKinds : List Lexeme → List ℕ → Type 0
HaveKinds [] [] = Unit {0}
HaveKinds (t ∷ others) (kind ∷ kinds) = HasKind t kind × HaveKinds others kinds
HaveKinds _ _ = ⊥
