-- Words outside the profile: which tokens they are, by the language and by what stands before them.
use Rattle.std.specs.Prelude.{◌≡◌, ℕ, Bool, true, false, ◌&&◌, ◌||◌, not, if◌then◌else◌, List, [], ◌∷◌, ◌++◌, take, drop, codes}
use Rattle.std.specs.Str.{str_eq_ignore_ascii_case}
use Rattle.pv_lex.specs.declared.token.Language.{Language}
use Rattle.pv_lex.specs.declared.token.Language.TheVariants as language
use Rattle.pv_lex.specs.declared.token.Kind.{Kind}
use Rattle.pv_lex.specs.declared.token.Kind.TheVariants as k
use Rattle.pv_lex.specs.Shapes.{is_one_of}
use Rattle.pv_tree.specs.Lexemes.{Lexeme}
use Rattle.pv_tree.specs.Words.{is_digits}

-- ---- the words

-- types, jumps and block types that the profile leaves out, anywhere
unfoldable pub left_out : List (List ℕ)
left_out =
    codes "REAL" ∷ codes "LREAL" ∷ codes "S5TIME" ∷ codes "DATE" ∷ codes "TIME_OF_DAY" ∷
    codes "TOD" ∷ codes "DT" ∷ codes "CHAR" ∷ codes "STRING" ∷ codes "POINTER" ∷ codes "ANY" ∷
    codes "TIMER" ∷ codes "COUNTER" ∷ codes "LABEL" ∷ codes "GOTO" ∷ codes "BLOCK_DB" ∷
    codes "BLOCK_FB" ∷ codes "BLOCK_FC" ∷ []

-- parts of data blocks and peripheral areas, with digits directly behind
unfoldable pub area_words : List (List ℕ)
area_words =
    codes "DBX" ∷ codes "DBB" ∷ codes "DBW" ∷ codes "DBD" ∷ codes "PIB" ∷ codes "PIW" ∷
    codes "PID" ∷ codes "PQB" ∷ codes "PQW" ∷ codes "PQD" ∷ []

-- instructions of STL that the profile leaves out
unfoldable pub left_out_instructions : List (List ℕ)
left_out_instructions =
    codes "OPN" ∷ codes "CDB" ∷ codes "LAR1" ∷ codes "LAR2" ∷ codes "TAR1" ∷ codes "TAR2" ∷
    codes "CAR" ∷ codes "JOS" ∷ codes "JUO" ∷ codes "JBI" ∷ codes "JNBI" ∷ codes "JL" ∷
    codes "CC" ∷ codes "BTI" ∷ codes "ITB" ∷ codes "BTD" ∷ codes "DTB" ∷ codes "RLD" ∷
    codes "RRD" ∷ codes "RLDA" ∷ codes "RRDA" ∷ codes "INC" ∷ codes "DEC" ∷ codes "INVI" ∷
    codes "INVD" ∷ codes "NEGI" ∷ codes "NEGD" ∷ codes "SSI" ∷ codes "SSD" ∷ codes "CAW" ∷
    codes "CAD" ∷ codes "MCRA" ∷ codes "MCRD" ∷ codes "FR" ∷ codes "SD" ∷ codes "SE" ∷
    codes "SF" ∷ codes "SP" ∷ codes "SS" ∷ codes "CU" ∷ codes "CD" ∷ []

-- timers and counters, as operands
unfoldable pub timer_words : List (List ℕ)
timer_words = codes "T" ∷ codes "C" ∷ []

-- one of the words that areas are written with, and digits alone behind it
unfoldable pub is_area_word : List ℕ → Bool
is_area_word text = is_one_of area_words (take 3 text) && is_digits (drop 3 text)

-- ---- what stands before a token

-- the words that open a block with code, those that open another, those that end code, and BEGIN
unfoldable pub code_words : List (List ℕ)
code_words = codes "FUNCTION_BLOCK" ∷ codes "FUNCTION" ∷ codes "ORGANIZATION_BLOCK" ∷ []

unfoldable pub data_words : List (List ℕ)
data_words = codes "DATA_BLOCK" ∷ codes "TYPE" ∷ []

unfoldable pub end_words : List (List ℕ)
end_words = codes "END_FUNCTION_BLOCK" ∷ codes "END_FUNCTION" ∷ codes "END_ORGANIZATION_BLOCK" ∷ []

unfoldable pub begin_words : List (List ℕ)
begin_words = codes "BEGIN" ∷ []

unfoldable pub network_words : List (List ℕ)
network_words = codes "NETWORK" ∷ []

-- what the tokens before a place say of it
pub record Spot : Type 0 where
  pub marked : Bool  -- the token before it is `#` or `.`
  pub has_code : Bool  -- the block around it, as its first word says, is one with code
  pub in_code : Bool  -- it lies behind BEGIN of such a block and before the word that ends it
  pub begins : Bool  -- an instruction begins here
  pub labels : Bool  -- the token before it is a word with which one began: a label before `:`

-- a text's begin
abbrev pub first_spot : Spot
first_spot =
    record { marked = false; has_code = false; in_code = false; begins = false; labels = false }

-- the same block, behind a token that says nothing of what follows it
abbrev pub behind_other : Spot → Spot
behind_other spot = record spot { marked = false; begins = false; labels = false }

abbrev pub same_bytes : List ℕ → List ℕ → Bool
same_bytes a b = str_eq_ignore_ascii_case a b

-- behind a word that isn't directly behind `#` or `.`
unfoldable pub behind_word : Spot → List ℕ → Spot
behind_word spot bytes =
    if is_one_of code_words bytes
    then record (behind_other spot) { has_code = true; in_code = false }
    else (if is_one_of data_words bytes || is_one_of end_words bytes
    then record (behind_other spot) { has_code = false; in_code = false }
    else (if is_one_of begin_words bytes
    then record (behind_other spot) { in_code = spot.has_code; begins = spot.has_code }
    else (if is_one_of network_words bytes
    then record (behind_other spot) { begins = spot.in_code }
    else record (behind_other spot) { labels = spot.begins })))

-- a sign directly before a word that is any
abbrev pub is_mark : List ℕ → Bool
is_mark bytes = same_bytes bytes (codes "#") || same_bytes bytes (codes ".")

-- a sign behind which an instruction begins: `;` in code, and a label's `:`
abbrev pub is_opening : Spot → List ℕ → Bool
is_opening spot bytes =
    (same_bytes bytes (codes ";") && spot.in_code) || (same_bytes bytes (codes ":") && spot.labels)

-- behind a sign
unfoldable pub behind_sign : Spot → List ℕ → Spot
behind_sign spot bytes =
    record (behind_other spot) { marked = is_mark bytes; begins = is_opening spot bytes }

abbrev pub behind_kind : Kind → Spot → List ℕ → Spot
behind_kind k.Word spot bytes = if spot.marked then behind_other spot else behind_word spot bytes
behind_kind k.Sign spot bytes = behind_sign spot bytes
behind_kind _ spot bytes = behind_other spot

abbrev pub behind : Spot → Lexeme → Spot
behind spot t = behind_kind t.kind spot t.bytes

abbrev pub behind_all : Spot → List Lexeme → Spot
behind_all spot [] = spot
behind_all spot (t ∷ others) = behind_all (behind spot t) others

-- ---- which tokens are outside

-- a number; and `:`
abbrev pub is_number : Kind → Bool
is_number k.Number = true
is_number _ = false

abbrev pub is_colon : Kind → List ℕ → Bool
is_colon k.Sign bytes = same_bytes bytes (codes ":")
is_colon _ bytes = false

-- the next token is one
abbrev pub is_number_next : List Lexeme → Bool
is_number_next [] = false
is_number_next (t ∷ others) = is_number t.kind

abbrev pub is_colon_next : List Lexeme → Bool
is_colon_next [] = false
is_colon_next (t ∷ others) = is_colon t.kind t.bytes

-- a word of STL: the first word of an instruction, which no label is, or a timer or a counter
-- before its number
unfoldable pub is_outside_stl : Spot → List ℕ → List Lexeme → Bool
is_outside_stl spot bytes others =
    (spot.begins && is_one_of left_out_instructions bytes && not (is_colon_next others))
    || (spot.in_code && not spot.begins && is_one_of timer_words bytes && is_number_next others)

-- a sign of STL: `+` with a number, where an instruction begins
unfoldable pub is_outside_sign_stl : Spot → List ℕ → List Lexeme → Bool
is_outside_sign_stl spot bytes others =
    spot.begins && same_bytes bytes (codes "+") && is_number_next others

abbrev pub is_outside_word : Language → Spot → List ℕ → List Lexeme → Bool
is_outside_word language.Scl spot bytes others = false
is_outside_word language.Stl spot bytes others = is_outside_stl spot bytes others

abbrev pub is_outside_sign : Language → Spot → List ℕ → List Lexeme → Bool
is_outside_sign language.Scl spot bytes others = false
is_outside_sign language.Stl spot bytes others = is_outside_sign_stl spot bytes others

-- the token of this kind and of these bytes, at such a spot and before the others, is outside the
-- profile
abbrev pub is_outside_kind : Kind → Language → Spot → List ℕ → List Lexeme → Bool
is_outside_kind k.Real its_language spot bytes others = true
is_outside_kind k.Sign its_language spot bytes others =
    same_bytes bytes (codes "**") || is_outside_sign its_language spot bytes others
is_outside_kind k.Word its_language spot bytes others =
    not spot.marked
    && (is_one_of left_out bytes || is_area_word bytes
    || is_outside_word its_language spot bytes others)
is_outside_kind _ its_language spot bytes others = false

abbrev pub is_outside : Language → Spot → Lexeme → List Lexeme → Bool
is_outside its_language spot t others = is_outside_kind t.kind its_language spot t.bytes others

-- none of the tokens from this spot on is outside, the others being behind them
abbrev pub NoneOutside : Language → Spot → List Lexeme → List Lexeme → Type 0
NoneOutside its_language spot [] others = Unit {0}
NoneOutside its_language spot (t ∷ more) others =
    (is_outside its_language spot t (more ++ others) ≡ false) × NoneOutside its_language
    (behind spot t) more others

-- the first token outside the profile: none before it is
pub record IsFirstOutside (its_language : Language) (tokens : List Lexeme)
    (t : Lexeme) : Type 0 where
  pub before : List Lexeme
  pub others : List Lexeme
  pub parts : tokens ≡ before ++ t ∷ others
  pub none_before : NoneOutside its_language first_spot before (t ∷ others)
  pub outside : is_outside its_language (behind_all first_spot before) t others ≡ true

-- no token is outside
abbrev pub IsWithin : Language → List Lexeme → Type 0
IsWithin its_language tokens = NoneOutside its_language first_spot tokens []
