-- Words that matter for what is outside the profile, in one table, and the spot behind a word by it.
use Rattle.std.specs.Prelude.{ℕ, Bool, true, false, ◌&&◌, ◌||◌, not, ◌==◌, if◌then◌else◌, List, [], ◌∷◌, ◌++◌, Option, Some, None, codes}
use Rattle.pv_lex.specs.declared.token.Language.{Language}
use Rattle.pv_lex.specs.declared.token.Language.TheVariants as language
use Rattle.pv_lex.specs.declared.token.Kind.{Kind}
use Rattle.pv_lex.specs.Shapes.{is_one_of}
use Rattle.pv_tree.specs.Lexemes.{Lexeme}
use Rattle.pv_tree.specs.Outside.{left_out, area_words, left_out_instructions, timer_words, Spot, behind_other, code_words, data_words, end_words, begin_words, network_words, same_bytes, is_outside, is_outside_kind, is_outside_sign, behind, behind_kind, behind_word, behind_sign, is_colon_next, is_number_next, is_area_word, is_outside_word}
use Rattle.pv_parse.specs.LookUps.{Entry, look_up, all_are}
use Rattle.pv_parse.specs.declared.spot.Spot.{Spot as CodeSpot}

-- what a word is
abbrev pub no_role : ℕ
no_role = 0

abbrev pub left_out_word : ℕ
left_out_word = 1

abbrev pub area_word : ℕ
area_word = 2

abbrev pub left_out_instruction : ℕ
left_out_instruction = 3

abbrev pub timer_word : ℕ
timer_word = 4

abbrev pub code_word : ℕ
code_word = 5

abbrev pub data_word : ℕ
data_word = 6

abbrev pub end_word : ℕ
end_word = 7

abbrev pub begin_word : ℕ
begin_word = 8

abbrev pub network_word : ℕ
network_word = 9

unfoldable pub role_entries : List Entry
role_entries =
    all_are left_out_word left_out ++ all_are area_word area_words
    ++ all_are left_out_instruction left_out_instructions ++ all_are timer_word timer_words
    ++ all_are code_word code_words ++ all_are data_word data_words ++ all_are end_word end_words
    ++ all_are begin_word begin_words ++ all_are network_word network_words

abbrev pub role_of : List ℕ → ℕ
role_of bytes = look_up role_entries bytes no_role

-- a spot of the code
abbrev pub spot_of : CodeSpot → Spot
spot_of spot =
    record {
      marked = spot.marked;
      has_code = spot.has_code;
      in_code = spot.in_code;
      begins = spot.begins;
      labels = spot.labels;
    }

-- behind a word that opens a block with code, one that opens another or ends code, BEGIN, NETWORK,
-- and any other word
abbrev pub behind_by : Spot → Bool → Bool → Bool → Bool → Spot
behind_by spot code other begin network =
    if code then record (behind_other spot) { has_code = true; in_code = false }
    else (if other then record (behind_other spot) { has_code = false; in_code = false }
    else (if begin then record (behind_other spot) { in_code = spot.has_code; begins = spot.has_code }
    else (if network then record (behind_other spot) { begins = spot.in_code }
    else record (behind_other spot) { labels = spot.begins })))

abbrev pub behind_role : Spot → ℕ → Spot
behind_role spot role =
    behind_by spot (role == code_word) (role == data_word || role == end_word) (role == begin_word)
    (role == network_word)

-- a word is outside where no mark stands before it
abbrev pub is_outside_unmarked : Language → Spot → List ℕ → List Lexeme → Bool
is_outside_unmarked its_language spot bytes others =
    is_one_of left_out bytes || is_area_word bytes
    || is_outside_word its_language spot bytes others

-- a word of this role is outside as only STL has it: the first word of an instruction, which no
-- label is, or a timer or a counter before its number
abbrev pub outside_role : Spot → ℕ → List Lexeme → Bool
outside_role spot role others =
    (spot.begins && (role == left_out_instruction) && not (is_colon_next others))
    || (spot.in_code && not spot.begins && (role == timer_word) && is_number_next others)

abbrev pub word_role : Language → Spot → ℕ → List Lexeme → Bool
word_role language.Scl spot role others = false
word_role language.Stl spot role others = outside_role spot role others

-- a word that is of this role is outside where no mark stands before it
abbrev pub is_outside_by_role : Language → Spot → ℕ → List ℕ → List Lexeme → Bool
is_outside_by_role its_language spot role bytes others =
    (role == left_out_word) || is_area_word bytes || word_role its_language spot role others

-- the spot behind a token, where the token isn't outside: of any token, of a word where no mark stands
-- before it, and of a sign
abbrev pub unless_outside : Bool → Spot → Option Spot
unless_outside outside next = if outside then None else Some next

abbrev pub passed_kind : Kind → Language → Spot → List ℕ → List Lexeme → Option Spot
passed_kind kind its_language spot bytes others =
    unless_outside (is_outside_kind kind its_language spot bytes others) (behind_kind kind spot bytes)

abbrev pub passed_word : Language → Spot → List ℕ → List Lexeme → Option Spot
passed_word its_language spot bytes others =
    unless_outside (is_outside_unmarked its_language spot bytes others) (behind_word spot bytes)

abbrev pub passed_sign : Language → Spot → List ℕ → List Lexeme → Option Spot
passed_sign its_language spot bytes others =
    unless_outside (same_bytes bytes (codes "**") || is_outside_sign its_language spot bytes others)
    (behind_sign spot bytes)

-- the first of the tokens from this spot on that is outside
abbrev pub find_outside : Language → Spot → List Lexeme → Option Lexeme
find_outside its_language spot [] = None
find_outside its_language spot (t ∷ others) =
    if is_outside its_language spot t others then Some t
    else find_outside its_language (behind spot t) others
