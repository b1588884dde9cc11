-- Words, numbers, addresses and words outside the profile, at examples whose answers were found by hand.
use Rattle.std.proofs.Common.{◌≡◌, pos, Bool, true, false, List, [], ◌∷◌, map, codes, refl, Some, None}
use Prim.Native.String.{String}
use Rattle.pv_word.specs.declared.types.Ty.TheVariants as ty
use Rattle.pv_lex.specs.declared.token.Kind.TheVariants as k
use Rattle.pv_lex.specs.declared.token.Language.{Language}
use Rattle.pv_lex.specs.declared.token.Language.TheVariants as l
use Rattle.pv_tree.specs.Lexemes.{Lexeme}
use Rattle.pv_lex.specs.Shapes.{is_one_of}
use Rattle.pv_tree.specs.Words.{is_reserved, is_numbered, block_words, statement_words, function_words, function_word, type_word, prefixes}
use Rattle.pv_tree.specs.Literals.{number_type, prefix_type, is_based, loaded_type, type_alone, bare_address, address_bits, address_byte, address_bit}
use Rattle.pv_tree.specs.Outside.{
  is_area_word,
  first_spot,
  behind_all,
  is_outside,
  Spot,
  behind,
  behind_word,
  behind_sign,
  code_words,
  data_words,
  end_words,
  begin_words,
  network_words,
  left_out,
  area_words,
  left_out_instructions,
  timer_words,
  is_outside_stl,
  is_outside_sign_stl,
}

-- ---- words

reserved : map is_reserved (codes "shl" ∷ codes "Int_to_Dint" ∷ codes "BOOL_TO_INT" ∷ codes "RET_VAL" ∷ codes "UC" ∷ codes "IN1"
    ∷ codes "SLW" ∷ codes "Udt" ∷ codes "fb1" ∷ [])
    ≡ true ∷ true ∷ false ∷ false ∷ true ∷ false ∷ false ∷ true ∷ false ∷ []
unfolding is_reserved is_one_of block_words statement_words function_words function_word type_word
reserved = refl

numbered : map is_numbered (codes "FB1" ∷ codes "udt20" ∷ codes "FB" ∷ codes "FB1x" ∷ codes "FB1_0" ∷ codes "UD1" ∷ codes "OB007" ∷ [])
    ≡ true ∷ true ∷ false ∷ false ∷ false ∷ false ∷ true ∷ []
unfolding is_numbered is_one_of prefixes
numbered = refl

-- ---- numbers and addresses

types : map number_type (codes "10" ∷ codes "16#ff" ∷ codes "int#-5" ∷ codes "L#7" ∷ codes "B#16#1" ∷ codes "W#16#1" ∷ codes "dword#16#1"
    ∷ codes "T#1s" ∷ [])
    ≡ None ∷ None ∷ Some ty.Int ∷ Some ty.Dint ∷ Some ty.Byte ∷ Some ty.Word ∷ Some ty.Dword ∷ Some ty.Time ∷ []
unfolding number_type prefix_type is_one_of
types = refl

based : map is_based (codes "10" ∷ codes "16#ff" ∷ codes "2#1" ∷ codes "8#7" ∷ codes "W#16#1" ∷ codes "1_6" ∷ []) ≡ false ∷ true ∷ true
    ∷ true ∷ false ∷ false ∷ []
unfolding is_based is_one_of
based = refl

loaded : loaded_type (pos 65535) (codes "16#FFFF") ≡ Some ty.Word
unfolding is_based is_one_of number_type prefix_type
loaded = refl

loaded_long : loaded_type (pos 65536) (codes "16#10000") ≡ Some ty.Dword
unfolding is_based is_one_of number_type prefix_type
loaded_long = refl

loaded_plain : loaded_type (pos 40000) (codes "40000") ≡ None
unfolding is_based is_one_of number_type prefix_type
loaded_plain = refl

alone : map (type_alone None) (pos 32767 ∷ pos 32768 ∷ []) ≡ ty.Int ∷ ty.Dint ∷ []
alone = refl

bits : map (λ a. address_bits (bare_address a)) (codes "%I0.1" ∷ codes "ib 0" ∷ codes "MW 12" ∷ codes "QD4" ∷ codes "M 3.7" ∷ []) ≡ 1 ∷ 8
    ∷ 16 ∷ 32 ∷ 1 ∷ []
bits = refl

bytes : map (λ a. address_byte (bare_address a)) (codes "%I0.1" ∷ codes "ib 0" ∷ codes "MW 12" ∷ codes "QD4" ∷ codes "M 3.7" ∷ []) ≡ 0 ∷ 0
    ∷ 12 ∷ 4 ∷ 3 ∷ []
bytes = refl

single : map (λ a. address_bit (bare_address a)) (codes "%I0.1" ∷ codes "ib 0" ∷ codes "MW 12" ∷ codes "M 3.17" ∷ []) ≡ 1 ∷ 0 ∷ 0 ∷ 17 ∷ []
single = refl

-- ---- words outside the profile

areas : map is_area_word (codes "DBX0" ∷ codes "pqw12" ∷ codes "DBX" ∷ codes "DBX0a" ∷ []) ≡ true ∷ true ∷ false ∷ false ∷ []
unfolding is_area_word is_one_of area_words
areas = refl

-- the tokens of a text, of which each says by its first letter what it is: w a word, s a sign, n a number, r a real
abbrev word_of : String → Lexeme
word_of text = record { kind = k.Word; bytes = codes text; value = pos 0; place = record { file = 0; offset = 0 } }

abbrev sign_of : String → Lexeme
sign_of text = record { kind = k.Sign; bytes = codes text; value = pos 0; place = record { file = 0; offset = 0 } }

abbrev number_of : String → Lexeme
number_of text = record { kind = k.Number; bytes = codes text; value = pos 0; place = record { file = 0; offset = 0 } }

abbrev real_of : String → Lexeme
real_of text = record { kind = k.Real; bytes = codes text; value = pos 0; place = record { file = 0; offset = 0 } }

-- which of the tokens are outside
abbrev tests : Language → Spot → List Lexeme → List Bool
tests its_language spot [] = []
tests its_language spot (t ∷ others) = is_outside its_language spot t others ∷ tests its_language (behind spot t) others

-- a place in code where an instruction begins, as behind BEGIN of a function block
abbrev in_code : Spot
in_code = record { marked = false; has_code = true; in_code = true; begins = true; labels = false }

behind_begin : behind_all first_spot (word_of "FUNCTION_BLOCK" ∷ word_of "a" ∷ word_of "begin" ∷ []) ≡ in_code
unfolding is_one_of behind_word behind_sign code_words data_words end_words begin_words network_words left_out
    is_area_word area_words is_outside_stl is_outside_sign_stl left_out_instructions timer_words
behind_begin = refl

-- `any`, `x.REAL`, `#any`, `1.5`, `**`, `x.` and `1.5`
anywhere : tests l.Scl first_spot (word_of "any" ∷ word_of "x" ∷ sign_of "." ∷ word_of "REAL" ∷ sign_of "#" ∷ word_of "any" ∷ real_of "1.5"
    ∷ sign_of "**" ∷ sign_of "." ∷ real_of "1.5" ∷ [])
    ≡ true ∷ false ∷ false ∷ false ∷ false ∷ false ∷ true ∷ true ∷ false ∷ true ∷ []
unfolding is_one_of behind_word behind_sign code_words data_words end_words begin_words network_words left_out
    is_area_word area_words is_outside_stl is_outside_sign_stl left_out_instructions timer_words
anywhere = refl

-- `INC 5`, and `INC: inc 5`, whose first word is a label
instructions : tests l.Stl in_code (word_of "INC" ∷ number_of "5" ∷ []) ≡ true ∷ false ∷ []
unfolding is_one_of behind_word behind_sign code_words data_words end_words begin_words network_words left_out
    is_area_word area_words is_outside_stl is_outside_sign_stl left_out_instructions timer_words
instructions = refl

labelled : tests l.Stl in_code (word_of "INC" ∷ sign_of ":" ∷ word_of "inc" ∷ []) ≡ false ∷ false ∷ true ∷ []
unfolding is_one_of behind_word behind_sign code_words data_words end_words begin_words network_words left_out
    is_area_word area_words is_outside_stl is_outside_sign_stl left_out_instructions timer_words
labelled = refl

-- `L INC`, and `L x; INC`
operand_word : tests l.Stl in_code (word_of "L" ∷ word_of "INC" ∷ []) ≡ false ∷ false ∷ []
unfolding is_one_of behind_word behind_sign code_words data_words end_words begin_words network_words left_out
    is_area_word area_words is_outside_stl is_outside_sign_stl left_out_instructions timer_words
operand_word = refl

behind_semicolon : tests l.Stl in_code (word_of "L" ∷ word_of "x" ∷ sign_of ";" ∷ word_of "INC" ∷ []) ≡ false ∷ false ∷ false ∷ true ∷ []
unfolding is_one_of behind_word behind_sign code_words data_words end_words begin_words network_words left_out
    is_area_word area_words is_outside_stl is_outside_sign_stl left_out_instructions timer_words
behind_semicolon = refl

-- `T 5`, `L T 5`, `L T;`
timers : tests l.Stl in_code (word_of "T" ∷ number_of "5" ∷ []) ≡ false ∷ false ∷ []
unfolding is_one_of behind_word behind_sign code_words data_words end_words begin_words network_words left_out
    is_area_word area_words is_outside_stl is_outside_sign_stl left_out_instructions timer_words
timers = refl

timer_operand : tests l.Stl in_code (word_of "L" ∷ word_of "T" ∷ number_of "5" ∷ []) ≡ false ∷ true ∷ false ∷ []
unfolding is_one_of behind_word behind_sign code_words data_words end_words begin_words network_words left_out
    is_area_word area_words is_outside_stl is_outside_sign_stl left_out_instructions timer_words
timer_operand = refl

no_timer : tests l.Stl in_code (word_of "L" ∷ word_of "T" ∷ sign_of ";" ∷ []) ≡ false ∷ false ∷ false ∷ []
unfolding is_one_of behind_word behind_sign code_words data_words end_words begin_words network_words left_out
    is_area_word area_words is_outside_stl is_outside_sign_stl left_out_instructions timer_words
no_timer = refl

-- `+ 5`, and `+ -`
sums : tests l.Stl in_code (sign_of "+" ∷ number_of "5" ∷ []) ≡ true ∷ false ∷ []
unfolding is_one_of behind_word behind_sign code_words data_words end_words begin_words network_words left_out
    is_area_word area_words is_outside_stl is_outside_sign_stl left_out_instructions timer_words
sums = refl

no_sum : tests l.Stl in_code (sign_of "+" ∷ sign_of "-" ∷ []) ≡ false ∷ false ∷ []
unfolding is_one_of behind_word behind_sign code_words data_words end_words begin_words network_words left_out
    is_area_word area_words is_outside_stl is_outside_sign_stl left_out_instructions timer_words
no_sum = refl

-- behind BEGIN of a data block nothing is an instruction; NETWORK begins one
data_values : tests l.Stl first_spot (word_of "DATA_BLOCK" ∷ word_of "a" ∷ word_of "b" ∷ word_of "BEGIN" ∷ word_of "INC" ∷ []) ≡ false
    ∷ false ∷ false ∷ false ∷ false ∷ []
unfolding is_one_of behind_word behind_sign code_words data_words end_words begin_words network_words left_out
    is_area_word area_words is_outside_stl is_outside_sign_stl left_out_instructions timer_words
data_values = refl

network : tests l.Stl in_code (word_of "L" ∷ word_of "x" ∷ word_of "NETWORK" ∷ word_of "CC" ∷ []) ≡ false ∷ false ∷ false ∷ true ∷ []
unfolding is_one_of behind_word behind_sign code_words data_words end_words begin_words network_words left_out
    is_area_word area_words is_outside_stl is_outside_sign_stl left_out_instructions timer_words
network = refl

-- in SCL these are words like others
in_scl : tests l.Scl in_code (word_of "INC" ∷ word_of "T" ∷ number_of "5" ∷ [])
    ≡ false ∷ false ∷ false ∷ []
unfolding is_one_of behind_word behind_sign code_words data_words end_words begin_words network_words left_out
    is_area_word area_words is_outside_stl is_outside_sign_stl left_out_instructions timer_words
in_scl = refl
